-- By one number more.
use Rattle.std.proofs.Common.{arith}
use Rattle.parts.proofs.ObjectSets.{marked-all, marked-next, marked-none}
use Rattle.parts.proofs.object_sets.words_of.Goals as goal

pub loop-place-init : goal.loop-place-init
loop-place-init c = marked-none c.args.numbers.now _

pub loop-place-preserved : goal.loop-place-preserved
loop-place-preserved c =
    marked-next c.args.numbers.now c.loop-place.place c.at.result c.loop-place.words.items c.mark.new.words.items
    (omega (arith, c.loop-place-test.true, c.len-place-end.ensures)) c.at.ensures c.in_ok-mark.ensures.own c.in_ok-mark.ensures.kept c.loop-place.invariant

pub returns-clause-marked : goal.returns-clause-marked
returns-clause-marked c =
    marked-all c.args.numbers.now c.loop-place.place c.loop-place.words.items (omega (arith, c.loop-place-test.false, c.len-place-end.ensures))
    c.loop-place.invariant
