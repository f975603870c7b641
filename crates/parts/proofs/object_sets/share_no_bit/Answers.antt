-- By one word more.
use Rattle.std.proofs.Common.{arith}
use Rattle.parts.proofs.ObjectSets.{share-end, share-next}
use Rattle.parts.proofs.object_sets.share_no_bit.Goals as goal

pub loop-place-init : goal.loop-place-init
loop-place-init c = λ k lt. absurd (omega (arith, lt))

pub loop-place-preserved : goal.loop-place-preserved
loop-place-preserved c =
    share-next c.args.one.now c.args.other.now c.share_bit.result c.loop-place.place c.share_bit.ensures c.if-share_bit.false c.loop-place.invariant

pub returns : goal.returns
returns c = λ _. share-end c.args.one.now c.args.other.now c.loop-place.place c.loop-place-test.false c.loop-place.invariant
