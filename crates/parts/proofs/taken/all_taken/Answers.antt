-- By one thread more.
use Rattle.std.proofs.Common.{[]}
use Rattle.parts.specs.Taken.{taken_inside}
use Rattle.parts.proofs.TakenLists.{thread-next, thread-none}
use Rattle.parts.proofs.taken.all_taken.Goals as goal

pub loop-taker-preserved : goal.loop-taker-preserved
loop-taker-preserved c =
    thread-next (taken_inside c.args.objects c.args.threads c.args.all.now) c.args.all.now c.loop-taker.taker-index [] c.taker-item.result
    c.loop-taker.found.items c.note_inside.new.found.items c.loop-taker-test.true c.taker-item.is c.loop-taker.invariant c.in_ok-note_inside.ensures

pub returns : goal.returns
returns c =
    thread-none (taken_inside c.args.objects c.args.threads c.args.all.now) c.args.all.now c.loop-taker.taker-index [] c.loop-taker.found.items
    c.loop-taker-test.false c.loop-taker.invariant
