-- One slot more.
use Rattle.std.proofs.Common.{[]}
use Rattle.typestate.specs.Descents.{if_other}
use Rattle.typestate.proofs.Appended.{all-told, one-more-told}
use Rattle.typestate.proofs.levels.others.Goals as goal

pub loop-slot-preserved : goal.loop-slot-preserved
loop-slot-preserved c =
    one-more-told (if_other c.args.key) c.args.slots.now c.loop-slot.slot-index c.slot-item.result [] c.loop-slot.others.items c.note_other.new.others.items
    c.loop-slot-test.true c.slot-item.is
    c.loop-slot.invariant c.in_ok-note_other.ensures

pub returns : goal.returns
returns c = all-told (if_other c.args.key) c.args.slots.now c.loop-slot.slot-index [] c.loop-slot.others.items c.loop-slot-test.false c.loop-slot.invariant
