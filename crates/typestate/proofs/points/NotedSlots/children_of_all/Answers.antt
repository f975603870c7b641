-- The children of one slot more.
use Rattle.std.proofs.Common.{◌∙◌, ◌++◌, [], ap}
use Rattle.model.specs.Acceptance.NotedStates.{NotedSlot, SlotKey}
use Rattle.typestate.specs.Families.{children_of}
use Rattle.typestate.proofs.Appended.{all-told, one-more-told}
use Rattle.typestate.proofs.points.NotedSlots.children_of_all.Goals as goal

pub loop-slot-preserved : goal.loop-slot-preserved
loop-slot-preserved c =
    one-more-told (λ (s : NotedSlot). children_of c.args.self.now.changes.now s.key) c.args.going.now c.loop-slot.slot-index c.slot-item.result []
    c.loop-slot.children.items
    c.note_children_of.new.found.items c.loop-slot-test.true c.slot-item.is c.loop-slot.invariant
    (c.in_ok-note_children_of.ensures ∙ ap (λ (k : SlotKey). c.loop-slot.children.items ++ children_of c.args.self.now.changes.now k) c.key.ensures)

pub returns : goal.returns
returns c =
    all-told (λ (s : NotedSlot). children_of c.args.self.now.changes.now s.key) c.args.going.now c.loop-slot.slot-index [] c.loop-slot.children.items
    c.loop-slot-test.false c.loop-slot.invariant
