-- One slot more has no children.
use Rattle.std.proofs.Common.{◌≡◌, ◌∙◌, true, false, [], sym, ap}
use Rattle.model.specs.Acceptance.NotedStates.{NotedSlot, SlotKey}
use Rattle.typestate.specs.Families.{children_of}
use Rattle.typestate.proofs.Appended.{all-told, one-more-told}
use Rattle.typestate.proofs.points.NotedSlots.are_childless.Goals as goal

pub loop-slot-preserved : goal.loop-slot-preserved
loop-slot-preserved c =
    one-more-told (λ (s : NotedSlot). children_of c.args.self.now.changes.now s.key) c.args.slots.now c.loop-slot.slot-index c.slot-item.result [] [] []
    c.loop-slot-test.true c.slot-item.is c.loop-slot.invariant
    (sym (c.has_child.ensures c.if-has_child.false) ∙ ap (λ (k : SlotKey). children_of c.args.self.now.changes.now k) c.key.ensures)

pub returns-then-has_child : goal.returns-then-has_child
returns-then-has_child c = λ clash. absurd (let no : false ≡ true = clash in cc)

pub returns : goal.returns
returns c = λ _.
    sym (all-told (λ (s : NotedSlot). children_of c.args.self.now.changes.now s.key) c.args.slots.now c.loop-slot.slot-index [] []
    c.loop-slot-test.false c.loop-slot.invariant)
