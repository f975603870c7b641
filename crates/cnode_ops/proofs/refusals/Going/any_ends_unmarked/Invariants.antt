-- What goes, and whose object has such a slot, comes after the slot that was looked at last.
use Rattle.std.proofs.Common.{◌/◌, length}
use Rattle.cnode_ops.specs.Marked.{is_unmarked}
use Rattle.cnode_ops.specs.Sets.{listed_in}
use Rattle.cnode_ops.proofs.AskedSlots.{AreAsked}
use Rattle.cnode_ops.proofs.refusals.Going.any_ends_unmarked.Given as goal
use Rattle.model.proofs.Orders.{behind}

abbrev pub invariant-slots : goal.invariant-slots
invariant-slots g l =
    let slots = g.S.SlotMap.slots l.self.store.now in
    AreAsked slots (length (g.S.SlotStore.memory l.self.store.now) / 16) l.self.set (listed_in (g.S.SlotStore.order l.self.store.now) slots l.self.set)
    (is_unmarked slots l.marks) (l.passed.first, l.passed.count) l.at

abbrev pub decreases-slots : goal.decreases-slots
decreases-slots g l = length (behind (listed_in (g.S.SlotStore.order l.self.store.now) (g.S.SlotMap.slots l.self.store.now) l.self.set) l.at)
