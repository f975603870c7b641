-- What is marked goes, and what is not marked yet comes after the slot that was marked last.
use Rattle.std.proofs.Common.{ℕ, ◌≡◌, Some, length, true}
use Rattle.cnode_ops.specs.Refusals.{goes}
use Rattle.cnode_ops.specs.Sets.{listed_in}
use Rattle.cnode_ops.proofs.MarkedSlots.{AreMarked}
use Rattle.cnode_ops.proofs.refusals.mark_all.Given as goal
use Rattle.model.proofs.Orders.{behind}

abbrev pub invariant-slots : goal.invariant-slots
invariant-slots g l =
    let slots = g.S.SlotMap.slots l.store in
    record {
      known : (slot : ℕ) → l.at ≡ Some slot → goes slots l.set slot ≡ true;
      marked : AreMarked (listed_in (g.S.SlotStore.order l.store) slots l.set) (goes slots l.set) l.marks l.at;
    }

abbrev pub decreases-slots : goal.decreases-slots
decreases-slots g l = length (behind (listed_in (g.S.SlotStore.order l.store) (g.S.SlotMap.slots l.store) l.set) l.at)
