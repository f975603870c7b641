-- What is left to take out, and what was found of it last.
use Rattle.std.proofs.Common.{ℕ, length}
use Rattle.model.specs.Capabilities.Orders.{descendants}
use Rattle.model.specs.Capabilities.Slots.{SameOutside}
use Rattle.derivation.proofs.Removed.{IsLeft}
use Rattle.derivation.proofs.removals.remove_descendants.Given as goal

abbrev pub invariant-slots : goal.invariant-slots
invariant-slots g l =
    let before = g.S.SlotMap.slots l.fn.store in
    record {
      left : IsLeft before (g.S.SlotMap.slots l.store) (g.S.SlotStore.order l.store) l.root l.next;
      bytes : SameOutside before (g.S.SlotStore.memory l.fn.store) (g.S.SlotStore.memory l.store);
    }

abbrev pub decreases-slots : goal.decreases-slots
decreases-slots g l = length (descendants (g.S.SlotStore.order l.store) (g.S.SlotMap.slots l.store) l.root)
