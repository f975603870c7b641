-- No slot so far names memory that ends after the offset: one that does comes after the last one.
use Rattle.std.proofs.Common.{ℕ, ◌≡◌, Some, length, nat_lt}
use Rattle.cnode_ops.proofs.Laws.{AreBehind}
use Rattle.kernel_machine.proofs.places.reaches_behind.Given as goal
use Rattle.model.proofs.Orders.{behind}
use Rattle.model.specs.Capabilities.Slots.{IsFull, capability_at, is_full}
use Rattle.model.specs.Kernel.Setup.{memory_end}

abbrev pub invariant-slots : goal.invariant-slots
invariant-slots g l =
    let slots = g.S.SlotMap.slots l.store in
    record {
      full : (slot : ℕ) → l.at ≡ Some slot → IsFull slots slot;
      rest : AreBehind (g.S.SlotStore.order l.store) (is_full slots) (λ slot. nat_lt l.offset (memory_end (capability_at slots slot))) l.at;
    }

abbrev pub decreases-slots : goal.decreases-slots
decreases-slots g l = length (behind (g.S.SlotStore.order l.store) l.at)
