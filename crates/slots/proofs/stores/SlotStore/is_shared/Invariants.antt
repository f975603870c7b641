-- Who shares the object is after the slot that was looked at last.
use Rattle.std.proofs.Common.{ℕ, ◌≡◌, ◌≢◌, ◌<◌, Some, length}
use Rattle.model.specs.Capabilities.Orders.{IsOrderOf}
use Rattle.model.specs.Capabilities.Slots.{IsFull}
use Rattle.model.specs.Shared.Lists.{times_in}
use Rattle.model.proofs.Orders.{behind}
use Rattle.slots.specs.Kin.{object_at}
use Rattle.slots.proofs.stores.SlotStore.is_shared.Given as goal

abbrev pub invariant-slots : goal.invariant-slots
invariant-slots g l =
    let slots = g.Self.SlotMap.slots l.self in
    let order = g.Self.SlotStore.order l.self in
    record {
      full : (slot : ℕ) → l.at ≡ Some slot → IsFull slots slot;
      rest : IsOrderOf order slots → (s : ℕ) → s ≢ l.fn.slot → object_at slots s ≡ Some l.offset → 0 < times_in (behind order l.at) s;
    }

abbrev pub decreases-slots : goal.decreases-slots
decreases-slots g l = length (behind (g.Self.SlotStore.order l.self) l.at)
