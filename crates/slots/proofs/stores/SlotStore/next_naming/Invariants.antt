-- The first slot after here that names the object is the one that is looked for.
use Rattle.std.proofs.Common.{ℕ, ◌≡◌, Some, filter, length}
use Rattle.model.specs.Capabilities.Slots.{IsFull}
use Rattle.model.specs.Capabilities.Orders.{next_in, first_of}
use Rattle.model.proofs.Orders.{behind}
use Rattle.slots.specs.Listed.{is_naming, naming}
use Rattle.slots.proofs.stores.SlotStore.next_naming.Given as goal

abbrev pub invariant-slots : goal.invariant-slots
invariant-slots g l =
    let slots = g.Self.SlotMap.slots l.self in
    let order = g.Self.SlotStore.order l.self in
    record {
      full : (slot : ℕ) → l.at ≡ Some slot → IsFull slots slot;
      rest : first_of (filter (is_naming slots l.object) (behind order l.at)) ≡ next_in (naming order slots l.object) l.fn.previous;
    }

abbrev pub decreases-slots : goal.decreases-slots
decreases-slots g l = length (behind (g.Self.SlotStore.order l.self) l.at)
