-- The first descendant after here is the one that is looked for.
use Rattle.std.proofs.Common.{ℕ, ◌≡◌, Some, filter, length}
use Rattle.model.specs.Capabilities.Slots.{IsFull}
use Rattle.model.specs.Capabilities.Orders.{next_in, descendants, first_of}
use Rattle.model.specs.Capabilities.Slots.{is_descendant}
use Rattle.model.proofs.Orders.{behind}
use Rattle.slots.proofs.stores.SlotStore.next_below.Given as goal

abbrev pub invariant-slots : goal.invariant-slots
invariant-slots g l =
    let slots = g.Self.SlotMap.slots l.self in
    let order = g.Self.SlotStore.order l.self in
    record {
      full : (slot : ℕ) → l.at ≡ Some slot → IsFull slots slot;
      rest : first_of (filter (is_descendant slots l.root) (behind order l.at)) ≡ next_in (descendants order slots l.root) l.fn.previous;
    }

abbrev pub decreases-slots : goal.decreases-slots
decreases-slots g l = length (behind (g.Self.SlotStore.order l.self) l.at)
