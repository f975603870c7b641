-- The store is what the packed one is.
use Rattle.std.proofs.Common.{◌≡◌, Some, None, sym, subst}
use Rattle.model.specs.Capabilities.Orders.{descendants, next_in}
use Rattle.packed_slots.specs.Packing.{Packed, packed_order, packed_slots}
use Rattle.packed_slots.proofs.indexed.IndexedSlotsSlotStore.is_shared_beside.Goals as goal

pub is_shared_beside-requires-clause-none_behind : goal.is_shared_beside-requires-clause-none_behind
is_shared_beside-requires-clause-none_behind c =
    subst (λ (p : Packed). next_in (descendants (packed_order p) (packed_slots p) c.args.root) (Some c.args.last) ≡ None) (sym c.self.view_is)
    c.requires.none_behind
