-- Mappings stay.
use Rattle.std.proofs.Common.{◌≡◌, Some, subst, sym}
use Rattle.packed_slots.specs.cached_slots.Mappings.{AreMapped}
use Rattle.model.specs.Capabilities.Slots.{Slots, empty_entry}
use Rattle.packed_slots.proofs.cached_slots.Mapped.{mapped-inserted}
use Rattle.packed_slots.proofs.cached_slots.cached.CachedSlotsSlotStore.insert.Goals as goal

pub invariant_of-self : goal.invariant_of-self
invariant_of-self g c =
    let empty = subst (λ s. g.S.SlotMap.slots s c.args.slot ≡ Some empty_entry) (sym c.self.view_is) c.requires.empty in
    subst (λ (s : Slots). AreMapped s c.self.inside.cache) (sym c.insert.ensures.slots)
    (mapped-inserted (g.S.SlotMap.slots c.self.inside.store) c.self.inside.cache c.args.slot c.args.capability c.args.parent empty c.self.invariant)
