-- Mappings stay.
use Rattle.std.proofs.Common.{◌≡◌, ◌+◌, ◌<◌, ◌≤◌, ℕ, Some, subst, sym}
use Rattle.packed_slots.specs.cached_slots.Mappings.{AreMapped}
use Rattle.model.specs.Capabilities.Slots.{Slots, empty_entry}
use Rattle.packed_slots.proofs.cached_slots.Mapped.{mapped-closed}
use Rattle.packed_slots.proofs.cached_slots.cached.CachedSlotsSlotStore.close_range.Goals as goal

pub invariant_of-self : goal.invariant_of-self
invariant_of-self g c =
    let first = c.args.first in
    let empty = subst (λ s. (x : ℕ) → first ≤ x → x < first + c.args.count → g.S.SlotMap.slots s x ≡ Some empty_entry) (sym c.self.view_is) c.requires.empty in
    subst (λ (s : Slots). AreMapped s c.self.inside.cache) (sym c.close_range.ensures.slots)
    (mapped-closed (g.S.SlotMap.slots c.self.inside.store) c.self.inside.cache first c.args.count empty c.self.invariant)
