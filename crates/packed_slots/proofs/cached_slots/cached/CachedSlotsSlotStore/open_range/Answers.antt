-- Mappings stay.
use Rattle.std.proofs.Common.{◌≡◌, ◌+◌, ◌<◌, ◌≤◌, ℕ, None, subst, sym}
use Rattle.packed_slots.specs.cached_slots.Mappings.{AreMapped}
use Rattle.model.specs.Capabilities.Slots.{Slots}
use Rattle.packed_slots.proofs.cached_slots.Mapped.{mapped-opened}
use Rattle.packed_slots.proofs.cached_slots.cached.CachedSlotsSlotStore.open_range.Goals as goal

pub invariant_of-self : goal.invariant_of-self
invariant_of-self g c =
    let first = c.args.first in
    let none = subst (λ s. (x : ℕ) → first ≤ x → x < first + c.args.count → g.S.SlotMap.slots s x ≡ None) (sym c.self.view_is) c.requires.closed in
    subst (λ (s : Slots). AreMapped s c.self.inside.cache) (sym c.open_range.ensures.slots)
    (mapped-opened (g.S.SlotMap.slots c.self.inside.store) c.self.inside.cache first c.args.count none c.self.invariant)
