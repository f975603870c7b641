-- A mapping moves with its capability.
use Rattle.std.proofs.Common.{◌≡◌, Some, subst, sym}
use Rattle.packed_slots.specs.cached_slots.Mappings.{AreMapped}
use Rattle.model.specs.Capabilities.Slots.{IsFull, Slots, empty_entry}
use Rattle.packed_slots.proofs.cached_slots.Mapped.{mapped-relocated}
use Rattle.packed_slots.proofs.cached_slots.cached.CachedSlotsSlotStore.relocate.Goals as goal

pub invariant_of-self : goal.invariant_of-self
invariant_of-self g c =
    let full = subst (λ s. IsFull (g.S.SlotMap.slots s) c.args.from) (sym c.self.view_is) c.requires.full in
    let empty = subst (λ s. g.S.SlotMap.slots s c.args.to ≡ Some empty_entry) (sym c.self.view_is) c.requires.empty in
    subst (λ (s : Slots). AreMapped s c.self.inside.cache) (sym c.relocate.ensures.slots)
    (mapped-relocated (g.S.SlotMap.slots c.self.inside.store) c.args.from c.args.to full empty c.self.inside.cache c.self.invariant)
