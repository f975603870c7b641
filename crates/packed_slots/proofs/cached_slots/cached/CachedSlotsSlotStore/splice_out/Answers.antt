-- What is kept is mapped by other slots.
use Rattle.std.proofs.Common.{subst, sym}
use Rattle.packed_slots.specs.cached_slots.Mappings.{AreMapped}
use Rattle.model.specs.Capabilities.Slots.{Slots}
use Rattle.packed_slots.proofs.cached_slots.Mapped.{mapped-spliced}
use Rattle.packed_slots.proofs.cached_slots.cached.CachedSlotsSlotStore.splice_out.Goals as goal

pub invariant_of-self : goal.invariant_of-self
invariant_of-self g c =
    subst (λ (s : Slots). AreMapped s c.forget.new.cache) (sym c.splice_out.ensures.slots)
    (mapped-spliced (g.S.SlotMap.slots c.self.inside.store) c.forget.new.cache c.args.slot c.forget.ensures)
