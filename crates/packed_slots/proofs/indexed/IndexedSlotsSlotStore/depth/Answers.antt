-- The store is what the packed one is.
use Rattle.std.proofs.Common.{subst}
use Rattle.model.specs.Capabilities.Slots.{IsDerivation}
use Rattle.packed_slots.specs.Packing.{Packed, packed_slots}
use Rattle.packed_slots.proofs.indexed.IndexedSlotsSlotStore.depth.Goals as goal

pub returns-clause-derivation : goal.returns-clause-derivation
returns-clause-derivation c = subst (λ (p : Packed). IsDerivation (packed_slots p)) c.self.view_is c.depth.ensures.derivation
