-- The neighbours show it.
use Rattle.std.proofs.Common.{◌∙◌, sym}
use Rattle.packed_slots.proofs.Sharing.{alone-so, shared-so}
use Rattle.packed_slots.proofs.store.PackedSlotsSlotStore.is_shared.Goals as goal

pub returns-clause-shared : goal.returns-clause-shared
returns-clause-shared c = λ is. shared-so c.args.self.now c.args.slot c.is_packed.ensures.packed c.requires (sym c.has_like_neighbour.ensures ∙ is)

pub returns-clause-alone : goal.returns-clause-alone
returns-clause-alone c = λ is. alone-so c.args.self.now c.args.slot c.is_packed.ensures.packed c.requires (sym c.has_like_neighbour.ensures ∙ is)
