-- The root shows it, or the slot after its descendants.
use Rattle.std.proofs.Common.{◌∙◌, sym}
use Rattle.packed_slots.proofs.Edges.{beside-so, none-beside}
use Rattle.packed_slots.proofs.store.PackedSlotsSlotStore.is_shared_beside.Goals as goal

pub returns-clause-shared : goal.returns-clause-shared
returns-clause-shared c =
    let p = c.args.self.now in
    λ is. beside-so p c.args.root c.args.last c.args.slot c.is_packed.ensures.packed c.requires.below c.requires.last_below c.requires.none_behind
    (sym c.has_like_edge.ensures ∙ is)

pub returns-clause-alone : goal.returns-clause-alone
returns-clause-alone c =
    let p = c.args.self.now in
    λ is. none-beside p c.args.root c.args.last c.args.slot c.is_packed.ensures.packed c.requires.below c.requires.last_below c.requires.none_behind
    (sym c.has_like_edge.ensures ∙ is)
