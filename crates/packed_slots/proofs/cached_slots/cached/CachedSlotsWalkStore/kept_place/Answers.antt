-- What is kept lies in memory.
use Rattle.std.proofs.Common.{List, ℕ, subst, sym}
use Rattle.packed_slots.specs.cached_slots.Mappings.{LeavesAgree}
use Rattle.packed_slots.specs.cached_slots.KeptLeaves.{AreAmong, leaf_of}
use Rattle.packed_slots.proofs.cached_slots.Kept.{in-memory}
use Rattle.packed_slots.proofs.cached_slots.cached.CachedSlotsWalkStore.kept_place.Goals as goal

pub kept_place-requires : goal.kept_place-requires
kept_place-requires g c =
    let agree = subst (λ s. LeavesAgree (g.S.SlotMap.slots s) (g.S.SlotStore.memory s) c.args.root) (sym c.self.view_is) c.requires in
    subst (λ (m : List ℕ). AreAmong (leaf_of m) c.self.inside.cache) (sym c.mem.ensures)
    (in-memory (g.S.SlotMap.slots c.self.inside.store) (g.S.SlotStore.memory c.self.inside.store) c.args.root c.self.inside.cache agree c.self.invariant)
