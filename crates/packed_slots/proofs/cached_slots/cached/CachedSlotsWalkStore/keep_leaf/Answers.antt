-- The leaf in memory is that of a mapping.
use Rattle.std.proofs.Common.{◌/◌, ◌^◌, List, ℕ, arith, subst, sym}
use Rattle.packed_slots.specs.cached_slots.Mappings.{LeavesAgree}
use Rattle.packed_slots.specs.cached_slots.KeptLeaves.{AreAmong, leaf_of}
use Rattle.packed_slots.proofs.cached_slots.Kept.{in-memory, leaf-mapped}
use Rattle.packed_slots.proofs.cached_slots.cached.CachedSlotsWalkStore.keep_leaf.Goals as goal

pub keep-requires : goal.keep-requires
keep-requires g c =
    let agree = subst (λ s. LeavesAgree (g.S.SlotMap.slots s) (g.S.SlotStore.memory s) c.args.root) (sym c.self.view_is) c.requires in
    subst (λ (m : List ℕ). AreAmong (leaf_of m) c.self.inside.cache) (sym c.mem.ensures)
    (in-memory (g.S.SlotMap.slots c.self.inside.store) (g.S.SlotStore.memory c.self.inside.store) c.args.root c.self.inside.cache agree c.self.invariant)

pub invariant_of-self : goal.invariant_of-self
invariant_of-self g c =
    let store = c.self.inside.store in
    let agree = subst (λ s. LeavesAgree (g.S.SlotMap.slots s) (g.S.SlotStore.memory s) c.args.root) (sym c.self.view_is) c.requires in
    leaf-mapped (g.S.SlotMap.slots store) c.mem.result.now c.args.root (c.args.address / 2 ^ 12) c.self.inside.cache c.keep.new.self
    (omega (arith, c.ranges.address.fits))
    (subst (λ (m : List ℕ). LeavesAgree (g.S.SlotMap.slots store) m c.args.root) (sym c.mem.ensures) agree) c.keep.ensures.kept c.self.invariant
