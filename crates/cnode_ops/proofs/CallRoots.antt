-- The root of a capability space is a capability, and names a CNode with open slots, if one.
use Rattle.std.proofs.Common.{ℕ, ◌≡◌, ◌-◌, ◌+◌, ◌/◌, ◌%◌, ◌^◌, ◌≤◌, sym, subst, arith}
use Rattle.std.proofs.Math.Nat.{zero-mod}
use Rattle.std.proofs.lemmas.Nat.{pow_pos}
use Rattle.cnode_ops.proofs.OpenNodes.{boot-open, sound-nodes}
use Rattle.cnode_ops.specs.Nodes.{HasOpenSlots}
use Rattle.model.specs.Capabilities.CapabilityWords.{IsCapability}
use Rattle.model.specs.Kernel.Soundness.{IsSound}
use Rattle.model.specs.Kernel.State.{State}
use Rattle.model.specs.declared.capabilities.Cap.{Cap}
use Rattle.model.specs.declared.capabilities.Cap.TheVariants.{CNode}
use Rattle.soundness.specs.Calls.{IsRoot, of_slot, of_loader}

boot-valid : (radix : ℕ) → 1 ≤ radix → radix ≤ 14 → IsCapability (CNode 0 radix (32 - radix))
boot-valid radix least most =
    let size : ℕ = (32 - radix) % 2 ^ 5 in
    let some = pow_pos size in
    let none : (32 - radix) / 2 ^ 5 ≡ 0 = omega (arith, least) in
    ((zero-mod (2 ^ (radix + 4)), omega arith), least, most, (omega arith, omega (arith, none, some), omega (arith, least, most)))

pub root-valid : (s : State) (root : Cap) → IsSound s → IsRoot s root → IsCapability root
root-valid s root sound (of_slot slot is) = subst IsCapability is (sound.slots.derivation.valid slot)
root-valid s root sound (of_loader is) = subst IsCapability (sym is) (boot-valid s.boot_radix sound.shape.least_radix sound.shape.most_radix)

pub root-open : (s : State) (root : Cap) → IsSound s → IsRoot s root → HasOpenSlots s.slots root
root-open s root sound (of_slot slot is) = subst (λ (c : Cap). HasOpenSlots s.slots c) is ((sound-nodes s sound).nodes slot)
root-open s root sound (of_loader is) = subst (λ (c : Cap). HasOpenSlots s.slots c) (sym is) (boot-open s sound (32 - s.boot_radix))
