-- A depth of 0 or 1 does not depend on the bound up to which it is counted.
use Rattle.std.proofs.Common.{ℕ, zero, suc, ◌≡◌, true, false, if◌then◌else◌, Some, None, refl, arith}
use Rattle.model.specs.declared.capabilities.Cap.{Cap}
use Rattle.model.specs.Capabilities.CapabilityKinds.{is_untyped}
use Rattle.model.specs.Capabilities.Slots.{depth_within}
use Rattle.model.proofs.Depths.{Parents, depth-le, depth-none, depth-some}
use Rattle.typestate.specs.SlotChanges.{boot_depth}

pub depth-first : (parents : Parents) (slot : ℕ) → depth_within 0 parents slot ≡ 0
depth-first parents slot = omega (arith, depth-le 0 parents slot)

pub flat-depth : (parents : Parents) (m slot : ℕ) → depth_within (suc m) parents slot ≡ 0 → (n : ℕ) → depth_within n parents slot ≡ 0
flat-depth parents m slot flat n =
    elim (parents slot) as (λ o. parents slot ≡ o → depth_within n parents slot ≡ 0) [
      | None ↦ λ none. depth-none n parents slot none
      | Some parent ↦ λ is. absurd (omega (arith, flat, depth-some m parents slot parent is))
    ] refl

pub second-depth : (parents : Parents) (m slot : ℕ) → depth_within (suc (suc m)) parents slot ≡ 1 → (n : ℕ) → depth_within (suc n) parents slot ≡ 1
second-depth parents m slot one n =
    elim (parents slot) as (λ o. parents slot ≡ o → depth_within (suc n) parents slot ≡ 1) [
      | None ↦ λ none. absurd (omega (arith, one, depth-none (suc (suc m)) parents slot none))
      | Some parent ↦ λ is.
          let flat : depth_within (suc m) parents parent ≡ 0 = omega (arith, one, depth-some (suc m) parents slot parent is) in
          omega (arith, depth-some n parents slot parent is, flat-depth parents m parent flat n)
    ] refl

-- as deep as a boot slot above such a capability
pub hangs-below : (parents : Parents) (slot : ℕ) (capability : Cap) → depth_within 256 parents slot ≡ (if is_untyped capability then 0 else 1)
    → (n : ℕ) → depth_within n parents slot ≡ boot_depth n capability
hangs-below parents slot capability is zero = depth-first parents slot
hangs-below parents slot capability is (suc n) =
    elim (is_untyped capability) as (λ b. depth_within 256 parents slot ≡ (if b then 0 else 1) → depth_within (suc n) parents slot ≡ (if b then 0 else 1)) [
      | true ↦ λ flat. flat-depth parents 255 slot flat (suc n)
      | false ↦ λ one. second-depth parents 254 slot one n
    ] is
