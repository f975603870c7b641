-- A slot stays as deep as it was where it and all that it derives from keep their parents.
use Rattle.std.proofs.Common.{ℕ, zero, suc, ◌≡◌, ◌∙◌, ◌+◌, Option, Some, None, refl, sym, ap}
use Rattle.model.specs.Capabilities.Slots.{depth_within}
use Rattle.model.proofs.Depths.{depth-none, depth-some}

pub depth-kept : (old new : ℕ → Option ℕ) (Kept : ℕ → Type 0) → ((slot : ℕ) → Kept slot → new slot ≡ old slot)
    → ((slot parent : ℕ) → Kept slot → old slot ≡ Some parent → Kept parent) → (n slot : ℕ) → Kept slot → depth_within n new slot ≡ depth_within n old slot
unfolding depth_within
depth-kept old new Kept same above zero slot kept = refl
depth-kept old new Kept same above (suc n) slot kept = elim (old slot) as (λ o. old slot ≡ o → depth_within (suc n) new slot ≡ depth_within (suc n) old slot) [
  | None ↦ λ none. depth-none (suc n) new slot (same slot kept ∙ none) ∙ sym (depth-none (suc n) old slot none)
  | Some parent ↦ λ some.
      depth-some n new slot parent (same slot kept ∙ some)
      ∙ ap (λ (d : ℕ). d + 1) (depth-kept old new Kept same above n parent (above slot parent kept some))
      ∙ sym (depth-some n old slot parent some)
] refl
