-- No frame is mapped beyond the last address.
use Rattle.std.proofs.Common.{◌≡◌, ◌≢◌, ℕ, ◌^◌, ◌<◌, ◌≤◌, ◌==◌, ◌&&◌, false, true, Some, None, List, refl, arith}
use Rattle.std.specs.Prelude.{find, slice_get}
use Rattle.std.proofs.lemmas.Bool.{ne_eqb}
use Rattle.model.specs.declared.entries.FrameEntry.{FrameEntry}
use Rattle.soundness.proofs.Laws.{find-no}

aside : (root address : ℕ) (f : FrameEntry) → (f.address ≡ address → ⊥) → (f.root == root && f.address == address) ≡ false
aside root address f apart = elim (f.root == root) as (λ b. (b && (f.address == address)) ≡ false) [
  | true ↦ ne_eqb f.address address apart
  | false ↦ refl
]

pub frame-far : (frames : List FrameEntry) (root address : ℕ) → ((k : ℕ) (f : FrameEntry) → slice_get frames k ≡ Some f → f.address < 2 ^ 32) → 2 ^ 32 ≤ address
    → find (λ f. f.root == root && f.address == address) frames ≡ None
frame-far frames root address fit far =
    find-no (λ f. f.root == root && f.address == address) frames
    (λ k f at. let low = fit k f at in let apart : f.address ≢ address = λ same. omega (arith, low, far, same) in aside root address f apart)
