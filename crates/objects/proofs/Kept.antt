-- A map with another value at one place.
use Rattle.std.proofs.Common.{ℕ, ◌≡◌, ◌≢◌, inl, inr, if◌then◌else◌, refl, ap}
use Rattle.std.proofs.lemmas.Bool.Decides.{eqb_tells}
use Rattle.model.specs.Kernel.State.{put}

pub put-here : {A : Type 0} (m : ℕ → A) (place : ℕ) (value : A) → put m place value place ≡ value
put-here m place value = elim (eqb_tells place place) [
  | inl here ↦ ap (λ b. if b then value else m place) here.0
  | inr there ↦ absurd (there.1 refl)
]

pub put-there : {A : Type 0} (m : ℕ → A) (place : ℕ) (value : A) (other : ℕ) → other ≢ place → put m place value other ≡ m other
put-there m place value other apart = elim (eqb_tells other place) [
  | inl here ↦ absurd (apart here.1)
  | inr there ↦ ap (λ b. if b then value else m other) there.0
]
