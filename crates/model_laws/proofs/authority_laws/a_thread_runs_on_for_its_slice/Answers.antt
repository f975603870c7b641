-- The slice stays, or is full at the tail.
use Rattle.std.proofs.Common.{ℕ, ◌≡◌, Bool, not, if◌then◌else◌, List, [], ◌∷◌, ◌++◌, refl, sym, ap, ◌∙◌}
use Rattle.std.proofs.lemmas.Bool.{eq-eqb, ne_eqb}
use Rattle.model.specs.Acceptance.Authority.{same_slice, new_slice, self_of}
use Rattle.model.specs.Shared.Lists.{without}
use Rattle.model_laws.proofs.authority_laws.a_thread_runs_on_for_its_slice.Goals as goal

pub returns-clause-longer : goal.returns-clause-longer
returns-clause-longer c = λ image t s after old new before behind differ more within. elim (within.slice old new before behind) [
  | same_slice same ↦ differ same
  | new_slice full tail ↦ more full
]

pub returns-clause-head : goal.returns-clause-head
returns-clause-head c = λ image t s after other old new before behind apart was is differ within. elim (within.slice old new before behind) [
  | same_slice same ↦ differ same
  | new_slice full tail ↦
      let self : ℕ = self_of image t in
      let rest : without self (self ∷ other ∷ []) ≡ other ∷ [] =
      ap (λ (b : Bool). if not b then self ∷ without self (other ∷ []) else without self (other ∷ [])) (eq-eqb self self refl)
      ∙ ap (λ (b : Bool). if not b then other ∷ [] else []) (ne_eqb other self apart) in
      let e : self ∷ other ∷ [] ≡ other ∷ self ∷ [] = sym is ∙ tail ∙ ap (λ (l : List ℕ). without self l ++ self ∷ []) was
      ∙ ap (λ (l : List ℕ). l ++ self ∷ []) rest in
      let same : other ≡ self = cc in apart same
]
