-- A new parent is one of the three.
use Rattle.std.proofs.Common.{ℕ, ◌≡◌, Some, None, subst, sym, ◌∙◌}
use Rattle.model.specs.Acceptance.Authority.{IsOwnSlot, emptied, own, of_own}
use Rattle.model_laws.proofs.authority_laws.a_new_parent_is_an_own_slot_or_was_above_one.Goals as goal

pub returns-clause-foreign : goal.returns-clause-foreign
returns-clause-foreign c = λ image t s after slot parent foreign above fresh there within. elim (within.parents slot (λ same. fresh (same ∙ there))) [
  | emptied empty none ↦ let e : Some parent ≡ None = sym there ∙ none in cc
  | own place among is ↦ let e : Some parent ≡ Some place = sym there ∙ is in let same : place ≡ parent = cc in
      foreign (subst (λ (x : ℕ). IsOwnSlot image t x) same among)
  | of_own child among full was ↦ above child among (was ∙ there)
]

pub returns-clause-none : goal.returns-clause-none
returns-clause-none c = λ image t s after slot parent below before behind full within.
    elim (within.parents slot (λ same. let e : Some parent ≡ None = sym before ∙ same ∙ behind in cc)) [
      | emptied empty none ↦ full empty
      | own place among is ↦ let e : None ≡ Some place = sym behind ∙ is in cc
      | of_own child among held was ↦ below child among held (was ∙ behind)
    ]
