-- The thread that runs, and what its instruction is.
use Rattle.std.proofs.Common.{ℕ, ◌≡◌, ◌++◌, Some, None, [], List, inl, inr, sym, subst, ap, ◌∙◌, arith}
use Rattle.model.specs.Kernel.State.{State}
use Rattle.model.specs.Shared.Lists.{without}
use Rattle.model.specs.Acceptance.Authority.{MakesCall, self_of}
use Rattle.std.specs.Prelude.{Contains}
use Rattle.model_laws.proofs.narrow_laws.a_step_is_of_its_instruction.Goals as goal

pub returns-clause-slots : goal.returns-clause-slots
returns-clause-slots c = λ image s after self slot now plain differ within. elim within [
  | inl idle ↦ let e : Some self ≡ None = sym now ∙ idle.0 in cc
  | inr own ↦
      let e : Some (self_of image own.thread) ≡ Some self = sym own.runs ∙ now in
      let same : self_of image own.thread ≡ self = cc in
      let alone = own.plain (λ makes. plain (subst (MakesCall s) same makes)) in
      differ (ap (λ (x : State). x.slots slot) (sym alone.is))
]

pub returns-clause-pending : goal.returns-clause-pending
returns-clause-pending c = λ image s after self number now plain differ within. elim within [
  | inl idle ↦ let e : Some self ≡ None = sym now ∙ idle.0 in cc
  | inr own ↦
      let e : Some (self_of image own.thread) ≡ Some self = sym own.runs ∙ now in
      let same : self_of image own.thread ≡ self = cc in
      let alone = own.plain (λ makes. plain (subst (MakesCall s) same makes)) in
      differ (ap (λ (x : State). x.pending number) (sym alone.is))
]

pub returns-clause-awake : goal.returns-clause-awake
returns-clause-awake c = λ image s after self priority other now woken before behind within. elim within [
  | inl idle ↦ let e : Some self ≡ None = sym now ∙ idle.0 in cc
  | inr own ↦
      let change = own.within.ready priority in
      let none : change.added ≡ [] =
      sym (ap (λ (l : List ℕ). without (self_of image own.thread) l ++ change.added) before) ∙ sym change.list
      ∙ ap (without (self_of image own.thread)) behind in
      let there : Contains [] other = subst (λ (l : List ℕ). Contains l other) none (own.awake priority other woken) in
      omega (arith, there.1)
]
