-- A watermark rises where the call names the memory, or is 0 without children.
use Rattle.std.proofs.Common.{◌≡◌, Ok, sym, ◌∙◌, arith}
use Rattle.model.specs.Acceptance.Authority.{uses, freed}
use Rattle.model_laws.proofs.authority_laws.a_watermark_falls_without_children.Goals as goal

pub returns-clause-child : goal.returns-clause-child
returns-clause-child c = λ image t s after slot child offset bits old new before behind less hangs within.
    elim (within.used slot offset bits old new before behind (λ same. omega (arith, less, same))) [
      | uses named more ↦ omega (arith, less, more)
      | freed zero none ↦ none child hangs
    ]

pub returns-clause-part : goal.returns-clause-part
returns-clause-part c = λ image t s after slot offset bits old new before behind less some within.
    elim (within.used slot offset bits old new before behind (λ same. omega (arith, less, same))) [
      | uses named more ↦ omega (arith, less, more)
      | freed zero none ↦ omega (arith, some, zero)
    ]

pub returns-clause-another : goal.returns-clause-another
returns-clause-another c = λ image t s after slot other offset bits old new named apart before behind more within.
    elim (within.used slot offset bits old new before behind (λ same. omega (arith, more, same))) [
      | uses also less ↦ let e : Ok other ≡ Ok slot = sym named ∙ also in let same : other ≡ slot = cc in apart same
      | freed zero none ↦ omega (arith, more, zero)
    ]
