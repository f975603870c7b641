-- A point that was looked at is no step.
use Rattle.std.proofs.Common.{◌≡◌, ◌∙◌, true, false, refl, sym}
use Rattle.program_rules.proofs.kept_points.KeptPoints.first_of.Goals as goal

pub returns-then-not-is_step-clause-first : goal.returns-then-not-is_step-clause-first
returns-then-not-is_step-clause-first c = λ p got step.
    absurd (let clash : false ≡ true = sym c.if-not-is_step.true ∙ sym (c.is_step.ensures p got) ∙ step in cc)

pub returns-clause-first : goal.returns-clause-first
returns-clause-first c = λ p got step. refl
