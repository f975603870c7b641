-- What is found first is a breach, and it is found by a function.
use Rattle.std.proofs.Common.{◌≡◌, ◌∙◌, sym, Option, Some}
use Rattle.model.specs.declared.refusals.Refusal.{Refusal}
use Rattle.wellformed.proofs.Laws.{first-is_breach}
use Rattle.model_laws.proofs.image_laws.the_first_breach_is_unique.Goals as goal

pub returns-clause-one : goal.returns-clause-one
returns-clause-one c = λ bytes one other first second. let same : ◌≡◌ {A = Option Refusal} (Some one) (Some other) = sym first ∙ second in cc same

pub returns-clause-breach : goal.returns-clause-breach
returns-clause-breach c = first-is_breach
