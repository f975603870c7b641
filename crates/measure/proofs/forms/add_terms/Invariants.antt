-- What is not named is counted by no term so far.
use Rattle.std.proofs.Common.{◌≡◌, ◌<◌, false, pos, take}
use Rattle.model.specs.Acceptance.Measures.{Variable}
use Rattle.measure.specs.Sums.{coefficient_sum}
use Rattle.measure.specs.Variables.{is_named, register_of}
use Rattle.measure.proofs.forms.add_terms.Given as goal

abbrev pub invariant-loop-term : goal.invariant-loop-term
invariant-loop-term g l =
    (variable : Variable) → register_of variable < 32 → is_named l.named variable ≡ false
    → (is_named l.fn.named variable ≡ false) × (coefficient_sum (g.S.Step.value_of l.step) variable (pos 0) (take l.term-index l.terms) ≡ pos 0)
