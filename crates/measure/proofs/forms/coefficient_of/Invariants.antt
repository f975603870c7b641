-- The sum over the terms so far.
use Rattle.std.proofs.Common.{◌≡◌, ◌*◌, ◌^◌, pos, take}
use Rattle.measure.specs.Sums.{IsSmall, coefficient_sum}
use Rattle.measure.specs.Variables.{variable_of}
use Rattle.measure.proofs.forms.coefficient_of.Given as goal

abbrev pub invariant-loop-term : goal.invariant-loop-term
invariant-loop-term g l = (l.sum ≡ coefficient_sum (g.S.Step.value_of l.step) (variable_of l.variable) (pos 0) (take l.term-index l.terms))
    × IsSmall (l.term-index * 2 ^ 39) l.sum
