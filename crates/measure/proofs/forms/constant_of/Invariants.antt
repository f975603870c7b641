-- The sum over the terms so far.
use Rattle.std.proofs.Common.{◌≡◌, ◌+◌, ◌*◌, ◌^◌, take}
use Rattle.measure.specs.Sums.{IsSmall, constant_sum}
use Rattle.measure.proofs.forms.constant_of.Given as goal

abbrev pub invariant-loop-term : goal.invariant-loop-term
invariant-loop-term g l = (l.sum ≡ constant_sum (g.S.Step.value_of l.step) l.measure.constant (take l.term-index l.terms))
    × IsSmall (2 ^ 64 + l.term-index * 2 ^ 96) l.sum
