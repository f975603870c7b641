-- The sum over the registers so far.
use Rattle.std.proofs.Common.{◌≡◌, ◌*◌, ◌^◌, ℕ}
use Rattle.model.specs.Acceptance.Measures.{Before, least_term, register_numbered}
use Rattle.model.specs.Acceptance.Ranges.{range_of}
use Rattle.measure.specs.Sums.{IsSmall}
use Rattle.measure.proofs.LinearSums.{sum_below}
use Rattle.measure.proofs.extremes.least_of.Given as goal

abbrev pub invariant-loop-register : goal.invariant-loop-register
invariant-loop-register g l =
    (l.sum ≡ sum_below (λ (k : ℕ). least_term ((g.L.Linear.form l.form).coefficient (Before k)) (range_of l.bounds (register_numbered k))) l.register)
    × IsSmall (l.register * 2 ^ 98) l.sum
