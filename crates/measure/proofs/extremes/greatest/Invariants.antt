-- The sums over the registers so far.
use Rattle.std.proofs.Common.{◌≡◌, ◌*◌, ◌^◌, ℕ}
use Rattle.model.specs.Acceptance.Measures.{After, Before, greatest_term, range_at}
use Rattle.measure.specs.Sums.{IsSmall}
use Rattle.measure.proofs.LinearSums.{sums_below}
use Rattle.measure.proofs.extremes.greatest.Given as goal

abbrev pub invariant-loop-register : goal.invariant-loop-register
invariant-loop-register g l =
    (l.sum ≡ sums_below (λ (k : ℕ). greatest_term ((g.L.Linear.form l.form).coefficient (Before k)) (range_at l.before l.behind (Before k)))
    (λ (k : ℕ). greatest_term ((g.L.Linear.form l.form).coefficient (After k)) (range_at l.before l.behind (After k))) l.register)
    × IsSmall (l.register * 2 ^ 98) l.sum
