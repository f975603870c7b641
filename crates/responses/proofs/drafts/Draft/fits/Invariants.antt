-- The points so far fit.
use Rattle.std.proofs.Common.{ℕ, ◌<◌}
use Rattle.program_rules.specs.Views.{view_at}
use Rattle.responses.proofs.drafts.Draft.fits.Given as goal
use Rattle.responses.specs.Outlines.{Gives, IsFit}

abbrev pub invariant-loop-point : goal.invariant-loop-point
invariant-loop-point l =
    (place : ℕ → ℕ) → Gives l.self.places.items place → (k : ℕ) → k < l.point → IsFit l.base l.self.runs.items place k (view_at l.views k)
