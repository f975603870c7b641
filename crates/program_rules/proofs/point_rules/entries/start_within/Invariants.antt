-- All registers so far start within their ranges.
use Rattle.std.proofs.Common.{ℕ, ◌≡◌, ◌+◌, ◌<◌, true}
use Rattle.std.specs.Prelude.{slice_index, slice_index_or}
use Rattle.model.specs.Acceptance.PointRules.{lies_in}
use Rattle.model.specs.Acceptance.Ranges.{full}
use Rattle.program_rules.proofs.point_rules.entries.start_within.Given as goal

abbrev pub invariant-registers : goal.invariant-registers
invariant-registers l = (i : ℕ) → i < l.index → lies_in (slice_index l.words (i + 1)) (slice_index_or l.bounds i full) ≡ true
