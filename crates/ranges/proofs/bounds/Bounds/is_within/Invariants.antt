use Rattle.std.proofs.Common.{ℕ, ◌<◌, slice_index_or}
use Rattle.model.specs.Acceptance.Ranges.{IsWithin, full}
use Rattle.ranges.proofs.bounds.Bounds.is_within.Given as goal

abbrev pub invariant-loop-i : goal.invariant-loop-i
invariant-loop-i l = (k : ℕ) → k < l.i → IsWithin (slice_index_or l.self-inside.ranges k full) (slice_index_or l.other-inside.ranges k full)
