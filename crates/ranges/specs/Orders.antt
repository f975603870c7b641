-- Ranges that have a value: the low end is not above the high end.
use Rattle.std.specs.Prelude.{ℕ, ◌<◌, ◌≤◌, List, slice_index_or}
use Rattle.model.specs.declared.ranges.Range.{Range}
use Rattle.model.specs.Acceptance.Ranges.{full}

abbrev pub IsOrdered : Range → Type 0
IsOrdered r = r.low ≤ r.high

abbrev pub AreOrdered : List Range → Type 0
AreOrdered ranges = (k : ℕ) → k < 31 → IsOrdered (slice_index_or ranges k full)
