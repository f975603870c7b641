-- When a value lies in a range.
use Rattle.std.specs.Prelude.{ℕ, ◌≤◌}
use Rattle.model.specs.declared.ranges.Range.{Range}

-- the value is one of the range
abbrev pub LiesIn : ℕ → Range → Type 0
LiesIn n r = (r.low ≤ n) × (n ≤ r.high)
