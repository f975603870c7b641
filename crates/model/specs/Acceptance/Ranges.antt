-- The ranges that a certificate keeps registers in.
use Rattle.std.specs.Prelude.{ℕ, ◌+◌, ◌-◌, ◌^◌, ◌<◌, ◌≤◌, ◌==◌, ◌&&◌, nat_le, nat_lt, if◌then◌else◌, List, slice_index_or, slice_set, ℤ, pos}
use Rattle.std.specs.Prelude.{negsuc}
use Rattle.model.specs.declared.instructions.Register.{Register}
use Rattle.model.specs.declared.ranges.Range.{Range}

-- every value of a register
abbrev pub full : Range
full = record { low = 0; high = 2 ^ 32 - 1 }

abbrev pub single : ℕ → Range
single n = record { low = n; high = n }

-- each value of the one is a value of the other
abbrev pub IsWithin : Range → Range → Type 0
IsWithin r s = (s.low ≤ r.low) × (r.high ≤ s.high)

-- the ranges of registers 1 to 31, in order; register 0 is 0
abbrev pub range_of : List Range → Register → Range
range_of ranges x = if x.0 == 0 then single 0 else slice_index_or ranges (x.0 - 1) full

abbrev pub with_range : List Range → Register → Range → List Range
with_range ranges x range = if x.0 == 0 then ranges else slice_set ranges (x.0 - 1) range

-- a range moved up by n, where both ends stay below 2 ^ 32
abbrev pub moved_up : Range → ℕ → Range
moved_up r n =
    if nat_lt (r.low + n) (2 ^ 32) && nat_lt (r.high + n) (2 ^ 32) then record { low = r.low + n; high = r.high + n } else full

-- a range moved down by n, where both ends stay at 0 or above
abbrev pub moved_down : Range → ℕ → Range
moved_down r n = if nat_le n r.low && nat_le n r.high then record { low = r.low - n; high = r.high - n } else full

-- a range moved by a signed number: where both ends stay within 0 to 2 ^ 32 - 1 they move, and else the range is full
abbrev pub moved : Range → ℤ → Range
moved r (pos n) = moved_up r n
moved r (negsuc n) = moved_down r (n + 1)

-- the ranges of each register lie within the others
abbrev pub AreWithin : List Range → List Range → Type 0
AreWithin ranges others = (k : ℕ) → k < 31 → IsWithin (slice_index_or ranges k full) (slice_index_or others k full)
