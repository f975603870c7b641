-- Where retype places new objects in an untyped.
-- seL4 Reference Manual, "Reusing Memory".
use Rattle.std.specs.Prelude.{ℕ, ◌+◌, ◌-◌, ◌*◌, ◌/◌, ◌^◌, Option, Some, None, nat_le, if◌then◌else◌}

-- the least multiple of a size that is not below a place
abbrev pub align : ℕ → ℕ → ℕ
align place size = (place + (size - 1)) / size * size

-- the place of object i, of those of one size after a watermark
abbrev pub place_of_object : ℕ → ℕ → ℕ → ℕ
place_of_object watermark object_bits i = align watermark (2 ^ object_bits) + i * 2 ^ object_bits

-- the place of the first of some objects in an untyped, and the watermark after the last, if they fit
abbrev pub placement : ℕ → ℕ → ℕ → ℕ → Option (ℕ × ℕ)
placement bits watermark object_bits count =
    let end = place_of_object watermark object_bits count
    in if nat_le end (2 ^ bits) then Some (align watermark (2 ^ object_bits), end) else None
