-- One bit a slot, in words of 64 bits.
use Rattle.std.specs.Prelude.{ℕ, ◌==◌, ◌*◌, ◌/◌, ◌%◌, ◌^◌, ◌≤◌, Bool, List, length, map, slice_index}
use Rattle.std.specs.Int.{bit_at}
use Rattle.std.specs.List.{range_with_len}

-- whether a bit of the words is set
abbrev pub is_bit : List ℕ → ℕ → Bool
is_bit words s = bit_at (slice_index words (s / 64)) (s % 64) == 1

-- the first so many bits
unfoldable pub bits_of : List ℕ → ℕ → List Bool
bits_of words count = map (is_bit words) (range_with_len 0 count)

-- the words hold so many bits, and as many as there are slots at most
pub record IsBits (words : List ℕ) (count : ℕ) : Type 0 where
  pub held : count ≤ 64 * length words
  pub most : count ≤ 2 ^ 20
