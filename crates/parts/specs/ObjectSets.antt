-- Bits of words, one for each number of a set.
use Rattle.std.specs.Prelude.{ℕ, ◌≡◌, ◌==◌, ◌/◌, ◌%◌, Bool, true, List, bit_and, slice_index_or}
use Rattle.std.specs.Int.{bit_at}
use Rattle.model.specs.Acceptance.ThreadRules.{is_member}

-- whether the bit of a number is set
abbrev pub has_bit : List ℕ → ℕ → Bool
has_bit words n = bit_at (slice_index_or words (n / 64) 0) (n % 64) == 1

-- each number has its bit
unfoldable pub AreMarked : List ℕ → List ℕ → Type 0
AreMarked numbers words = (n : ℕ) → is_member n numbers ≡ true → has_bit words n ≡ true

-- no two words at one place have a bit in common
unfoldable pub ShareNoBit : List ℕ → List ℕ → Type 0
ShareNoBit one other = (k : ℕ) → bit_and (slice_index_or one k 0) (slice_index_or other k 0) ≡ 0
