-- What is put at numbers, and where paths lead.
use Rattle.std.specs.Prelude.{ℕ, ◌*◌, ◌+◌, ◌^◌, Bool, true, false, List, [], ◌∷◌, Option, length}
use Rattle.std.specs.Map.{lookup}
use Rattle.std.specs.Option.{option_map_or}
use Rattle.std.specs.Ordering.{is_eq, nat_cmp}

-- what is put at a number
abbrev pub put_at : List (ℕ × Option ℕ) → ℕ → Option (Option ℕ)
put_at puts key = lookup (λ k. is_eq (nat_cmp key k)) puts

-- what is held at a number where this is put: else what was held
unfoldable pub in_puts : List (ℕ × Option ℕ) → ℕ → Option ℕ → Option ℕ
in_puts puts key other = option_map_or (λ value. value) (put_at puts key) other

-- ---- paths as numbers

abbrev pub bit_number : Bool → ℕ
bit_number true = 1
bit_number false = 0

abbrev pub number_of : List Bool → ℕ
number_of [] = 0
number_of (side ∷ path) = number_of path + 2 ^ length path * bit_number side
