-- Names of families: the number of a slot, until what was derived from it is derived from another one.
use Rattle.std.specs.Prelude.{ℕ, ◌≡◌, ◌==◌, if◌then◌else◌, List}
use Rattle.std.specs.Map.{lookup}
use Rattle.std.specs.Option.{option_map_or}
use Rattle.std.specs.Ordering.{is_eq, nat_cmp}

-- the number that stands for another one: that itself, where none is noted
abbrev pub renamed : List (ℕ × ℕ) → ℕ → ℕ
renamed entries number = option_map_or (λ m. m) (lookup (λ k. is_eq (nat_cmp number k)) entries) number

-- one to one, there and back
abbrev pub AreInverse : List (ℕ × ℕ) → List (ℕ × ℕ) → Type 0
AreInverse there back = (n : ℕ) → (renamed there (renamed back n) ≡ n) × (renamed back (renamed there n) ≡ n)

-- two numbers change places
abbrev pub turned_number : ℕ → ℕ → ℕ → ℕ
turned_number one other n = if n == one then other else if n == other then one else n
