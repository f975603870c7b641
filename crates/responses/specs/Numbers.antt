-- Numbers and marks by their places.
use Rattle.std.specs.Prelude.{ℕ, ◌==◌, Bool, false, List, slice_get}
use Rattle.std.specs.List.{list_any}
use Rattle.std.specs.Option.{option_map_or}

abbrev pub number_at : List ℕ → ℕ → ℕ
number_at numbers place = option_map_or (λ n. n) (slice_get numbers place) 0

abbrev pub mark_at : List Bool → ℕ → Bool
mark_at marks place = option_map_or (λ b. b) (slice_get marks place) false

abbrev pub is_among : List ℕ → ℕ → Bool
is_among numbers number = list_any (λ n. n == number) numbers
