-- Inputs of settled threads.
use Rattle.std.specs.Prelude.{ℕ, List, Option, None, slice_get}
use Rattle.std.specs.Option.{option_map_or}

abbrev pub input_at : List (Option ℕ) → ℕ → Option ℕ
input_at inputs thread = option_map_or (λ o. o) (slice_get inputs thread) None
