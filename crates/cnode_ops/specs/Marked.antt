-- Slots that are marked: one bit a slot, in words of 64 bits.
use Rattle.std.specs.Prelude.{ℕ, ◌==◌, ◌/◌, ◌%◌, ◌&&◌, Bool, List, not, slice_index}
use Rattle.std.specs.Int.{bit_at}
use Rattle.model.specs.Capabilities.Slots.{Slots, is_full}

abbrev pub is_marked : List ℕ → ℕ → Bool
is_marked words slot = bit_at (slice_index words (slot / 64)) (slot % 64) == 1

-- whether a slot is full and not marked
abbrev pub is_unmarked : Slots → List ℕ → ℕ → Bool
is_unmarked slots words slot = is_full slots slot && not (is_marked words slot)
