-- Bytes that were written into memory one after another.
use Rattle.std.specs.Prelude.{ℕ, ◌≡◌, ◌+◌, ◌-◌, ◌^◌, ◌≤◌, if◌then◌else◌, List, length, slice_index}
use Rattle.model.specs.Capabilities.Slots.{OutsideSlots, Slots, is_within}

-- bytes from an offset on lie in memory, where no slot is
pub record IsBesideSlots (slots : Slots) (memory : List ℕ) (offset count : ℕ) : Type 0 where
  pub within : offset + count ≤ length memory
  pub most : length memory ≤ 2 ^ 24
  pub outside : OutsideSlots slots offset count

-- the first bytes of a piece lie in memory from an offset on, and the others are as they were
pub record AreWritten (old new : List ℕ) (offset count : ℕ) (piece : List ℕ) : Type 0 where
  pub size : length new ≡ length old
  pub bytes : (place : ℕ) → slice_index new place ≡ (if is_within offset count place then slice_index piece (place - offset) else slice_index old place)
