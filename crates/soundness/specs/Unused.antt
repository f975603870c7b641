-- Memory where nothing is.
-- seL4 Reference Manual, "Reusing Memory".
use Rattle.std.specs.Prelude.{ℕ, ◌≡◌, ◌+◌, ◌/◌, ◌^◌, ◌<◌, ◌≤◌, ◌⊎◌, Some, None}
use Rattle.model.specs.Kernel.Kinds.{kind_at}
use Rattle.model.specs.Kernel.Retype.{NewObject, object_bits}
use Rattle.model.specs.Kernel.State.{State, boot_area_end}

-- no object lies between two places, no slot is open there, and no frame has bytes there
pub record IsFree (s : State) (from to : ℕ) : Type 0 where
  pub objects : (offset : ℕ) (kind : NewObject) → kind_at s offset ≡ Some kind → (offset + 2 ^ object_bits kind ≤ from) ⊎ (to ≤ offset)
  pub slots : (place : ℕ) → from ≤ place → place < to → s.slots (place / 16) ≡ None
  pub bytes : (place : ℕ) → from ≤ place → place < to → s.bytes place ≡ None

-- the unused part of untyped memory: nothing is there, and it lies in memory after the boot area
pub record IsUnused (s : State) (offset bits used : ℕ) : Type 0 where
  pub free : IsFree s (offset + used) (offset + 2 ^ bits)
  pub behind : boot_area_end s.boot_radix ≤ offset
  pub inside : offset + 2 ^ bits ≤ 2 ^ s.memory_bits
