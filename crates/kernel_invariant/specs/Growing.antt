-- Objects that come one after another, in memory where nothing is.
-- seL4 Reference Manual, "Kernel Memory Allocation".
use Rattle.std.specs.Prelude.{ℕ, ◌+◌, ◌^◌, ◌≤◌, ◌⊎◌, List}
use Rattle.kernel_invariant.specs.Agreement.{Agrees}
use Rattle.model.specs.Kernel.AddressSpaces.{page_size}
use Rattle.model.specs.Kernel.Retype.{NewObject, with_new}
use Rattle.model.specs.Kernel.State.{State}
use Rattle.soundness.specs.Unused.{IsFree}
use Rattle.vspace.specs.Kept.{IsNamedTable}

-- the state with one more object, whose capability is in a slot and is derived from another
abbrev pub one_placed : State → NewObject → ℕ → ℕ → ℕ → State
one_placed s kind place slot parent = with_new s (record { kind = kind; first = place; count = 1 }) slot parent

-- between two places there is room for more objects: nothing is there, and no capability names a table there
pub record Growing (s : State) (memory : List ℕ) (from to : ℕ) : Type 0 where
  pub agrees : Agrees s memory
  pub free : IsFree s from to
  pub tables : (table : ℕ) → IsNamedTable s.slots table → (table + page_size ≤ from) ⊎ (to ≤ table)
  pub inside : to ≤ 2 ^ s.memory_bits
