-- States: trees of height 63.
use Rattle.std.specs.Prelude.{ℕ, List, Option}
use Rattle.shared_states.specs.Entries.{held_at, path_of}
use Rattle.shared_states.specs.declared.entries.Entry.{Entry}
pub use Rattle.shared_states.specs.Entries.{IsIn, KeepsTrees}
pub use Rattle.shared_states.specs.Puts.{in_puts, put_at}

-- what a state holds at a number
unfoldable pub at_number : List Entry → ℕ → ℕ → Option ℕ
at_number entries state key = held_at entries (path_of 63 key) state
