-- States stay where others are made.
use Rattle.std.proofs.Common.{ℕ, ◌≡◌, ◌<◌, List, length}
use Rattle.shared_states.specs.Entries.{KeepsTrees, path_of}
use Rattle.shared_states.specs.States.{at_number}
use Rattle.shared_states.specs.declared.entries.Entry.{Entry}
use Rattle.shared_states.proofs.Held.{keeps_itself}

pub state_stays : (old new : List Entry) (state key : ℕ) → KeepsTrees old new → state < length old → at_number new state key ≡ at_number old state key
unfolding at_number
state_stays old new state key kept inside = kept.held (path_of 63 key) state inside

pub keeps_all : (entries : List Entry) → KeepsTrees entries entries
keeps_all = keeps_itself
