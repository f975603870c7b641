-- Slots where entries of a log are made, one after another.
use Rattle.std.specs.Prelude.{if◌then◌else◌, List, fold, map, option_map}
use Rattle.model.specs.Acceptance.NotedStates.{NotedSlot, SlotKey, is_same_key, with_noted}
use Rattle.typestate.specs.declared.log_entries.LogEntry.{LogEntry}
use Rattle.typestate.specs.declared.log_entries.LogEntry.TheVariants.{Sets, Swaps}

-- two keys change places
abbrev pub turned : SlotKey → SlotKey → SlotKey → SlotKey
turned one other key = if is_same_key key one then other else if is_same_key key other then one else key

-- what was derived from the one is derived from the other one
abbrev pub exchanged : SlotKey → SlotKey → NotedSlot → NotedSlot
exchanged one other s = record s { parent = option_map (turned one other) s.parent }

abbrev pub with_entry : List NotedSlot → LogEntry → List NotedSlot
with_entry slots (Sets change) = with_noted slots change
with_entry slots (Swaps one other) = map (exchanged one other) slots

-- the slots with each of these entries made, one after another
abbrev pub replayed : List NotedSlot → List LogEntry → List NotedSlot
replayed slots entries = fold with_entry slots entries
