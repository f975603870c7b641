-- What is noted so far, and then the rest, is all of it.
use Rattle.std.proofs.Common.{◌≡◌, ◌++◌, map}
use Rattle.model.specs.Acceptance.NotedStates.{entry_slot}
use Rattle.typestate.proofs.records.note_record.Given as goal

abbrev pub invariant-loop-entry : goal.invariant-loop-entry
invariant-loop-entry l = l.changes.items ++ map entry_slot l.entry-iterator ≡ l.fn.changes.items ++ map entry_slot l.fn.noted.slots
