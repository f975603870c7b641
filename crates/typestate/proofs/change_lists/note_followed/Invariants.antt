-- The entries so far.
use Rattle.std.proofs.Common.{◌≡◌, ◌++◌, map, take}
use Rattle.typestate.specs.SlotChanges.{followed}
use Rattle.typestate.specs.declared.log_entries.LogEntry.TheVariants.{Sets}
use Rattle.typestate.proofs.change_lists.note_followed.Given as goal

abbrev pub invariant-loop-slot : goal.invariant-loop-slot
invariant-loop-slot l = l.made.items ≡ l.fn.made.items ++ map (λ s. Sets (followed l.from l.to s)) (take l.slot-index l.slots)
