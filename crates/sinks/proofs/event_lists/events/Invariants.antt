-- A list never has more events than are admitted.
use Rattle.std.proofs.Common.{◌≤◌, length}
use Rattle.sinks.proofs.event_lists.events.Given as goal

abbrev pub invariant-lines : goal.invariant-lines
invariant-lines l = length l.events.items ≤ 1000000
