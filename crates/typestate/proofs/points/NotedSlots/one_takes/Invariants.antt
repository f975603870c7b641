-- What is left of the slots that are named with the page brings one that maps it, if any does.
use Rattle.std.proofs.Common.{◌≡◌}
use Rattle.std.specs.List.{list_any}
use Rattle.typestate.proofs.PagedChanges.{takes, passes_at}
use Rattle.typestate.proofs.points.NotedSlots.one_takes.Given as goal

abbrev pub invariant-loop-slot : goal.invariant-loop-slot
invariant-loop-slot l =
    list_any (passes_at (takes l.root l.page) l.fn.self.changes.now) l.slot-iterator ≡ list_any (takes l.root l.page) l.fn.self.changes.now
