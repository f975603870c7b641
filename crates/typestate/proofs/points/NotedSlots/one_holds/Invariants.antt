-- What is left of the slots that are named with the page brings one that maps it, if any does.
use Rattle.std.proofs.Common.{◌≡◌}
use Rattle.std.specs.List.{list_any}
use Rattle.typestate.proofs.PagedChanges.{holds, passes_at}
use Rattle.typestate.proofs.points.NotedSlots.one_holds.Given as goal

abbrev pub invariant-loop-slot : goal.invariant-loop-slot
invariant-loop-slot l =
    list_any (passes_at (holds l.access l.root l.page) l.fn.self.changes.now) l.slot-iterator ≡ list_any (holds l.access l.root l.page) l.fn.self.changes.now
