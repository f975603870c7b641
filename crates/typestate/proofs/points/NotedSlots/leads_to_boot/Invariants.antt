-- What is left of the line.
use Rattle.std.proofs.Common.{◌≡◌, ◌+◌, ◌-◌, length}
use Rattle.model.specs.Acceptance.NotedStates.{leads_to_boot}
use Rattle.typestate.specs.Differences.{slots_of}
use Rattle.typestate.proofs.points.NotedSlots.leads_to_boot.Given as goal

abbrev pub invariant-line : goal.invariant-line
invariant-line l =
    let bound = length l.self.changes.now + 1 in
    leads_to_boot (bound - l.counter) (slots_of l.self) l.place ≡ leads_to_boot bound (slots_of l.self) l.fn.parent
