-- The keys rise, and the entries so far are made.
use Rattle.std.proofs.Common.{◌≡◌, List, take}
use Rattle.model.specs.Acceptance.NotedStates.{NotedSlot}
use Rattle.typestate.specs.Differences.{changed}
use Rattle.typestate.specs.Orders.{Rise}
use Rattle.typestate.specs.Replays.{replayed}
use Rattle.typestate.specs.Unlinked.{AreUnlinked}
use Rattle.typestate.proofs.shown.ShownChanges.make_all.Given as goal

abbrev pub invariant-loop-entry : goal.invariant-loop-entry
invariant-loop-entry l =
    Rise l.self × ((slots : List NotedSlot) → Rise slots → AreUnlinked slots →
    changed slots l.self ≡ replayed (changed slots l.fn.self) (take l.entry-index l.made))
