use Rattle.std.proofs.Common.{List, take}
use Rattle.model.specs.Acceptance.NotedStates.{NotedSlot}
use Rattle.part_roots.specs.Held.{SaysIn}
use Rattle.part_roots.proofs.bases.Base.make_all.Given as goal
use Rattle.typestate.specs.Differences.{slots_of}
use Rattle.typestate.specs.Replays.{replayed}
use Rattle.typestate.specs.Unlinked.{AreUnlinked}

abbrev pub invariant-loop-entry : goal.invariant-loop-entry
invariant-loop-entry l = (slots : List NotedSlot) → AreUnlinked (slots_of l.image) → SaysIn l.self l.initial.draft (slots_of l.image) slots
    → SaysIn l.self l.draft (slots_of l.image) (replayed slots (take l.entry-index l.entries))
