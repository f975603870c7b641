use Rattle.std.proofs.Common.{List, ◌≤◌}
use Rattle.shared_states.specs.Entries.{AreNoted, AreSame}
use Rattle.shared_states.specs.declared.entries.Entry.{Entry}
use Rattle.shared_states.proofs.sames.Sames.first.Given as goal

abbrev pub invariant-loop-next : goal.invariant-loop-next
invariant-loop-next l = (l.first ≤ l.tree) × ((entries : List Entry) → AreNoted entries l.initial.self
    → AreSame entries l.height l.tree l.first) × ((entries : List Entry) → AreNoted entries l.initial.self → AreNoted entries l.self)

abbrev pub decreases-loop-next : goal.decreases-loop-next
decreases-loop-next l = l.first
