-- What is left of the changes decides.
use Rattle.std.proofs.Common.{◌≡◌}
use Rattle.typestate.specs.Differences.{are_left_at, slots_of}
use Rattle.typestate.proofs.points.NotedSlots.agrees_with.Given as goal

abbrev pub invariant-loop-change : goal.invariant-loop-change
invariant-loop-change l = are_left_at (slots_of l.fn.self) l.change-iterator ≡ are_left_at (slots_of l.fn.self) l.fn.changes
