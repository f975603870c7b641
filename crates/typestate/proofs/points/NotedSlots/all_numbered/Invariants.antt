-- What is left of the numbers brings what is left of the changes.
use Rattle.std.proofs.Common.{◌≡◌, ◌++◌}
use Rattle.std.specs.List.{filter_map}
use Rattle.typestate.specs.Families.{found}
use Rattle.typestate.proofs.points.NotedSlots.all_numbered.Given as goal

abbrev pub invariant-loop-number : goal.invariant-loop-number
invariant-loop-number l = l.all.items ++ filter_map (found l.fn.self.changes.now) l.number-iterator ≡ filter_map (found l.fn.self.changes.now) l.numbers.keys
