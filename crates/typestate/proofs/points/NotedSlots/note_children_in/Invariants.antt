-- What is left of the block brings what is left of its children.
use Rattle.std.proofs.Common.{◌≡◌, ◌++◌}
use Rattle.std.specs.List.{filter}
use Rattle.typestate.specs.Families.{children_in, has_parent}
use Rattle.typestate.specs.Left.{left_by}
use Rattle.typestate.proofs.points.NotedSlots.note_children_in.Given as goal

abbrev pub invariant-loop-change : goal.invariant-loop-change
invariant-loop-change l =
    l.found.items ++ filter (λ c. has_parent l.parent (left_by c)) l.change-iterator ≡ l.fn.found.items ++ children_in l.fn.self.changes.now l.parent l.block
