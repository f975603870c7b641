-- What is left of the links brings all children.
use Rattle.std.proofs.Common.{◌≡◌, ℕ}
use Rattle.std.specs.List.{flat_map}
use Rattle.typestate.specs.Families.{children_in, children_of}
use Rattle.typestate.proofs.points.NotedSlots.has_child.Given as goal

abbrev pub invariant-loop-link : goal.invariant-loop-link
invariant-loop-link l =
    flat_map (λ (q : ℕ × ℕ). children_in l.fn.self.changes.now l.parent q.1) l.link-iterator ≡ children_of l.fn.self.changes.now l.parent
