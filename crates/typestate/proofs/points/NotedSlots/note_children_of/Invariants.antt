-- What is left of the links brings what is left of the children.
use Rattle.std.proofs.Common.{◌≡◌, ◌++◌, ℕ}
use Rattle.std.specs.List.{flat_map}
use Rattle.typestate.specs.Families.{children_in, children_of}
use Rattle.typestate.proofs.points.NotedSlots.note_children_of.Given as goal

abbrev pub invariant-loop-link : goal.invariant-loop-link
invariant-loop-link l =
    l.found.items ++ flat_map (λ (q : ℕ × ℕ). children_in l.fn.self.changes.now l.parent q.1) l.link-iterator ≡ l.fn.found.items
    ++ children_of l.fn.self.changes.now l.parent
