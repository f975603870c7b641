-- Those so far have no children.
use Rattle.std.proofs.Common.{◌≡◌, [], take}
use Rattle.std.specs.List.{flat_map}
use Rattle.typestate.specs.Families.{children_of}
use Rattle.typestate.proofs.points.NotedSlots.are_childless.Given as goal

abbrev pub invariant-loop-slot : goal.invariant-loop-slot
invariant-loop-slot l = [] ≡ flat_map (λ s. children_of l.fn.self.changes.now s.key) (take l.slot-index l.slots)
