-- The ways on from an instruction, as the code has them: where each leads, and the ranges after it.
use Rattle.std.specs.Prelude.{Bool, if◌then◌else◌, List, Option, Some, None, option_map}
use Rattle.model.specs.Acceptance.Edges.{Edge, Edges}
use Rattle.model.specs.declared.ranges.Range.{Range}
use Rattle.ranges.specs.declared.edges.Edge.{Edge as Way}
use Rattle.ranges.specs.declared.edges.Edges.{Edges as Ways}

abbrev pub way_of : Edge → Way
way_of edge = record { target = edge.target; bounds = edge.ranges }

abbrev pub ways_of : Edges → Ways
ways_of edges = record { fall_through = option_map way_of edges.fall_through; taken = option_map way_of edges.taken }

-- these ranges, where there is a way that has them
abbrev pub only_if : Bool → List Range → Option (List Range)
only_if is ranges = if is then Some ranges else None

-- the ranges on the way to the next instruction, if there is one
abbrev pub ranges_behind : Edges → Option (List Range)
ranges_behind edges = option_map (λ edge. edge.ranges) edges.fall_through
