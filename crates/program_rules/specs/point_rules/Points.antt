-- The states and the ways on of the rules that those of the code represent.
use Rattle.std.specs.Prelude.{ℕ, List}
use Rattle.measure.specs.Measures.{measure_of}
use Rattle.model.specs.Acceptance.Measures.{Form}
use Rattle.model.specs.Acceptance.NotedStates.{NotedSlot, PointState}
use Rattle.model.specs.Acceptance.PointRules.{ProgramEdge}
use Rattle.model.specs.Acceptance.PointStates.{Noted, Known, Missing, Unmeasured}
use Rattle.program_rules.specs.declared.kept.Known.{Known as State}
use Rattle.program_rules.specs.declared.point_rules.following.Left.{Left}
use Rattle.program_rules.specs.declared.at_points.AtPoint.TheVariants as kept
use Rattle.program_rules.specs.declared.at_points.AtPoint.{AtPoint}
use Rattle.program_rules.specs.declared.point_rules.ways.Way.{Way}

-- the state that is kept, with these slots
abbrev pub known_of : List NotedSlot → State → PointState
known_of slots k = record { ranges = k.bounds; slots = slots; measure = measure_of k.measure }

-- the edge to an address, after which each register is what a form says, and slots are these
abbrev pub edge_of : ℕ → (ℕ → Form) → List NotedSlot → Way → ProgramEdge
edge_of address value_of slots way = record {
  target = address;
  before = way.before.now;
  ranges = way.behind.now;
  slots = slots;
  value_of = value_of;
  is_wait = way.is_wait;
}

-- what is left for the next point, with these slots
abbrev pub left_with : List NotedSlot → AtPoint Left → Noted
left_with slots (kept.Known left) = Known (record { ranges = left.bounds; slots = slots; measure = measure_of left.measure })
left_with slots kept.Missing = Missing
left_with slots kept.Unmeasured = Unmeasured
