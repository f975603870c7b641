-- The rules at a point, part by part.
use Rattle.std.specs.Prelude.{ℕ, ◌≡◌, Bool, true, false, int_lt, pos, Option, Some, None, List, [], ◌∷◌, if◌then◌else◌}
use Rattle.model.specs.Acceptance.Edges.{Edge}
use Rattle.model.specs.Acceptance.Measures.{least_value}
use Rattle.model.specs.Acceptance.NotedStates.{PointState, has_stray_slots}
use Rattle.model.specs.Acceptance.PointRules.{call_rule, edge_rules, is_computed_jump, is_illegal, is_unmapped, noted_at, program_edge, rules_on_edges}
use Rattle.model.specs.Acceptance.PointStates.{point_of}
use Rattle.model.specs.Acceptance.Rules.{Rule, refuse_if}
use Rattle.model.specs.Images.Described.{Numbered}
use Rattle.model.specs.Images.Image.{Image}
use Rattle.model.specs.declared.instructions.Instr.TheVariants.{Branch}
use Rattle.model.specs.declared.instructions.Instr.{Instr}
use Rattle.model.specs.declared.ranges.Range.{Range}
use Rattle.model.specs.declared.refusals.Refusal.TheVariants.{CapNotThere, ComputedJump, IllegalInstruction, MeasureNotFalling, NotMapped}

-- the rules before those on the point's system call and on its ways on
abbrev pub own_rules : Image → Numbered → ℕ → PointState → Option Instr → List Rule
own_rules image t point state instr =
    let at = point_of t point in
    refuse_if (is_illegal instr) (IllegalInstruction at)
    ∷ refuse_if (is_computed_jump instr) (ComputedJump at)
    ∷ refuse_if (has_stray_slots image t.thread point state) (CapNotThere at)
    ∷ refuse_if (int_lt (least_value state.measure state.ranges) (pos 1)) (MeasureNotFalling at)
    ∷ refuse_if (is_unmapped image t.thread state instr) (NotMapped at)
    ∷ []

-- the rules on the system call and on the ways on
abbrev pub later_rules : Image → Numbered → ℕ → PointState → Option Instr → List Rule
later_rules image t point state instr = call_rule image t point state instr ∷ rules_on_edges image t point state

-- the rules on a way on from an instruction, where there is one
abbrev pub way_rules : Image → Numbered → ℕ → PointState → Instr → Option Edge → List Rule
way_rules image t point state instr None = []
way_rules image t point state instr (Some edge) =
    let way = program_edge instr state.slots edge in edge_rules t.thread (point_of t point) state.measure way (noted_at image t way.target)

abbrev pub is_branch : Instr → Bool
is_branch (Branch op rs1 rs2 offset) = true
is_branch _ = false

-- the ranges before an instruction, on a way on from it: a branch leaves only some of them
abbrev pub IsBefore : Instr → List Range → Option Edge → Type 0
IsBefore instr ranges None = Unit {0}
IsBefore instr ranges (Some e) = e.before ≡ (if is_branch instr then e.ranges else ranges)
