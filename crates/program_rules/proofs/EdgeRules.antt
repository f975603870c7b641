-- The rules on the ways on from an instruction.
use Rattle.std.proofs.Common.{ℕ, ℤ, ◌≡◌, ◌≢◌, ◌∙◌, ◌+◌, ◌++◌, true, false, Option, Some, None, Result, Ok, Err, List, [], ◌∷◌, refl, ap}
use Rattle.std.specs.Prelude.{flat_map}
use Rattle.std.specs.Option.{option_or}
use Rattle.model.specs.Acceptance.CallRules.{AfterCall}
use Rattle.model.specs.Acceptance.Edges.{Edge, after, behind, branch_edge, branch_ranges}
use Rattle.model.specs.Acceptance.Measures.{Form, Measure}
use Rattle.model.specs.Acceptance.NotedStates.{NotedSlot, PointState}
use Rattle.model.specs.Acceptance.PointRules.{ProgramEdge, call_edge, call_edges, edge_rules, edges_at, edges_of, noted_at}
use Rattle.model.specs.Acceptance.PointRules.{refused_call, rules_on_edges}
use Rattle.model.specs.Acceptance.PointStates.{Noted, address_of, call_at, instruction_at, point_of}
use Rattle.model.specs.Acceptance.Rules.{Rule, first_broken}
use Rattle.model.specs.Images.Described.{Numbered}
use Rattle.model.specs.Images.Image.{Image, Thread}
use Rattle.model.specs.Machine.Effects.{plus}
use Rattle.model.specs.declared.instructions.BranchOp.{BranchOp}
use Rattle.model.specs.declared.instructions.Instr.TheVariants.{Upper, Jal, Jalr, Branch, Load, Store, Immediate, Shift, Registers, Fence, Ecall, Ebreak}
use Rattle.model.specs.declared.instructions.Instr.{Instr}
use Rattle.model.specs.declared.instructions.Register.{Register}
use Rattle.model.specs.declared.ranges.Range.{Range}
use Rattle.model.specs.declared.refusals.Point.{Point}
use Rattle.model.specs.declared.refusals.Refusal.{Refusal}
use Rattle.program_rules.proofs.FirstBroken.{first-both}
use Rattle.program_rules.specs.PointChecks.{IsBefore, later_rules, way_rules}

-- ---- one way

-- the same edge
pub same-rules : (u : Thread) (at at' : Point) (m : Measure) (target target' : ℕ) (before before' ranges ranges' : List Range) (slots : List NotedSlot)
    (value value' : ℕ → Form) (n n' : Noted)
    → at ≡ at' → target ≡ target' → before ≡ before' → ranges ≡ ranges' → ((k : ℕ) → value k ≡ value' k) → n ≡ n'
    → first_broken (edge_rules u at m (record { target = target; before = before; ranges = ranges; slots = slots; value_of = value; is_wait = false }) n)
    ≡ first_broken (edge_rules u at' m (record { target = target'; before = before'; ranges = ranges'; slots = slots; value_of = value'; is_wait = false }) n')
same-rules u at at' m target target' before before' ranges ranges' slots value value' n n' a g b r v same =
    λ i. first_broken (edge_rules u (a i) m (record { target = g i; before = b i; ranges = r i; slots = slots; value_of = λ k. v k i; is_wait = false })
    (same i))

-- ---- the ranges before it

of-branch : (op : BranchOp) (rs1 rs2 : Register) (offset : ℤ) (target : ℕ) (ranges : List Range) (kept : Option (List Range))
    → IsBefore (Branch op rs1 rs2 offset) ranges (branch_edge target kept)
of-branch op rs1 rs2 offset target ranges None = tt
of-branch op rs1 rs2 offset target ranges (Some kept) = refl

pub before-taken : (pc : ℕ) (instr : Instr) (ranges : List Range) → IsBefore instr ranges (after pc instr ranges).taken
unfolding after
before-taken pc (Jal rd offset) ranges = refl
before-taken pc (Branch op rs1 rs2 offset) ranges = of-branch op rs1 rs2 offset (plus pc offset) ranges (branch_ranges op true rs1 rs2 ranges)
before-taken pc (Upper op rd immediate) ranges = tt
before-taken pc (Load op rd rs1 offset) ranges = tt
before-taken pc (Store op rs1 rs2 offset) ranges = tt
before-taken pc (Immediate op rd rs1 immediate) ranges = tt
before-taken pc (Shift op rd rs1 amount) ranges = tt
before-taken pc (Registers op rd rs1 rs2) ranges = tt
before-taken pc Fence ranges = tt
before-taken pc (Jalr rd rs1 offset) ranges = tt
before-taken pc Ecall ranges = tt
before-taken pc Ebreak ranges = tt

pub before-fall : (pc : ℕ) (instr : Instr) (ranges : List Range) → IsBefore instr ranges (after pc instr ranges).fall_through
unfolding after
before-fall pc (Jal rd offset) ranges = tt
before-fall pc (Branch op rs1 rs2 offset) ranges = of-branch op rs1 rs2 offset (behind pc) ranges (branch_ranges op false rs1 rs2 ranges)
before-fall pc (Upper op rd immediate) ranges = refl
before-fall pc (Load op rd rs1 offset) ranges = refl
before-fall pc (Store op rs1 rs2 offset) ranges = refl
before-fall pc (Immediate op rd rs1 immediate) ranges = refl
before-fall pc (Shift op rd rs1 amount) ranges = refl
before-fall pc (Registers op rd rs1 rs2) ranges = refl
before-fall pc Fence ranges = refl
before-fall pc (Jalr rd rs1 offset) ranges = tt
before-fall pc Ecall ranges = tt
before-fall pc Ebreak ranges = tt

-- ---- both ways

pub plain-edges : (image : Image) (t : Numbered) (point : ℕ) (s : PointState) (instr : Instr) → instr ≢ Ecall
    → edges_at image t point s (Some instr) ≡ edges_of instr s.slots (after (address_of t.thread point) instr s.ranges)
unfolding edges_at
plain-edges image t point s (Jal rd offset) plain = refl
plain-edges image t point s (Branch op rs1 rs2 offset) plain = refl
plain-edges image t point s (Upper op rd immediate) plain = refl
plain-edges image t point s (Load op rd rs1 offset) plain = refl
plain-edges image t point s (Store op rs1 rs2 offset) plain = refl
plain-edges image t point s (Immediate op rd rs1 immediate) plain = refl
plain-edges image t point s (Shift op rd rs1 amount) plain = refl
plain-edges image t point s (Registers op rd rs1 rs2) plain = refl
plain-edges image t point s Fence plain = refl
plain-edges image t point s (Jalr rd rs1 offset) plain = refl
plain-edges image t point s Ecall plain = absurd (plain refl)
plain-edges image t point s Ebreak plain = refl

nil-right : (rules : List Rule) → rules ++ [] ≡ rules
nil-right [] = refl
nil-right (rule ∷ rules) = ap (λ (rest : List Rule). rule ∷ rest) (nil-right rules)

abbrev rules_on : Image → Numbered → ℕ → PointState → List ProgramEdge → List Rule
rules_on image t point s edges = flat_map (λ edge. edge_rules t.thread (point_of t point) s.measure edge (noted_at image t edge.target)) edges

two-ways : (image : Image) (t : Numbered) (point : ℕ) (s : PointState) (instr : Instr) (taken fall : Option Edge)
    → rules_on image t point s (edges_of instr s.slots (record { taken = taken; fall_through = fall })) ≡ way_rules image t point s instr taken
    ++ way_rules image t point s instr fall
two-ways image t point s instr None None = refl
two-ways image t point s instr (Some a) None = refl
two-ways image t point s instr None (Some b) = nil-right (way_rules image t point s instr (Some b))
two-ways image t point s instr (Some a) (Some b) = ap (λ (rules : List Rule). way_rules image t point s instr (Some a) ++ rules)
    (nil-right (way_rules image t point s instr (Some b)))

-- the first broken rule is that of the taken way, or else that of the other
pub first-way : (image : Image) (t : Numbered) (point : ℕ) (s : PointState) (instr : Instr) → instr ≢ Ecall → instruction_at t.thread point ≡ Some instr
    → first_broken (rules_on_edges image t point s)
    ≡ option_or (first_broken (way_rules image t point s instr (after (address_of t.thread point) instr s.ranges).taken))
    (first_broken (way_rules image t point s instr (after (address_of t.thread point) instr s.ranges).fall_through))
first-way image t point s instr plain is =
    let ways = after (address_of t.thread point) instr s.ranges in
    ap (λ (i : Option Instr). first_broken (rules_on image t point s (edges_at image t point s i))) is
    ∙ ap (λ (edges : List ProgramEdge). first_broken (rules_on image t point s edges)) (plain-edges image t point s instr plain)
    ∙ ap first_broken (two-ways image t point s instr ways.taken ways.fall_through)
    ∙ first-both (way_rules image t point s instr ways.taken) (way_rules image t point s instr ways.fall_through)

-- ---- a system call

-- what is broken, by what the call leaves
abbrev pub told_of : Image → Numbered → ℕ → PointState → Option (Result AfterCall Refusal) → Option Refusal
told_of image t point s None = None
told_of image t point s (Some (Err refusal)) = Some refusal
told_of image t point s (Some (Ok a)) =
    first_broken (edge_rules t.thread (point_of t point) s.measure (call_edge (address_of t.thread point) s.ranges a)
    (noted_at image t (address_of t.thread point + 4)))

by-outcome : (image : Image) (t : Numbered) (point : ℕ) (s : PointState) (o : Option (Result AfterCall Refusal))
    → first_broken (refused_call o ∷ rules_on image t point s (call_edges (address_of t.thread point) s.ranges o)) ≡ told_of image t point s o
by-outcome image t point s None = refl
by-outcome image t point s (Some (Err refusal)) = refl
by-outcome image t point s (Some (Ok a)) =
    ap first_broken (nil-right (edge_rules t.thread (point_of t point) s.measure (call_edge (address_of t.thread point) s.ranges a)
    (noted_at image t (address_of t.thread point + 4))))

pub call-told : (image : Image) (t : Numbered) (point : ℕ) (s : PointState) (o : Option (Result AfterCall Refusal)) → instruction_at t.thread point ≡ Some Ecall
    → call_at image t point s ≡ o → first_broken (later_rules image t point s (Some Ecall)) ≡ told_of image t point s o
unfolding edges_at
call-told image t point s o is told =
    ap (λ (i : Option Instr). first_broken (refused_call (call_at image t point s) ∷ rules_on image t point s (edges_at image t point s i))) is
    ∙ ap (λ (o : Option (Result AfterCall Refusal)).
    first_broken (refused_call o ∷ rules_on image t point s (call_edges (address_of t.thread point) s.ranges o))) told
    ∙ by-outcome image t point s o
