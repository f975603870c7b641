-- What follows from a point, as it is kept.
use Rattle.std.proofs.Common.{ℕ, ℤ, pos, negsuc, ◌≡◌, ◌+◌, ◌^◌, ◌-ℤ◌, if◌then◌else◌, Bool, true, false, Option, Some, None, List, refl, sym, ap, ◌∙◌}
use Rattle.std.specs.Prelude.{◌≤ℤ◌, option_map}
use Rattle.std.specs.List.{list_any}
use Rattle.std.specs.Option.{option_map_or}
use Rattle.std.proofs.lemmas.Int.{ints}
use Rattle.std.proofs.Common.{arith}
use Rattle.model.specs.Acceptance.CallRules.{AfterCall}
use Rattle.model.specs.Acceptance.Edges.{Edge}
use Rattle.model.specs.Acceptance.Measures.{Measure, has_term, lowered}
use Rattle.model.specs.Acceptance.NotedStates.{NotedSlot, PointState}
use Rattle.model.specs.Acceptance.PointStates.{Noted, Known, Missing, Unmeasured, behind_call, follows_edge, with_measure, whole_budget}
use Rattle.model.specs.Acceptance.RangeRules.{destination}
use Rattle.model.specs.Images.Image.{Image, Thread}
use Rattle.model.specs.declared.instructions.Instr.{Instr}
use Rattle.model.specs.declared.ranges.Range.{Range}
use Rattle.program_rules.specs.point_rules.Points.{left_with}
use Rattle.program_rules.specs.declared.at_points.AtPoint.TheVariants as kept
use Rattle.program_rules.specs.declared.at_points.AtPoint.{AtPoint}
use Rattle.program_rules.specs.declared.point_rules.following.Left.{Left}
use Rattle.program_rules.specs.Kept.{IsCleanIn, IsSound, kept_as, noted_by}
use Rattle.ranges.specs.Edges.{only_if}
use Rattle.typestate.specs.Logs.{Holds, part_of}
use Rattle.typestate.specs.Strays.{NoneStray}
use Rattle.typestate.specs.declared.logs.Part.{Part}
use Rattle.typestate.specs.Replays.{replayed}
use Rattle.typestate.specs.declared.log_entries.LogEntry.{LogEntry}

-- the constant of what is noted is no less than a bound
abbrev pub IsAtLeast : ℤ → Noted → Type 0
IsAtLeast bound (Known s) = bound ≤ℤ s.measure.constant
IsAtLeast bound Missing = Unit {0}
IsAtLeast bound Unmeasured = Unit {0}

-- what is kept of what is left is what it is
pub kept-same : (slots : List NotedSlot) (log : List LogEntry) (n : AtPoint Left) (part : Part) (clean : Bool) →
    noted_by slots log (kept_as n part clean) ≡ left_with (replayed slots (part_of log part)) n
kept-same slots log (kept.Known left) part clean = refl
kept-same slots log kept.Missing part clean = refl
kept-same slots log kept.Unmeasured part clean = refl

pub kept-sound : (slots : List NotedSlot) (log : List LogEntry) (point : ℕ) (n : AtPoint Left) (part : Part) (clean : Bool) → Holds log part →
    IsAtLeast (negsuc (2 ^ 62 + point)) (left_with slots n) → IsSound log point (kept_as n part clean)
kept-sound slots log point (kept.Known left) part clean held least = (held, least)
kept-sound slots log point kept.Missing part clean held least = tt
kept-sound slots log point kept.Unmeasured part clean held least = tt

pub kept-clean : (image : Image) (t : Thread) (slots : List NotedSlot) (log : List LogEntry) (n : AtPoint Left) (part : Part) (clean : Bool)
    → (clean ≡ true → NoneStray image t (replayed slots (part_of log part))) → IsCleanIn image t slots log (kept_as n part clean)
kept-clean image t slots log (kept.Known left) part clean none = none
kept-clean image t slots log kept.Missing part clean none = tt
kept-clean image t slots log kept.Unmeasured part clean none = tt

-- ---- the ranges on the way to the next point

-- what follows, by these ranges
abbrev follows_ranges : Instr → PointState → Option (List Range) → Noted
follows_ranges instr s None = Missing
follows_ranges instr s (Some ranges) =
    if option_map_or (λ rd. has_term s.measure rd.0) (destination instr) false then Unmeasured
    else Known (record { ranges = ranges; slots = s.slots; measure = lowered s.measure (pos 1) })

edge-ranges : (instr : Instr) (s : PointState) (edge : Option Edge) → follows_ranges instr s (option_map (λ e. e.ranges) edge) ≡ follows_edge instr s edge
edge-ranges instr s None = refl
edge-ranges instr s (Some edge) = refl

pub not-passed : (instr : Instr) (s : PointState) (edge : Option Edge) (ranges : List Range) (is : Bool) →
    only_if is ranges ≡ option_map (λ e. e.ranges) edge → is ≡ false → Missing ≡ follows_edge instr s edge
not-passed instr s edge ranges is same stays =
    ap (λ (b : Bool). follows_ranges instr s (only_if b ranges)) (sym stays) ∙ ap (follows_ranges instr s) same ∙ edge-ranges instr s edge

pub passed-unmeasured : (instr : Instr) (s : PointState) (edge : Option Edge) (ranges : List Range) (is : Bool) →
    only_if is ranges ≡ option_map (λ e. e.ranges) edge → is ≡ true → option_map_or (λ rd. has_term s.measure rd.0) (destination instr) false ≡ true →
    Unmeasured ≡ follows_edge instr s edge
passed-unmeasured instr s edge ranges is same goes writes =
    ap (λ (b : Bool). if b then Unmeasured else Known (record { ranges = ranges; slots = s.slots; measure = lowered s.measure (pos 1) })) (sym writes)
    ∙ ap (λ (b : Bool). follows_ranges instr s (only_if b ranges)) (sym goes) ∙ ap (follows_ranges instr s) same ∙ edge-ranges instr s edge

pub passed-known : (instr : Instr) (s : PointState) (edge : Option Edge) (ranges : List Range) (is : Bool) (m : Measure) →
    only_if is ranges ≡ option_map (λ e. e.ranges) edge → is ≡ true → option_map_or (λ rd. has_term s.measure rd.0) (destination instr) false ≡ false →
    m ≡ lowered s.measure (pos 1) → Known (record { ranges = ranges; slots = s.slots; measure = m }) ≡ follows_edge instr s edge
passed-known instr s edge ranges is m same goes writes low =
    ap (λ (n : Measure). Known (record { ranges = ranges; slots = s.slots; measure = n })) low
    ∙ ap (λ (b : Bool). if b then Unmeasured else Known (record { ranges = ranges; slots = s.slots; measure = lowered s.measure (pos 1) })) (sym writes)
    ∙ ap (λ (b : Bool). follows_ranges instr s (only_if b ranges)) (sym goes) ∙ ap (follows_ranges instr s) same ∙ edge-ranges instr s edge

-- ---- one less

pub one-less : (point : ℕ) (c : ℤ) → negsuc (2 ^ 62 + point) ≤ℤ c → negsuc (2 ^ 62 + (point + 1)) ≤ℤ (c -ℤ pos 1)
one-less point (pos n) low = grind (arith, ints)
one-less point (negsuc n) low = grind (arith, ints, low)

edge-low : (s : PointState) (edge : Edge) (point : ℕ) (b : Bool) → negsuc (2 ^ 62 + point) ≤ℤ s.measure.constant
    → IsAtLeast (negsuc (2 ^ 62 + (point + 1))) (if b then Unmeasured else
    Known (record { ranges = edge.ranges; slots = s.slots; measure = lowered s.measure (pos 1) }))
edge-low s edge point true low = tt
edge-low s edge point false low = one-less point s.measure.constant low

pub edge-least : (instr : Instr) (s : PointState) (edge : Option Edge) (point : ℕ) → negsuc (2 ^ 62 + point) ≤ℤ s.measure.constant
    → IsAtLeast (negsuc (2 ^ 62 + (point + 1))) (follows_edge instr s edge)
edge-least instr s None point low = tt
edge-least instr s (Some edge) point low = edge-low s edge point (option_map_or (λ rd. has_term s.measure rd.0) (destination instr) false) low

call-low : (t : Thread) (m : Measure) (a : AfterCall) (point : ℕ) (b c : Bool) → negsuc (2 ^ 62 + point) ≤ℤ m.constant
    → IsAtLeast (negsuc (2 ^ 62 + (point + 1))) (if b then with_measure a (whole_budget t) else if c then Unmeasured else with_measure a (lowered m (pos 1)))
call-low t m a point true c low = grind (arith, ints)
call-low t m a point false true low = tt
call-low t m a point false false low = one-less point m.constant low

pub call-least : (t : Thread) (m : Measure) (a : AfterCall) (point : ℕ) → negsuc (2 ^ 62 + point) ≤ℤ m.constant →
    IsAtLeast (negsuc (2 ^ 62 + (point + 1))) (behind_call t m a)
call-least t m a point low = call-low t m a point a.is_wait (list_any (λ x. has_term m x.0) a.written) low

-- changes that follow others
