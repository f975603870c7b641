-- What the rules on programs say where they are kept: at each point with a state, and on each edge of such a point.
use Rattle.std.proofs.Common.{◌≡◌, ℕ, suc, ◌+◌, ◌-◌, ◌*◌, ◌/◌, ◌%◌, ◌<◌, Bool, true, false, not, ◌&&◌, nat_le, nat_lt, ◌==◌, [], Option, Some, None}
use Rattle.std.proofs.Common.{if◌then◌else◌, refl, ap, subst, ◌∙◌, arith}
use Rattle.std.specs.Prelude.{int_lt, pos, Contains}
use Rattle.std.specs.Option.{option_map_or}
use Rattle.std.proofs.lemmas.Bool.{and_parts, eqb-true, leb-true, ltb-true, not-false}
use Rattle.std.proofs.lemmas.List.Elements.{All-head}
use Rattle.headline.proofs.facts.Laws.{IsKeptRule, aligned-point, holds-where, kept-among, state-kept}
use Rattle.model.specs.declared.refusals.Point.{Point}
use Rattle.model.specs.declared.refusals.Refusal.TheVariants.{BadTarget, CapNotThere, ComputedJump, IllegalInstruction, MeasureNotFalling, NotMapped}
use Rattle.model.specs.declared.refusals.Refusal.TheVariants.{OverBudget, RangeNotKept}
use Rattle.model.specs.Acceptance.Accepted.{AreKept}
use Rattle.model.specs.Acceptance.Measures.{Measure, falls, least_value, stays_below}
use Rattle.model.specs.Acceptance.NotedStates.{PointState, are_same_slots, has_stray_slots}
use Rattle.model.specs.Acceptance.PointRules.{ProgramEdge, are_ranges_within, edge_rules, edges_at, is_computed_jump, is_illegal, is_unmapped, kept_at}
use Rattle.model.specs.Acceptance.PointRules.{noted_at, point_at, program_rules, rules_on_edges, state_rules}
use Rattle.model.specs.Acceptance.PointStates.{Noted, Known, Missing, Unmeasured, address_of, instruction_at, noted, point_of}
use Rattle.model.specs.Acceptance.Rules.{Rule}
use Rattle.model.specs.Images.Described.{Numbered, numbered_threads}
use Rattle.model.specs.Images.Image.{Image, Thread}
use Rattle.headline.specs.steps.Points.{IsPoint, LeadsOn}
use Rattle.soundness.proofs.Laws.{not-refused}

-- ---- edges

-- the point of an address
record IsPointAt (t : Thread) (address point : ℕ) : Type 0 where
  inside : point < t.header.words
  is : address ≡ address_of t point
  aligned : address % 4 ≡ 0

point-found : (t : Thread) (address point : ℕ) → t.header.base % 4 ≡ 0 → point_at t address ≡ Some point → IsPointAt t address point
point-found t address point base found =
    let test : Bool = nat_le t.header.base address && nat_lt address (t.header.base + 4 * t.header.words) && (address % 4 == 0) in
    elim test as (λ (b : Bool). test ≡ b → (if b then Some ((address - t.header.base) / 4) else None) ≡ Some point → IsPointAt t address point) [
      | false ↦ λ is none. absurd (let clash : ◌≡◌ {A = Option ℕ} None (Some point) = none in cc)
      | true ↦ λ is some.
          let parts = and_parts (nat_le t.header.base address && nat_lt address (t.header.base + 4 * t.header.words)) (address % 4 == 0) is in
          let ends = and_parts (nat_le t.header.base address) (nat_lt address (t.header.base + 4 * t.header.words)) parts.0 in
          let aligned : address % 4 ≡ 0 = eqb-true (address % 4) 0 parts.1 in
          let here : (address - t.header.base) / 4 ≡ point = let same : ◌≡◌ {A = Option ℕ} (Some ((address - t.header.base) / 4)) (Some point) = some in cc in
          let at = aligned-point t.header.base t.header.words address base aligned (leb-true t.header.base address ends.0)
          (ltb-true address (t.header.base + 4 * t.header.words) ends.1) in
          record { inside = subst (λ (n : ℕ). n < t.header.words) here at.0; is = at.1 ∙ ap (λ (n : ℕ). t.header.base + 4 * n) here; aligned = aligned }
    ] refl found

module _ (image : Image) (t : Numbered) (base : t.thread.header.base % 4 ≡ 0) (at : Point) (from : Measure) (edge : ProgramEdge) where
  leads-known : (point : ℕ) (state : PointState) → point_at t.thread edge.target ≡ Some point → noted image t point ≡ Known state
      → AreKept (kept_at t.thread at from edge state) → LeadsOn image t from edge
  leads-known point state found known kept =
      let place = point-found t.thread edge.target point base found in
      record {
        point = point;
        state = state;
        inside = IsPointAt.inside place;
        target = IsPointAt.is place;
        aligned = IsPointAt.aligned place;
        known = known;
        within = not-false (are_ranges_within edge.ranges state.ranges)
            (not-refused (not (are_ranges_within edge.ranges state.ranges)) (RangeNotKept at) (kept 0 None (omega arith)));
        slots = not-false (are_same_slots edge.slots state.slots)
            (not-refused (not (are_same_slots edge.slots state.slots)) (CapNotThere at) (kept 1 None (omega arith)));
        falling = λ plain. holds-where (not edge.is_wait) (falls from state.measure edge.value_of edge.before edge.ranges)
            (not-refused (not edge.is_wait && not (falls from state.measure edge.value_of edge.before edge.ranges)) (MeasureNotFalling at)
            (kept 2 None (omega arith))) (ap (λ (c : Bool). not c) plain);
        covered = λ wait. holds-where edge.is_wait (stays_below t.thread.header.budget state.measure edge.value_of edge.before edge.ranges)
            (not-refused (edge.is_wait && not (stays_below t.thread.header.budget state.measure edge.value_of edge.before edge.ranges)) (OverBudget at)
            (kept 3 None (omega arith))) wait;
      }

  leads-noted : (point : ℕ) (n : Noted) → point_at t.thread edge.target ≡ Some point → noted image t point ≡ n → AreKept (edge_rules t.thread at from edge n) →
      LeadsOn image t from edge
  leads-noted point (Known state) found known kept = leads-known point state found known kept
  leads-noted point Missing found known kept =
      absurd (let clash : ◌≡◌ {A = Rule} (Some (BadTarget at)) None = All-head IsKeptRule (Some (BadTarget at)) [] kept in cc)
  leads-noted point Unmeasured found known kept =
      absurd (let clash : ◌≡◌ {A = Rule} (Some (MeasureNotFalling at)) None = All-head IsKeptRule (Some (MeasureNotFalling at)) [] kept in cc)

  leads-at : (o : Option ℕ) → point_at t.thread edge.target ≡ o → AreKept (edge_rules t.thread at from edge (option_map_or (noted image t) o Missing)) →
      LeadsOn image t from edge
  leads-at (Some point) found kept = leads-noted point (noted image t point) found refl kept
  leads-at None found kept =
      absurd (let clash : ◌≡◌ {A = Rule} (Some (BadTarget at)) None = All-head IsKeptRule (Some (BadTarget at)) [] kept in cc)

-- ---- points

by-rules : (image : Image) (t : Numbered) (point : ℕ) (state : PointState) → t.thread.header.base % 4 ≡ 0 → AreKept (state_rules image t point state) →
    IsPoint image t point state
unfolding state_rules
by-rules image t point state base kept =
    let at = point_of t point in
    let instr = instruction_at t.thread point in
    let edges : AreKept (rules_on_edges image t point state) = λ k rule less. kept (suc (suc (suc (suc (suc (suc k)))))) rule (omega (arith, less)) in
    record {
      legal = not-refused (is_illegal instr) (IllegalInstruction at) (kept 0 None (omega arith));
      straight = not-refused (is_computed_jump instr) (ComputedJump at) (kept 1 None (omega arith));
      own = not-refused (has_stray_slots image t.thread point state) (CapNotThere at) (kept 2 None (omega arith));
      least = not-refused (int_lt (least_value state.measure state.ranges) (pos 1)) (MeasureNotFalling at) (kept 3 None (omega arith));
      mapped = not-refused (is_unmapped image t.thread state instr) (NotMapped at) (kept 4 None (omega arith));
      leads = λ edge among. leads-at image t base at state.measure edge (point_at t.thread edge.target) refl
          (kept-among (λ (e : ProgramEdge). edge_rules t.thread at state.measure e (noted_at image t e.target)) (edges_at image t point state instr) edge
          among.0 edges among.1 among.2);
    }

pub point-kept : (image : Image) (t : Numbered) (point : ℕ) (state : PointState) → AreKept (program_rules image) → Contains (numbered_threads image) t →
    t.thread.header.base % 4 ≡ 0
    → point < t.thread.header.words → noted image t point ≡ Known state → IsPoint image t point state
point-kept image t point state h listed base inside known = by-rules image t point state base (state-kept image t point state h listed inside known)
