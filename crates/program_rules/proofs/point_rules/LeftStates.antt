-- A way to the state that its instruction or system call leaves: ranges lie within themselves, slots are the same, and the measure is
-- lowered by 1, or is the whole budget.
use Rattle.std.proofs.Common.{ℕ, ◌≡◌, ◌∙◌, ◌==◌, Bool, true, false, not, ◌&&◌, inl, inr, if◌then◌else◌, Option, Some, None, List, [], ◌∷◌, pos, ap, refl, sym}
use Rattle.std.proofs.Common.{subst, arith}
use Rattle.std.proofs.lemmas.Bool.Decides.{eqb_tells}
use Rattle.std.specs.List.{list_any}
use Rattle.std.specs.Option.{option_map_or}
use Rattle.model.specs.Acceptance.CallRules.{AfterCall}
use Rattle.model.specs.Acceptance.Edges.{Edge}
use Rattle.model.specs.Acceptance.Measures.{Form, Measure, behind_form, call_form, falls, has_term, lowered, stays_below}
use Rattle.model.specs.Acceptance.NotedStates.{NotedSlot, PointState, SlotKey, are_same_slots, is_same_key, is_same_parent, is_same_slot}
use Rattle.model.specs.Acceptance.PointRules.{ProgramEdge, are_ranges_within, call_edge, edge_rules, kept_at, program_edge}
use Rattle.model.specs.Acceptance.PointStates.{Noted, Known, Unmeasured, behind_call, follows_edge, whole_budget, with_measure}
use Rattle.model.specs.Acceptance.RangeRules.{destination}
use Rattle.model.specs.Acceptance.Rules.{first_broken, refuse_if}
use Rattle.model.specs.Capabilities.CapabilityFields.{same_words}
use Rattle.model.specs.Capabilities.CapabilityWords.{words_of}
use Rattle.model.specs.Images.Image.{Thread}
use Rattle.model.specs.declared.instructions.Instr.{Instr}
use Rattle.model.specs.declared.instructions.Register.{Register}
use Rattle.model.specs.declared.ranges.Range.{Range}
use Rattle.model.specs.declared.refusals.Point.{Point}
use Rattle.model.specs.declared.refusals.Refusal.{Refusal}
use Rattle.model.specs.declared.refusals.Refusal.TheVariants.{CapNotThere, MeasureNotFalling, OverBudget, RangeNotKept}
use Rattle.program_rules.proofs.point_rules.WithinRanges.{are_within}

-- ---- slots are the same as themselves

own-number : (n : ℕ) → (n == n) ≡ true
own-number n = elim (eqb_tells n n) [
  | inl same ↦ same.0
  | inr other ↦ absurd (other.1 refl)
]

own-words : (ws : List ℕ) → same_words ws ws ≡ true
own-words [] = refl
own-words (w ∷ ws) = ap (λ (b : Bool). b && same_words ws ws) (own-number w) ∙ own-words ws

own-parent : (parent : Option SlotKey) → is_same_parent parent parent ≡ true
own-parent None = refl
own-parent (Some key) = own-number _

all-three : (a b c : Bool) → a ≡ true → b ≡ true → c ≡ true → (a && b && c) ≡ true
all-three a b c one two three =
    ap (λ (x : Bool). x && b && c) one ∙ ap (λ (x : Bool). true && x && c) two ∙ ap (λ (x : Bool). true && true && x) three

own-slot : (s : NotedSlot) → is_same_slot s s ≡ true
own-slot s =
    all-three (is_same_key s.key s.key) (same_words (words_of s.capability) (words_of s.capability)) (is_same_parent s.parent s.parent)
    (own-number _) (own-words (words_of s.capability)) (own-parent s.parent)

pub own-slots : (slots : List NotedSlot) → are_same_slots slots slots ≡ true
own-slots [] = refl
own-slots (s ∷ slots) = ap (λ (b : Bool). b && are_same_slots slots slots) (own-slot s) ∙ own-slots slots

-- ---- the way keeps its rules

no-rule-broken : (a b c d wait : Bool) (w x y z : Refusal) → a ≡ true → b ≡ true → (wait ≡ false → c ≡ true) → (wait ≡ true → d ≡ true)
    → first_broken (refuse_if (not a) w ∷ refuse_if (not b) x ∷ refuse_if (not wait && not c) y ∷ refuse_if (wait && not d) z ∷ []) ≡ None
no-rule-broken a b c d true w x y z one two three four =
    ap (λ (a : Bool). first_broken (refuse_if (not a) w ∷ refuse_if (not b) x ∷ None ∷ refuse_if (not d) z ∷ [])) one
    ∙ ap (λ (b : Bool). first_broken (refuse_if (not b) x ∷ None ∷ refuse_if (not d) z ∷ [])) two
    ∙ ap (λ (d : Bool). first_broken (refuse_if (not d) z ∷ [])) (four refl)
no-rule-broken a b c d false w x y z one two three four =
    ap (λ (a : Bool). first_broken (refuse_if (not a) w ∷ refuse_if (not b) x ∷ refuse_if (not c) y ∷ None ∷ [])) one
    ∙ ap (λ (b : Bool). first_broken (refuse_if (not b) x ∷ refuse_if (not c) y ∷ None ∷ [])) two
    ∙ ap (λ (c : Bool). first_broken (refuse_if (not c) y ∷ None ∷ [])) (three refl)

-- a way to a state with its own ranges and slots keeps the rules that its measure keeps
kept-own : (t : Thread) (at : Point) (m after : Measure) (edge : ProgramEdge) →
    (edge.is_wait ≡ false → falls m after edge.value_of edge.before edge.ranges ≡ true)
    → (edge.is_wait ≡ true → stays_below t.header.budget after edge.value_of edge.before edge.ranges ≡ true)
    → first_broken (kept_at t at m edge (record { ranges = edge.ranges; slots = edge.slots; measure = after })) ≡ None
kept-own t at m after edge fall stay =
    no-rule-broken (are_ranges_within edge.ranges edge.ranges) (are_same_slots edge.slots edge.slots)
    (falls m after edge.value_of edge.before edge.ranges) (stays_below t.header.budget after edge.value_of edge.before edge.ranges) edge.is_wait
    (RangeNotKept at) (CapNotThere at) (MeasureNotFalling at) (OverBudget at)
    (are_within edge.ranges edge.ranges (λ k less. (omega arith, omega arith))) (own-slots edge.slots) fall stay

module _ (fall : (m : Measure) (instr : Instr) (before behind : List Range) → option_map_or (λ rd. has_term m rd.0) (destination instr) false ≡ false
    → falls m (lowered m (pos 1)) (behind_form instr before behind) before behind ≡ true) where
  pub left-kept : (t : Thread) (at : Point) (instr : Instr) (state next : PointState) (edge : Edge) → follows_edge instr state (Some edge) ≡ Known next
      → first_broken (edge_rules t at state.measure (program_edge instr state.slots edge) (Known next)) ≡ None
  left-kept t at instr state next edge left =
      let written = option_map_or (λ rd. has_term state.measure rd.0) (destination instr) false in
      let own : PointState = record { ranges = edge.ranges; slots = state.slots; measure = lowered state.measure (pos 1) } in
      let way = program_edge instr state.slots edge in
      let broken : Noted → Option Refusal = λ n. first_broken (edge_rules t at state.measure way n) in
      elim written as (λ b. written ≡ b → (if b then Unmeasured else Known own) ≡ Known next → broken (Known next) ≡ None) [
        | true ↦ λ is same. absurd (let clash : Unmeasured ≡ Known next = same in cc)
        | false ↦ λ is same.
            subst (λ (n : Noted). broken n ≡ None) same
            (kept-own t at state.measure (lowered state.measure (pos 1)) way (λ _. fall state.measure instr edge.before edge.ranges is)
            (λ wait. absurd (let clash : false ≡ true = wait in cc)))
      ] refl left

-- ---- behind a system call

module _ (fall : (m : Measure) (written : List Register) (before behind : List Range) → list_any (λ x. has_term m x.0) written ≡ false
    → falls m (lowered m (pos 1)) (call_form written) before behind ≡ true)
    (stay : (budget : ℕ) (value_of : ℕ → Form) (before behind : List Range) →
    stays_below budget (record { constant = pos budget; terms = [] }) value_of before behind ≡ true) where
  pub call-kept : (t : Thread) (at : Point) (pc : ℕ) (state next : PointState) (a : AfterCall) → behind_call t state.measure a ≡ Known next
      → first_broken (edge_rules t at state.measure (call_edge pc state.ranges a) (Known next)) ≡ None
  call-kept t at pc state next a left =
      let m = state.measure in
      let written = list_any (λ x. has_term m x.0) a.written in
      let way = call_edge pc state.ranges a in
      let broken : Noted → Option Refusal = λ n. first_broken (edge_rules t at m way n) in
      let counted : Noted = if written then Unmeasured else with_measure a (lowered m (pos 1)) in
      elim a.is_wait as (λ b. a.is_wait ≡ b → (if b then with_measure a (whole_budget t) else counted) ≡ Known next → broken (Known next) ≡ None) [
        | true ↦ λ wait same.
            subst (λ (n : Noted). broken n ≡ None) same
            (kept-own t at m (whole_budget t) way (λ none. absurd (let clash : true ≡ false = sym wait ∙ none in cc))
            (λ _. stay t.header.budget (call_form a.written) state.ranges a.ranges))
        | false ↦ λ none same.
            elim written as (λ b. written ≡ b → (if b then Unmeasured else with_measure a (lowered m (pos 1))) ≡ Known next → broken (Known next) ≡ None) [
              | true ↦ λ is same. absurd (let clash : Unmeasured ≡ Known next = same in cc)
              | false ↦ λ is same.
                  subst (λ (n : Noted). broken n ≡ None) same
                  (kept-own t at m (lowered m (pos 1)) way (λ _. fall m a.written state.ranges a.ranges is)
                  (λ wait. absurd (let clash : false ≡ true = sym none ∙ wait in cc)))
            ] refl same
      ] refl left
