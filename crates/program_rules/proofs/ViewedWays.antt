-- The ways on from a point that is seen.
use Rattle.std.proofs.Common.{ℕ, zero, suc, ◌≡◌, ◌∙◌, ◌≢◌, ◌+◌, ◌*◌, ◌^◌, ◌<◌, ◌≤◌, ◌⊎◌, ◌++◌, ◌&&◌, inl, inr, Bool, true, false, Option, Some, None}
use Rattle.std.proofs.Common.{option_map, Result, Ok, Err, List, [], ◌∷◌}
use Rattle.std.proofs.Common.{length, map, refl, sym, ap, subst, arith}
use Rattle.std.specs.Prelude.{option_to_list, slice_get}
use Rattle.std.specs.List.{list_all}
use Rattle.std.specs.Option.{option_map_or}
use Rattle.std.proofs.lemmas.List.{length-append}
use Rattle.std.proofs.lemmas.Option.{none-some, same_Some, slice_get_within}
use Rattle.model.specs.Acceptance.CallRules.{AfterCall}
use Rattle.model.specs.Acceptance.Edges.{Edge, Edges, after, behind, edge_to, goes_behind}
use Rattle.model.specs.Acceptance.NotedStates.{NotedSlot, PointState}
use Rattle.model.specs.Acceptance.PointRules.{call_edges, edges_at, program_edge}
use Rattle.model.specs.Acceptance.PointStates.{Known, Missing, Noted, Unmeasured, address_of, call_at, instruction_at, noted}
use Rattle.model.specs.Acceptance.Ranges.{range_of}
use Rattle.model.specs.Images.Described.{Numbered}
use Rattle.model.specs.Images.Image.{Image}
use Rattle.model.specs.declared.instructions.Instr.{Instr}
use Rattle.model.specs.Kernel.Messages.{a7}
use Rattle.model.specs.Kernel.Steps.{call_of}
use Rattle.model.specs.declared.instructions.Instr.TheVariants.{Upper, Jal, Jalr, Branch, Load, Store, Immediate, Shift, Registers, Fence, Ecall, Ebreak}
use Rattle.model.specs.declared.ranges.Range.{Range}
use Rattle.model.specs.declared.refusals.Refusal.{Refusal}
use Rattle.program_rules.proofs.EdgeRules.{plain-edges}
use Rattle.program_rules.specs.Views.{AreViews, GoesOn as LeadsOn, IsLonger, IsSeen, IsView, IsViewOf, call_seen, capability_seen, count_of, is_on, view_at}
use Rattle.program_rules.specs.Views.{whole_view}
use Rattle.program_rules.specs.declared.views.PointView.{PointView}
use Rattle.program_rules.specs.declared.views.PointView.TheVariants.{Unknown, Unclear, GoesOn, Seen}
use Rattle.program_rules.specs.declared.views.PointViews.{PointViews}
use Rattle.program_rules.specs.declared.views.SeenPoint.{SeenPoint}
use Rattle.program_rules.specs.declared.views.ShortView.{ShortView}
use Rattle.program_rules.specs.declared.views.ShortView.TheVariants as short
use Rattle.ranges.specs.Edges.{way_of}
use Rattle.ranges.specs.declared.edges.Edge.{Edge as Way}

-- ---- ways

abbrev target_in : Option Way → List ℕ
target_in way = option_to_list (option_map (λ w. w.target) way)

ways-pass : (instr : Instr) (slots : List NotedSlot) (a b : Option Edge) (test : ℕ → Bool)
    → list_all test (target_in (option_map way_of a) ++ target_in (option_map way_of b)) ≡ true
    → list_all (λ edge. test edge.target) (map (program_edge instr slots) (option_to_list a ++ option_to_list b)) ≡ true
ways-pass instr slots None None test so = so
ways-pass instr slots None (Some y) test so = so
ways-pass instr slots (Some x) None test so = so
ways-pass instr slots (Some x) (Some y) test so = so

pub plain-pass : (image : Image) (t : Numbered) (point : ℕ) (state : PointState) (instr : Instr) (taken next : Option ℕ) (one other : Option Way)
    → instr ≢ Ecall → one ≡ option_map way_of (after (address_of t.thread point) instr state.ranges).taken
    → other ≡ option_map way_of (after (address_of t.thread point) instr state.ranges).fall_through
    → taken ≡ option_map (λ w. w.target) one → next ≡ option_map (λ w. w.target) other → (test : ℕ → Bool)
    → list_all test (option_to_list taken ++ option_to_list next) ≡ true
    → list_all (λ edge. test edge.target) (edges_at image t point state (Some instr)) ≡ true
plain-pass image t point state instr taken next one other plain one-is other-is taken-is next-is test so =
    let edges = after (address_of t.thread point) instr state.ranges in
    ap (list_all (λ edge. test edge.target)) (plain-edges image t point state instr plain)
    ∙ ways-pass instr state.slots edges.taken edges.fall_through test
    (ap (λ (w : Option Way). list_all test (target_in w ++ target_in (option_map way_of edges.fall_through))) (sym one-is)
    ∙ ap (λ (w : Option Way). list_all test (target_in one ++ target_in w)) (sym other-is)
    ∙ ap (λ (o : Option ℕ). list_all test (option_to_list o ++ target_in other)) (sym taken-is)
    ∙ ap (λ (o : Option ℕ). list_all test (option_to_list taken ++ option_to_list o)) (sym next-is) ∙ so)

-- what is no jump and no end leads to the next instruction alone
pub going-on : (instr : Instr) → is_on instr ≡ true → instr ≢ Ecall → (pc : ℕ) (ranges : List Range) → after pc instr ranges ≡ goes_behind pc instr ranges
unfolding after
going-on (Upper op rd immediate) on plain pc ranges = refl
going-on (Jal rd offset) on plain pc ranges = absurd (let clash : false ≡ true = on in cc)
going-on (Jalr rd rs1 offset) on plain pc ranges = absurd (let clash : false ≡ true = on in cc)
going-on (Branch op rs1 rs2 offset) on plain pc ranges = absurd (let clash : false ≡ true = on in cc)
going-on (Load op rd rs1 offset) on plain pc ranges = refl
going-on (Store op rs1 rs2 offset) on plain pc ranges = refl
going-on (Immediate op rd rs1 immediate) on plain pc ranges = refl
going-on (Shift op rd rs1 amount) on plain pc ranges = refl
going-on (Registers op rd rs1 rs2) on plain pc ranges = refl
going-on Fence on plain pc ranges = refl
going-on Ecall on plain pc ranges = absurd (plain refl)
going-on Ebreak on plain pc ranges = absurd (let clash : false ≡ true = on in cc)

call-passes : (pc : ℕ) (ranges : List Range) (called : Option (Result AfterCall Refusal)) (test : ℕ → Bool) → list_all test ((pc + 4) ∷ []) ≡ true
    → list_all (λ edge. test edge.target) (call_edges pc ranges called) ≡ true
call-passes pc ranges None test so = refl
call-passes pc ranges (Some (Err refusal)) test so = refl
call-passes pc ranges (Some (Ok a)) test so = so

pub call-pass : (image : Image) (t : Numbered) (point : ℕ) (state : PointState) (next : ℕ) → next ≡ address_of t.thread point + 4 → (test : ℕ → Bool)
    → list_all test (option_to_list None ++ option_to_list (Some next)) ≡ true
    → list_all (λ edge. test edge.target) (edges_at image t point state (Some Ecall)) ≡ true
unfolding edges_at
call-pass image t point state next is test so =
    call-passes (address_of t.thread point) state.ranges (call_at image t point state) test (ap (λ n. list_all test (n ∷ [])) (sym is) ∙ so)

-- ---- what is seen of a point

plain-call : (state : PointState) (instr : Instr) → instr ≢ Ecall → call_seen state (Some instr) ≡ None
plain-call state (Upper op rd immediate) other = refl
plain-call state (Jal rd offset) other = refl
plain-call state (Jalr rd rs1 offset) other = refl
plain-call state (Branch op rs1 rs2 offset) other = refl
plain-call state (Load op rd rs1 offset) other = refl
plain-call state (Store op rs1 rs2 offset) other = refl
plain-call state (Immediate op rd rs1 immediate) other = refl
plain-call state (Shift op rd rs1 amount) other = refl
plain-call state (Registers op rd rs1 rs2) other = refl
plain-call state Fence other = refl
plain-call state Ecall other = absurd (other refl)
plain-call state Ebreak other = refl

module _ (image : Image) (t : Numbered) (point : ℕ) (state : PointState) (v : SeenPoint) where
  pub plain-seen : (instr : Instr) (one other : Option Way) → instruction_at t.thread point ≡ Some instr → instr ≢ Ecall → v.call ≡ None
      → one ≡ option_map way_of (after (address_of t.thread point) instr state.ranges).taken
      → other ≡ option_map way_of (after (address_of t.thread point) instr state.ranges).fall_through
      → v.taken ≡ option_map (λ w. w.target) one → v.next ≡ option_map (λ w. w.target) other → IsSeen image t point state v
  plain-seen instr one other is plain none one-is other-is taken-is next-is = record {
    call = none ∙ sym (plain-call state instr plain) ∙ ap (call_seen state) (sym is);
    capability = λ call. absurd (plain (same_Some instr Ecall (sym is ∙ call)));
    ways = λ test so.
        ap (λ (i : Option Instr). list_all (λ edge. test edge.target) (edges_at image t point state i)) is
        ∙ plain-pass image t point state instr v.taken v.next one other plain one-is other-is taken-is next-is test so;
  }

  pub call-seen : (next : ℕ) → instruction_at t.thread point ≡ Some Ecall → v.call ≡ call_of (range_of state.ranges a7).low
      → v.capability ≡ capability_seen image t.thread state → v.taken ≡ None → v.next ≡ Some next → next ≡ address_of t.thread point + 4
      → IsSeen image t point state v
  call-seen next is call capability taken-is next-is place = record {
    call = call ∙ ap (call_seen state) (sym is);
    capability = λ _. capability;
    ways = λ test so.
        ap (λ (i : Option Instr). list_all (λ edge. test edge.target) (edges_at image t point state i)) is
        ∙ call-pass image t point state next place test
        (ap (λ (o : Option ℕ). list_all test (option_to_list o ++ option_to_list (Some next))) (sym taken-is)
        ∙ ap (λ (o : Option ℕ). list_all test (option_to_list v.taken ++ option_to_list o)) (sym next-is) ∙ so);
  }

  pub none-seen : instruction_at t.thread point ≡ None → v.call ≡ None → IsSeen image t point state v
  unfolding edges_at
  none-seen is none = record {
    call = none ∙ ap (call_seen state) (sym is);
    capability = λ call. absurd (none-some Ecall (sym is ∙ call));
    ways = λ test so. ap (λ (i : Option Instr). list_all (λ edge. test edge.target) (edges_at image t point state i)) is;
  }

-- where no instruction but the next one is led to
on-pass : (image : Image) (t : Numbered) (point : ℕ) (state : PointState) (instr : Instr) → t.thread.header.base + 4 * t.thread.header.words ≤ 2 ^ 31
    → point < t.thread.header.words → instr ≢ Ecall
    → after (address_of t.thread point) instr state.ranges ≡ goes_behind (address_of t.thread point) instr state.ranges → (test : ℕ → Bool)
    → test (address_of t.thread point + 4) ≡ true → list_all (λ edge. test edge.target) (edges_at image t point state (Some instr)) ≡ true
on-pass image t point state instr inside within plain on test so =
    let pc = address_of t.thread point in
    let here : behind (address_of t.thread point) ≡ address_of t.thread point + 4 = omega (arith, inside, within) in
    plain-pass image t point state instr None (Some (behind pc)) None (Some (way_of (edge_to (behind pc) pc instr state.ranges))) plain
    (sym (ap (λ (e : Edges). option_map way_of e.taken) on)) (sym (ap (λ (e : Edges). option_map way_of e.fall_through) on)) refl refl test
    (ap (λ (b : Bool). b && true) (ap test here ∙ so))

pub goes-seen : (image : Image) (t : Numbered) (point : ℕ) (state : PointState) (instr : Instr)
    → t.thread.header.base + 4 * t.thread.header.words ≤ 2 ^ 31 → point < t.thread.header.words → instruction_at t.thread point ≡ Some instr
    → instr ≢ Ecall → after (address_of t.thread point) instr state.ranges ≡ goes_behind (address_of t.thread point) instr state.ranges
    → LeadsOn image t point state
goes-seen image t point state instr inside within is plain on = record {
  plain = λ call. plain (same_Some instr Ecall (sym is ∙ call));
  ways = λ test so.
      ap (λ (i : Option Instr). list_all (λ edge. test edge.target) (edges_at image t point state i)) is
      ∙ on-pass image t point state instr inside within plain on test so;
}

-- ---- lists of what is seen

got-before : {A : Type 0} (xs ys : List A) (n : ℕ) → n < length xs → slice_get (xs ++ ys) n ≡ slice_get xs n
got-before [] ys n less = absurd (omega (arith, less))
got-before (x ∷ xs) ys zero less = refl
got-before (x ∷ xs) ys (suc n) less = got-before xs ys n (omega (arith, less))

got-last : {A : Type 0} (xs : List A) (x : A) → slice_get (xs ++ x ∷ []) (length xs) ≡ Some x
got-last [] x = refl
got-last (y ∷ xs) x = got-last xs x

-- what is among others stays where more come after them
got-longer : {A : Type 0} (xs ys : List A) (n : ℕ) (x : A) → slice_get xs n ≡ Some x → slice_get (xs ++ ys) n ≡ Some x
got-longer xs ys n x at = got-before xs ys n (slice_get_within xs n x at) ∙ at

by-place : (seen more : List SeenPoint) (place : ℕ) (o : Option SeenPoint) → slice_get seen place ≡ o
    → option_map_or Seen o Unknown ≢ Unknown → whole_view (seen ++ more) (Some (short.Seen place)) ≡ option_map_or Seen o Unknown
by-place seen more place None at known = absurd (known refl)
by-place seen more place (Some v) at known = ap (λ (o : Option SeenPoint). option_map_or Seen o Unknown) (got-longer seen more place v at)

whole-longer : (seen more : List SeenPoint) (o : Option ShortView) → whole_view seen o ≢ Unknown → whole_view (seen ++ more) o ≡ whole_view seen o
whole-longer seen more None known = refl
whole-longer seen more (Some short.Unknown) known = refl
whole-longer seen more (Some short.Unclear) known = refl
whole-longer seen more (Some short.GoesOn) known = refl
whole-longer seen more (Some (short.Seen place)) known =
    by-place seen more place (slice_get seen place) refl known

-- one more view, with what is seen there
pub longer : (old new : PointViews) (s : ShortView) (more : List SeenPoint) (v : PointView) → new.points.items ≡ old.points.items ++ s ∷ []
    → new.seen.items ≡ old.seen.items ++ more → whole_view new.seen.items (Some s) ≡ v → IsLonger old new v
longer old new s more v points seen is = record {
  count = ap length points ∙ length-append old.points.items (s ∷ []);
  last =
      ap (λ (l : List ShortView). whole_view new.seen.items (slice_get l (length old.points.items))) points
      ∙ ap (whole_view new.seen.items) (got-last old.points.items s) ∙ is;
  others = λ point less known.
      ap (λ (l : List ShortView). whole_view new.seen.items (slice_get l point)) points
      ∙ ap (whole_view new.seen.items) (got-before old.points.items (s ∷ []) point less)
      ∙ ap (λ (l : List SeenPoint). whole_view l (slice_get old.points.items point)) seen
      ∙ whole-longer old.seen.items more (slice_get old.points.items point) known;
}

-- what is seen of a point is still so
kept-view : (image : Image) (t : Numbered) (point : ℕ) (known : Noted) (old new : PointView) → (old ≢ Unknown → new ≡ old)
    → IsView image t point known old → IsView image t point known new
kept-view image t point (Known state) Unknown new same is = absurd is
kept-view image t point (Known state) Unclear new same is =
    subst (IsViewOf image t point state) (sym (same (λ clash. let no : ◌≡◌ {A = PointView} Unclear Unknown = clash in cc))) is
kept-view image t point (Known state) GoesOn new same is =
    subst (IsViewOf image t point state) (sym (same (λ clash. let no : ◌≡◌ {A = PointView} GoesOn Unknown = clash in cc))) is
kept-view image t point (Known state) (Seen v) new same is =
    subst (IsViewOf image t point state) (sym (same (λ clash. let no : ◌≡◌ {A = PointView} (Seen v) Unknown = clash in cc))) is
kept-view image t point Missing old new same is = tt
kept-view image t point Unmeasured old new same is = tt

pub views-next : (image : Image) (t : Numbered) (count : ℕ) (views new : PointViews) (v : PointView) → AreViews image t count views
    → IsView image t count (noted image t count) v → IsLonger views new v → AreViews image t (count + 1) new
views-next image t count views new v are is grown = record {
  long = grown.count ∙ ap (λ n. n + 1) are.long;
  each = λ point less. elim (nat-cases point count (omega (arith, less))) [
    | inl before ↦
        let within : point < count_of views = subst (λ n. point < n) (sym are.long) before in
        kept-view image t point (noted image t point) (view_at views point) (view_at new point) (grown.others point within) (are.each point before)
    | inr same ↦
        subst (λ n. IsView image t n (noted image t n) (view_at new n)) (sym same)
        (subst (IsView image t count (noted image t count)) (sym (ap (view_at new) (sym are.long) ∙ grown.last)) is)
  ];
}
  where
    nat-cases : (m n : ℕ) → m ≤ n → (m < n) ⊎ (m ≡ n)
    nat-cases zero zero le = inr refl
    nat-cases zero (suc n) le = inl (omega arith)
    nat-cases (suc m) zero le = absurd (omega (arith, le))
    nat-cases (suc m) (suc n) le = elim (nat-cases m n (omega (arith, le))) [
      | inl less ↦ inl (omega (arith, less))
      | inr same ↦ inr (ap suc same)
    ]

pub views-none : (image : Image) (t : Numbered) (views : PointViews) → views.points.items ≡ [] → AreViews image t 0 views
views-none image t views is = record {
  long = ap length is;
  each = λ point less. absurd (omega (arith, less));
}
