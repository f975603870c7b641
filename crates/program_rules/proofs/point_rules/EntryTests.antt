-- The rules on an entry with a state, by what each of them tests.
use Rattle.std.proofs.Common.{ℕ, ◌≡◌, ◌∙◌, ◌+◌, Bool, not, pos, Option, List, [], ◌∷◌, sym, ap}
use Rattle.std.specs.List.{list_all, range_with_len}
use Rattle.std.specs.Prelude.{int_lt, slice_index, slice_index_or}
use Rattle.model.specs.declared.entries.ThreadHeader.{ThreadHeader}
use Rattle.model.specs.declared.refusals.Point.{Point}
use Rattle.model.specs.declared.refusals.Refusal.{Refusal}
use Rattle.model.specs.declared.refusals.Refusal.TheVariants.{CapNotThere, OverBudget, RangeNotKept}
use Rattle.model.specs.Acceptance.Measures.{measured}
use Rattle.model.specs.Acceptance.NotedStates.{NotedSlot, PointState, are_same_slots, image_slots}
use Rattle.model.specs.Acceptance.PointRules.{entry_rules, lies_in, starts_within}
use Rattle.model.specs.Acceptance.PointStates.{Known, point_of}
use Rattle.model.specs.Acceptance.Rules.{first_broken, refuse_if}
use Rattle.model.specs.Images.Described.{Numbered, listed_registers, start_registers}
use Rattle.model.specs.Images.Image.{Image, Thread}
use Rattle.model.specs.Acceptance.Ranges.{full}

abbrev pub by_tests : Point → Bool → Bool → Bool → Option Refusal
by_tests at within same over =
    first_broken (refuse_if (not within) (RangeNotKept at) ∷ refuse_if (not same) (CapNotThere at) ∷ refuse_if over (OverBudget at) ∷ [])

entry-first : (image : Image) (t : Numbered) (state : PointState) (at : Point) (within same over : Bool) → at ≡ point_of t t.thread.header.entry
    → starts_within t.thread state ≡ within → are_same_slots state.slots (image_slots image t.thread) ≡ same
    → int_lt (pos t.thread.header.budget) (measured state.measure (start_registers t.thread)) ≡ over
    → first_broken (entry_rules image t (Known state)) ≡ by_tests at within same over
entry-first image t state at within same over place inside slots above =
    let here : Point = point_of t t.thread.header.entry in
    let s : Bool = are_same_slots state.slots (image_slots image t.thread) in
    let o : Bool = int_lt (pos t.thread.header.budget) (measured state.measure (start_registers t.thread)) in
    ap (λ (b : Bool). by_tests here b s o) inside ∙ ap (λ (b : Bool). by_tests here within b o) slots ∙ ap (λ (b : Bool). by_tests here within same b) above
    ∙ ap (λ (a : Point). by_tests a within same over) (sym place)

-- the tests of the code: the values and the header are the thread's, and the slots are the image's
pub entry-by : (image : Image) (t : Numbered) (u : Thread) (state : PointState) (at : Point) (start : List NotedSlot) (words : List ℕ) (h : ThreadHeader)
    (within same over : Bool)
    → t.thread ≡ u → at ≡ point_of t t.thread.header.entry → start ≡ image_slots image t.thread → words ≡ listed_registers u → h ≡ u.header
    → list_all (λ k. lies_in (slice_index words (k + 1)) (slice_index_or state.ranges k full)) (range_with_len 0 31) ≡ within →
    are_same_slots state.slots start ≡ same
    → int_lt (pos h.budget) (measured state.measure (record { pc = 0; words = words })) ≡ over
    → by_tests at within same over ≡ first_broken (entry_rules image t (Known state))
entry-by image t u state at start words h within same over is place slots listed header inside held above =
    let tests : List ℕ → Bool = λ ws. list_all (λ k. lies_in (slice_index ws (k + 1)) (slice_index_or state.ranges k full)) (range_with_len 0 31) in
    let worth : ThreadHeader → List ℕ → Bool = λ h ws. int_lt (pos h.budget) (measured state.measure (record { pc = 0; words = ws })) in
    let first : starts_within t.thread state ≡ within = ap (λ (v : Thread). tests (listed_registers v)) is ∙ ap tests (sym listed) ∙ inside in
    let second : are_same_slots state.slots (image_slots image t.thread) ≡ same = ap (λ (l : List NotedSlot). are_same_slots state.slots l) (sym slots)
    ∙ held in
    let third : int_lt (pos t.thread.header.budget) (measured state.measure (start_registers t.thread)) ≡ over =
    ap (λ (v : Thread). worth v.header (listed_registers v)) is ∙ ap (λ (ws : List ℕ). worth u.header ws) (sym listed)
    ∙ ap (λ (x : ThreadHeader). worth x words) (sym header) ∙ above in
    sym (entry-first image t state at within same over place first second third)
