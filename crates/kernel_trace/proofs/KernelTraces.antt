-- The lines of the events that are left.
use Rattle.std.proofs.Common.{◌≡◌, ◌∙◌, inl, inr, ℕ, zero, suc, ◌+◌, ◌<◌, ◌≤◌, true, List, [], ◌∷◌, ◌++◌, drop, length, replicate, refl, sym, ap, subst}
use Rattle.std.proofs.Common.{append_assoc, arith}
use Rattle.std.specs.Prelude.{Some, None, flat_map, nat_le, slice_get, slice_index_or}
use Rattle.std.proofs.Math.ListN.{drop_of_length-le}
use Rattle.std.proofs.lemmas.Bool.{cases_lt, le-leb}
use Rattle.std.proofs.lemmas.List.{append-nil, replicate_more}
use Rattle.model.specs.declared.events.Event.{Event}
use Rattle.model.specs.declared.events.Event.TheVariants.{Step}
use Rattle.model.specs.declared.labels.Label.{Label}
use Rattle.model.specs.Kernel.State.{State}
use Rattle.model.specs.Kernel.Steps.{state_after, step, trace}
use Rattle.kernel_trace.specs.Lines.{ended, lines_of}
use Rattle.kernel_trace.proofs.PutLines.{lines-both, lines-step}

one_step : (s : State) (event : Event) (events : List Event) → trace s (event ∷ events) ≡ (step s event).1 ∷ trace (step s event).0 events
unfolding trace
one_step s event events = refl

no_step : (s : State) → trace s [] ≡ []
unfolding trace
no_step s = refl

-- no event leaves the state
pub no_event : (s : State) (all : List Event) (done : ℕ) → length all ≤ done → state_after s (drop done all) ≡ s
unfolding state_after
no_event s all done end = ap (λ (events : List Event). state_after s events) (drop_of_length-le all end)

-- there is no label after the last event
pub no_label : (s : State) (all : List Event) (done : ℕ) → length all ≤ done → trace s (drop done all) ≡ []
no_label s all done end = ap (λ (events : List Event). trace s events) (drop_of_length-le all end) ∙ no_step s

steps-first : (s : State) (n : ℕ) (rest : List Event)
    → trace s (replicate n Step ++ rest) ≡ trace s (replicate n Step) ++ trace (state_after s (replicate n Step)) rest
unfolding trace state_after
steps-first s zero rest = refl
steps-first s (suc n) rest = ap (λ (labels : List Label). (step s Step).1 ∷ labels) (steps-first (step s Step).0 n rest)

-- events after steps
steps-after : (s : State) (n : ℕ) (rest : List Event) → state_after s (replicate n Step ++ rest) ≡ state_after (state_after s (replicate n Step)) rest
unfolding state_after
steps-after s zero rest = refl
steps-after s (suc n) rest = steps-after (step s Step).0 n rest

-- what is left after some steps
pub steps_done : (s after : State) (left : List Event) (n : ℕ) → left ≡ replicate n Step ++ drop n left → after ≡ state_after s (replicate n Step)
    → state_after s left ≡ state_after after (drop n left)
steps_done s after left n is goes =
    ap (λ (events : List Event). state_after s events) is ∙ steps-after s n (drop n left) ∙ ap (λ (t : State). state_after t (drop n left)) (sym goes)

-- what is left after an event
pub event_done : (s after : State) (left : List Event) (event : Event) → left ≡ event ∷ drop 1 left → after ≡ (step s event).0
    → state_after s left ≡ state_after after (drop 1 left)
unfolding state_after
event_done s after left event is goes =
    ap (λ (events : List Event). state_after s events) is ∙ ap (λ (t : State). state_after t (drop 1 left)) (sym goes)

kept-lines : (labels : List Label) → flat_map ended labels ≡ lines_of labels
unfolding lines_of
kept-lines labels = refl

-- the lines of an event are held
pub event_held : (s after : State) (label : Label) (left : List Event) (event : Event) (old new : List ℕ) → left ≡ event ∷ drop 1 left
    → after ≡ (step s event).0 → label ≡ (step s event).1 → new ≡ old ++ ended label
    → old ++ lines_of (trace s left) ≡ new ++ lines_of (trace after (drop 1 left))
event_held s after label left event old new is goes gives holds =
    let rest = trace after (drop 1 left) in
    ap (λ (events : List Event). old ++ lines_of (trace s events)) is
    ∙ ap (λ (labels : List Label). old ++ lines_of labels) (one_step s event (drop 1 left))
    ∙ ap (λ (l : Label). old ++ lines_of (l ∷ trace (step s event).0 (drop 1 left))) (sym gives)
    ∙ ap (λ (t : State). old ++ lines_of (label ∷ trace t (drop 1 left))) (sym goes)
    ∙ ap (λ (bytes : List ℕ). old ++ bytes) (lines-step label rest)
    ∙ sym (append_assoc old (ended label) (lines_of rest))
    ∙ ap (λ (bytes : List ℕ). bytes ++ lines_of rest) (sym holds)

-- what begins with an event is this and the rest
pub next_first : (left : List Event) (event : Event) → slice_get left 0 ≡ Some event → left ≡ event ∷ drop 1 left
next_first [] event is = absurd (let clash : None ≡ Some event = is in cc)
next_first (e ∷ left) event is = let same : Some e ≡ Some event = is in let this : e ≡ event = cc in ap (λ (first : Event). first ∷ left) this

-- those of some steps are
pub steps_held : (s after : State) (left : List Event) (n : ℕ) (old new : List ℕ) → left ≡ replicate n Step ++ drop n left
    → after ≡ state_after s (replicate n Step) → new ≡ old ++ flat_map ended (trace s (replicate n Step))
    → old ++ lines_of (trace s left) ≡ new ++ lines_of (trace after (drop n left))
steps_held s after left n old new is goes holds =
    let first = trace s (replicate n Step) in
    let rest = trace after (drop n left) in
    ap (λ (events : List Event). old ++ lines_of (trace s events)) is
    ∙ ap (λ (labels : List Label). old ++ lines_of labels) (steps-first s n (drop n left))
    ∙ ap (λ (t : State). old ++ lines_of (first ++ trace t (drop n left))) (sym goes)
    ∙ ap (λ (bytes : List ℕ). old ++ bytes) (lines-both first rest)
    ∙ sym (append_assoc old (lines_of first) (lines_of rest))
    ∙ ap (λ (bytes : List ℕ). bytes ++ lines_of rest) (sym (holds ∙ ap (λ (bytes : List ℕ). old ++ bytes) (kept-lines first)))

-- where there is room, some step is made
pub some_made : (s : State) (n most : ℕ) (old new : List ℕ) → new ≡ old ++ flat_map ended (trace s (replicate n Step)) → length old + 33 ≤ 8192
    → (nat_le (length new + 33) 8192 ≡ true → n ≡ most) → 0 < most → 0 < n
some_made s zero most old new holds room all some =
    let same : new ≡ old = holds ∙ ap (λ (labels : List Label). old ++ flat_map ended labels) (no_step s) ∙ append-nil old in
    let there : length new + 33 ≤ 8192 = subst (λ (bytes : List ℕ). length bytes + 33 ≤ 8192) (sym same) room in
    omega (arith, some, all (le-leb (length new + 33) 8192 there))
some_made s (suc n) most old new holds room all some = omega arith

-- ---- steps that are next

-- the rest begins with the next event
next_event : (all : List Event) (done : ℕ) (other : Event) → done < length all → drop done all ≡ slice_index_or all done other ∷ drop (done + 1) all
next_event [] done other below = absurd (omega (arith, below))
next_event (e ∷ all) zero other below = refl
next_event (e ∷ all) (suc done) other below =
    let step : suc done + 1 ≡ suc (done + 1) = omega arith in
    next_event all done other (omega (arith, below)) ∙ ap (λ (n : ℕ). slice_index_or all done other ∷ drop n (e ∷ all)) (sym step)

abbrev pub AreSteps : List Event → ℕ → Type 0
AreSteps left n = left ≡ replicate n Step ++ drop n left

pub no_steps : (left : List Event) (n : ℕ) → n ≤ 0 → AreSteps left n
no_steps left zero none = refl
no_steps left (suc n) none = absurd (omega (arith, none))

pub one_more_step : (left : List Event) (count : ℕ) (other : Event) → count < length left → slice_index_or left count other ≡ Step
    → ((n : ℕ) → n ≤ count → AreSteps left n) → (n : ℕ) → n ≤ count + 1 → AreSteps left n
one_more_step left count other within is before n few =
    elim (cases_lt n (count + 1)) [
      | inl less ↦ before n (omega (arith, less))
      | inr more ↦
          let next : n ≡ count + 1 = omega (arith, few, more) in
          let rest = drop (count + 1) left in
          let here : AreSteps left (count + 1) =
          before count (omega arith) ∙ ap (λ (events : List Event). replicate count Step ++ events) (
          next_event left count other within ∙ ap (λ (event : Event). event ∷ rest) is
          )
          ∙ sym (append_assoc (replicate count Step) (Step ∷ []) rest)
          ∙ ap (λ (events : List Event). events ++ rest) (replicate_more count Step) in
          subst (λ (k : ℕ). AreSteps left k) (sym next) here
    ]
