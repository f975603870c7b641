-- The last stop so far, and the first one from here on.
use Rattle.std.proofs.Common.{◌≡◌, ◌∙◌, ◌⊎◌, inl, inr, ℕ, ◌+◌, ◌<◌, ◌≤◌, Bool, true, false, ◌||◌, Option, Some, None, Ok, sym, ap, arith, subst}
use Rattle.std.specs.Prelude.{if◌then◌else◌}
use Rattle.std.proofs.lemmas.Bool.{cases_lt}
use Rattle.kernel_machine.specs.Setups.{state_in}
use Rattle.model.specs.Kernel.State.{State}
use Rattle.debugging.specs.Runs.{IsShown, Moment, next_of, shown}
use Rattle.debugging.specs.Stops.{AreOneRun, GoesOn, HasTurned, IsLast, IsOther, Passes, PassesTurn, is_stop, is_turn}
use Rattle.debugging.specs.declared.stops.Stops.{Stops}
use Rattle.debugging.proofs.Timelines.{shown-same}

-- what is known of the state that is shown after so many events is known of each that is
at-shown : (stops : Stops) (turn : Option ℕ) (run : Moment) (n : ℕ) (s : State) (answer : Bool) → shown run.image run.events n ≡ Ok s
    → answer ≡ (is_stop stops s || is_turn turn s (next_of run.events n)) → (t : State) → shown run.image run.events n ≡ Ok t
    → (is_stop stops t || is_turn turn t (next_of run.events n)) ≡ answer
at-shown stops turn run n s answer is tells t also =
    ap (λ (u : State). is_stop stops u || is_turn turn u (next_of run.events n)) (shown-same (shown run.image run.events n) t s also is) ∙ sym tells

passes-more : (stops : Stops) (turn : Option ℕ) (run : Moment) (n : ℕ) (s : State) → shown run.image run.events n ≡ Ok s
    → false ≡ (is_stop stops s || is_turn turn s (next_of run.events n)) → (count : ℕ) → (count < n → PassesTurn stops turn run count) → count < n + 1
    → (count < n) ⊎ (n ≤ count) → PassesTurn stops turn run count
passes-more stops turn run n s is tells count before within (inl less) = before less
passes-more stops turn run n s is tells count before within (inr more) =
    let same : n ≡ count = omega (arith, within, more) in
    subst (λ (m : ℕ). PassesTurn stops turn run m) same (at-shown stops turn run n s false is tells)

found-more : (stops : Stops) (turn : Option ℕ) (run : Moment) (first n : ℕ) (s : State) (found : Option ℕ) (halts : Bool)
    → shown run.image run.events n ≡ Ok s → halts ≡ (is_stop stops s || is_turn turn s (next_of run.events n)) → IsLast stops turn run first found n
    → IsLast stops turn run first (if halts then Some n else found) (n + 1)
found-more stops turn run first n s found true is tells last =
    (omega arith, at-shown stops turn run n s true is tells, λ count more less. absurd (omega (arith, more, less)))
found-more stops turn run first n s None false is tells last =
    λ count after less. passes-more stops turn run n s is tells count (last count after) less (cases_lt count n)
found-more stops turn run first n s (Some place) false is tells last =
    (omega (arith, last.0), last.1, λ count more less. passes-more stops turn run n s is tells count (last.2 count more) less (cases_lt count n))

pub found-next : (stops : Stops) (turn : Option ℕ) (run : Moment) (first n : ℕ) (s : State) (found next : Option ℕ) (halts : Bool)
    → shown run.image run.events n ≡ Ok s → halts ≡ (is_stop stops s || is_turn turn s (next_of run.events n)) → next ≡ (if halts then Some n else found)
    → IsLast stops turn run first found n → IsLast stops turn run first next (n + 1)
found-next stops turn run first n s found next halts is tells gives last =
    subst (λ (o : Option ℕ). IsLast stops turn run first o (n + 1)) (sym gives) (found-more stops turn run first n s found halts is tells last)

-- nothing is before the first one that is looked at
pub found-none : (stops : Stops) (turn : Option ℕ) (run : Moment) (first : ℕ) → IsLast stops turn run first None first
found-none stops turn run first count after less = absurd (omega (arith, after, less))

-- where none is among the last ones, what is known of those before them is known of all
pub found-before : (stops : Stops) (turn : Option ℕ) (run : Moment) (first middle limit : ℕ) (found : Option ℕ) → middle ≤ limit
    → IsLast stops turn run middle None limit → IsLast stops turn run first found middle → IsLast stops turn run first found limit
found-before stops turn run first middle limit None within none last =
    λ count after less.
    let at : (count < middle) ⊎ (middle ≤ count) → PassesTurn stops turn run count =
    λ o. elim o [ inl before ↦ last count after before | inr later ↦ none count later less ] in
    at (cases_lt count middle)
found-before stops turn run first middle limit (Some place) within none last = (
  omega (arith, within, last.0),
  last.1,
  λ count more less.
      let at : (count < middle) ⊎ (middle ≤ count) → PassesTurn stops turn run count =
      λ o. elim o [ inl before ↦ last.2 count more before | inr later ↦ none count later less ] in
      at (cases_lt count middle),
)

-- what is known of some of the first ones is known from the beginning on
pub found-from : (stops : Stops) (turn : Option ℕ) (run : Moment) (first place limit : ℕ) → IsLast stops turn run first (Some place) limit
    → IsLast stops turn run 0 (Some place) limit
found-from stops turn run first place limit last = last

-- where a run went on by an event and does not stop, no stop was passed
pub passed-next : (stops : Stops) (turn : Option ℕ) (first now new : Moment) → AreOneRun first now → AreOneRun now new → GoesOn stops turn now new
    → ((count : ℕ) → first.done < count → count ≤ now.done → Passes stops first count)
    → (count : ℕ) → first.done < count → count ≤ new.done → Passes stops first count
passed-next stops turn first now new same also goes before count more within = passed-at (cases_lt now.done count)
  where
    passed-at : (now.done < count) ⊎ (count ≤ now.done) → Passes stops first count
    passed-at (inr less) = before count more less
    passed-at (inl later) =
        let at : new.done ≡ count = omega (arith, goes.0, later, within) in
        λ s is.
        let shown_new : shown new.image new.events new.done ≡ Ok s =
        ap (λ image. shown image new.events new.done) (also.0 ∙ same.0) ∙ ap (λ events. shown first.image events new.done) (also.1 ∙ same.1)
        ∙ ap (λ n. shown first.image first.events n) at ∙ is in
        ap (is_stop stops) (shown-same (shown new.image new.events new.done) s (state_in new.parts) shown_new goes.1) ∙ goes.2

-- nor was a turn passed
pub others-next : (stops : Stops) (turn : Option ℕ) (first now new : Moment) → AreOneRun first now → GoesOn stops turn now new
    → ((count : ℕ) → first.done ≤ count → count < now.done → IsOther turn first count)
    → (count : ℕ) → first.done ≤ count → count < new.done → IsOther turn first count
others-next stops turn first now new same goes before count more within = others-at (cases_lt count now.done)
  where
    others-at : (count < now.done) ⊎ (now.done ≤ count) → IsOther turn first count
    others-at (inl less) = before count more less
    others-at (inr later) =
        let at : now.done ≡ count = omega (arith, goes.0, later, within) in
        λ s is.
        let shown_now : shown now.image now.events now.done ≡ Ok s =
        ap (λ image. shown image now.events now.done) same.0 ∙ ap (λ events. shown first.image events now.done) same.1
        ∙ ap (λ n. shown first.image first.events n) at ∙ is in
        ap (λ events. is_turn turn s (next_of events count)) (sym same.1) ∙ ap (λ n. is_turn turn s (next_of now.events n)) (sym at)
        ∙ goes.3 s shown_now

-- what is known of the turn at a moment is known of its state
pub turn-at : (turn : Option ℕ) (run : Moment) (answer : Bool) → IsShown run → answer ≡ is_turn turn (state_in run.parts) (next_of run.events run.done)
    → (s : State) → shown run.image run.events run.done ≡ Ok s → is_turn turn s (next_of run.events run.done) ≡ answer
turn-at turn run answer is tells s also =
    ap (λ (u : State). is_turn turn u (next_of run.events run.done)) (shown-same (shown run.image run.events run.done) s (state_in run.parts) also is)
    ∙ sym tells

-- an event was done that was one of the thread
pub turned-at : (turn : Option ℕ) (old new : Moment) → AreOneRun old new → new.done ≡ old.done + 1 → IsShown old
    → true ≡ is_turn turn (state_in old.parts) (next_of old.events old.done) → HasTurned turn new
turned-at turn old new same goes is tells count more s also =
    let at : old.done ≡ count = omega (arith, goes, more) in
    let shown_old : shown old.image old.events old.done ≡ Ok s =
    ap (λ image. shown image old.events old.done) (sym same.0) ∙ ap (λ events. shown new.image events old.done) (sym same.1)
    ∙ ap (λ n. shown new.image new.events n) at ∙ also in
    ap (λ events. is_turn turn s (next_of events count)) same.1 ∙ ap (λ n. is_turn turn s (next_of old.events n)) (sym at)
    ∙ turn-at turn old true is tells s shown_old
