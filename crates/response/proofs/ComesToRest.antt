-- Where no more than so many steps on end are of a level, one of as many and one more is not: there the level rests.
use Rattle.std.proofs.Common.{ℕ, ◌≡◌, ◌∙◌, ◌+◌, ◌<◌, ◌≤◌, ◌++◌, Bool, true, false, if◌then◌else◌, List, [], ◌∷◌, refl, sym, ap, subst, append_assoc, arith}
use Rattle.std.specs.Prelude.{Contains}
use Rattle.model.specs.declared.events.Event.{Event}
use Rattle.model.specs.declared.events.Event.TheVariants.{Step, Tick, Irq, Write, Read}
use Rattle.model.specs.Acceptance.ThreadInvariants.{tcb_of}
use Rattle.model.specs.Images.Described.{Numbered, described, numbered_threads}
use Rattle.model.specs.Images.Image.{Image}
use Rattle.model.specs.Kernel.Scheduling.{is_runnable}
use Rattle.model.specs.Kernel.State.{State, thread_at}
use Rattle.model.specs.Kernel.Steps.{state_after, step, trace}
use Rattle.response.specs.DealtWith.{HoldsWithin, KeepsLevelOver, Rests}
use Rattle.response.specs.Laws.{RunsOfLevel}
use Rattle.response.specs.Levels.{KeepsLevel, KeepsLevelOnceRested, count_level, is_level_label, is_of_level, open_run}
use Rattle.response.specs.Rates.{steps_in}
use Rattle.response.proofs.Costs.{steps-more}
use Rattle.response.proofs.Runs.{count-next, step-counts}

-- ---- windows

-- a window that is split splits the events
pub split-at : (events before window front rest later : List Event) → events ≡ before ++ window ++ later → window ≡ front ++ rest
    → events ≡ (before ++ front) ++ (rest ++ later)
split-at events before window front rest later is place =
    is ∙ ap (λ (l : List Event). before ++ l ++ later) place ∙ ap (λ (l : List Event). l ++ later) (sym (append_assoc before front rest))
    ∙ append_assoc (before ++ front) rest later

-- over all events, so over each window
pub over-window : (image : Image) (priority most : ℕ) (events before window later : List Event) → KeepsLevel image priority most events
    → events ≡ before ++ window ++ later → KeepsLevelOver image priority most before window
over-window image priority most events before window later keeps is front rest place =
    keeps (before ++ front) (rest ++ later) (split-at events before window front rest later is place)

-- once it has rested, over each window after that
pub over-later : (image : Image) (priority most : ℕ) (events first more window later : List Event) → KeepsLevelOnceRested image priority most events
    → is_level_label image priority (step (state_after (described image) first) Step).1 ≡ false
    → events ≡ ((first ++ Step ∷ []) ++ more) ++ window ++ later → KeepsLevelOver image priority most ((first ++ Step ∷ []) ++ more) window
over-later image priority most events first more window later keeps other is front rest place =
    subst (λ (l : List Event). open_run image priority (trace (described image) l) ≤ most) (sym (append_assoc (first ++ Step ∷ []) more front))
    (keeps first (more ++ front) (rest ++ later)
    (split-at events ((first ++ Step ∷ []) ++ more) window front rest later is place
    ∙ ap (λ (l : List Event). l ++ (rest ++ later)) (append_assoc (first ++ Step ∷ []) more front)) other)

-- ---- one event after another

module _ (image : Image) (priority most : ℕ) (before window : List Event) (over : KeepsLevelOver image priority most before window)
    (runs : (front rest : List Event) → window ≡ front ++ rest → (t : Numbered) → Contains (numbered_threads image) t → is_of_level priority t ≡ true
    → is_runnable (thread_at (state_after (described image) (before ++ front)) (tcb_of image t)).status ≡ true
    → RunsOfLevel image priority (state_after (described image) (before ++ front)))
    (seen : (s : State) → RunsOfLevel image priority s → is_level_label image priority (step s Step).1 ≡ true) where
  abbrev behind : List Event → State
  behind front = state_after (described image) (before ++ front)

  abbrev count : List Event → ℕ
  count front = open_run image priority (trace (described image) (before ++ front))

  -- all steps so far are of the level
  next : (front : List Event) (event : Event) → count (front ++ event ∷ []) ≡ count_level image priority (count front) (step (behind front) event).1
  next front event =
      ap (λ (l : List Event). open_run image priority (trace (described image) l)) (sym (append_assoc before front (event ∷ [])))
      ∙ count-next image priority (before ++ front) event

  tick-same : (front : List Event) → count (front ++ Tick ∷ []) ≡ count front
  unfolding step
  tick-same front = next front Tick

  raise-same : (front : List Event) (number : ℕ) → count (front ++ Irq number ∷ []) ≡ count front
  unfolding step
  raise-same front number = next front (Irq number)

  write-same : (front : List Event) (address word : ℕ) → count (front ++ Write address word ∷ []) ≡ count front
  unfolding step
  write-same front address word = next front (Write address word)

  look-same : (front : List Event) (address : ℕ) → count (front ++ Read address ∷ []) ≡ count front
  unfolding step
  look-same front address = next front (Read address)

  rests-here : (front rest : List Event) → window ≡ front ++ rest → is_level_label image priority (step (behind front) Step).1 ≡ false
      → Rests image priority (behind front)
  rests-here front rest place other t listed level = elim (is_runnable (thread_at (behind front) (tcb_of image t)).status)
      as (λ b. is_runnable (thread_at (behind front) (tcb_of image t)).status ≡ b → b ≡ false) [
        | true ↦ λ may.
            let clash : true ≡ false = sym (seen (behind front) (runs front rest place t listed level may)) ∙ other in absurd cc
        | false ↦ λ _. refl
      ] refl

  abbrev Found : Type 0
  Found = HoldsWithin image most before window (Rests image priority)

  further : (front rest : List Event) (event : Event) → window ≡ front ++ event ∷ rest → window ≡ (front ++ event ∷ []) ++ rest
  further front rest event place = place ∙ sym (append_assoc front (event ∷ []) rest)

  walk : (front rest : List Event) → window ≡ front ++ rest → steps_in front ≤ count front → most < steps_in front + steps_in rest → Found
  walk front [] place so enough = let few = over front [] place in absurd (omega (arith, so, enough, few))
  walk front (Step ∷ rest) place so enough = elim (is_level_label image priority (step (behind front) Step).1)
      as (λ b. is_level_label image priority (step (behind front) Step).1 ≡ b → Found) [
        | true ↦ λ own.
            let steps = steps-more front Step in
            let more : count (front ++ Step ∷ []) ≡ count front + 1 =
            next front Step ∙ step-counts image priority (count front) (behind front) ∙ ap (λ (b : Bool). if b then count front + 1 else 0) own in
            walk (front ++ Step ∷ []) rest (further front rest Step place) (omega (arith, so, steps, more)) (omega (arith, enough, steps))
        | false ↦ λ other. record {
          front = front;
          rest = Step ∷ rest;
          place = place;
          few = let few = over front (Step ∷ rest) place in omega (arith, so, few);
          holds = rests-here front (Step ∷ rest) place other;
        }
      ] refl
  walk front (Tick ∷ rest) place so enough =
      let steps = steps-more front Tick in
      let same = tick-same front in
      walk (front ++ Tick ∷ []) rest (further front rest Tick place) (omega (arith, so, steps, same)) (omega (arith, enough, steps))
  walk front (Irq number ∷ rest) place so enough =
      let steps = steps-more front (Irq number) in
      let same = raise-same front number in
      walk (front ++ Irq number ∷ []) rest (further front rest (Irq number) place) (omega (arith, so, steps, same)) (omega (arith, enough, steps))
  walk front (Write address word ∷ rest) place so enough =
      let steps = steps-more front (Write address word) in
      let same = write-same front address word in
      walk (front ++ Write address word ∷ []) rest (further front rest (Write address word) place) (omega (arith, so, steps, same))
      (omega (arith, enough, steps))
  walk front (Read address ∷ rest) place so enough =
      let steps = steps-more front (Read address) in
      let same = look-same front address in
      walk (front ++ Read address ∷ []) rest (further front rest (Read address) place) (omega (arith, so, steps, same)) (omega (arith, enough, steps))

  pub comes-to-rest : most < steps_in window → HoldsWithin image most before window (Rests image priority)
  comes-to-rest enough = walk [] window refl (omega arith) (omega (arith, enough))

-- what holds where the level rests holds within as many steps
pub holds-where : (image : Image) (most : ℕ) (before window : List Event) (One Other : State → Type 0)
    → ((front rest : List Event) → window ≡ front ++ rest → One (state_after (described image) (before ++ front))
    → Other (state_after (described image) (before ++ front)))
    → HoldsWithin image most before window One → HoldsWithin image most before window Other
holds-where image most before window One Other so within = record {
  front = within.front;
  rest = within.rest;
  place = within.place;
  few = within.few;
  holds = so within.front within.rest within.place within.holds;
}
