-- A run of a level, step by step: what it took and what is left are paid by what there was and what came.
use Rattle.std.proofs.Common.{ℕ, ◌≡◌, ◌∙◌, ◌+◌, ◌≤◌, ◌++◌, ◌&&◌, ◌||◌, inl, inr, Bool, true, false, if◌then◌else◌, fold, Option, Some, None, List, [], ◌∷◌}
use Rattle.std.proofs.Common.{refl, sym, ap, subst, append_assoc, arith}
use Rattle.std.specs.Option.{option_map_or}
use Rattle.std.specs.List.{list_any}
use Rattle.std.proofs.lemmas.Bool.Decides.{eqb_tells}
use Rattle.std.proofs.lemmas.List.{append-nil}
use Rattle.model.specs.declared.events.Event.{Event}
use Rattle.model.specs.declared.events.Event.TheVariants.{Step, Tick, Irq, Write, Read}
use Rattle.model.specs.declared.labels.Label.{Label}
use Rattle.model.specs.declared.labels.Label.TheVariants.{Idle}
use Rattle.model.specs.Acceptance.ThreadInvariants.{tcb_of}
use Rattle.model.specs.Images.Described.{Numbered, described, numbered_threads}
use Rattle.model.specs.Images.Image.{Image}
use Rattle.model.specs.Kernel.Scheduling.{current}
use Rattle.model.specs.Kernel.State.{State}
use Rattle.model.specs.Kernel.Steps.{ran, state_after, step, trace}
use Rattle.model.specs.Kernel.Waits.{is_of}
use Rattle.headline.proofs.Laws.{trace-next}
use Rattle.response.specs.Laws.{Economy}
use Rattle.response.specs.Levels.{count_level, is_level_label, is_of_level, open_run}
use Rattle.response.specs.Rates.{Keeps, Rate, costs_within, steps_in}
use Rattle.response.proofs.Costs.{paid-more, paid-within, paid_in, steps-more}

-- ---- one label more

fold-more : {A B : Type 0} (f : B → A → B) (start : B) (xs : List A) (x : A) → fold f start (xs ++ x ∷ []) ≡ f (fold f start xs) x
fold-more f start [] x = refl
fold-more f start (y ∷ ys) x = fold-more f (f start y) ys x

open-more : (image : Image) (priority : ℕ) (labels : List Label) (label : Label)
    → open_run image priority (labels ++ label ∷ []) ≡ count_level image priority (open_run image priority labels) label
unfolding open_run
open-more image priority labels label = fold-more (count_level image priority) 0 labels label

-- no thread is idle
pub none-of : (image : Image) (priority : ℕ) (threads : List Numbered) → list_any (λ t. is_of_level priority t && is_of (tcb_of image t) Idle) threads ≡ false
none-of image priority [] = refl
none-of image priority (t ∷ threads) =
    ap (λ (b : Bool). b || list_any (λ t. is_of_level priority t && is_of (tcb_of image t) Idle) threads)
    (elim (is_of_level priority t) as (λ b. b && false ≡ false) [ true ↦ refl | false ↦ refl ])
    ∙ none-of image priority threads

-- one event more
pub count-next : (image : Image) (priority : ℕ) (before : List Event) (event : Event)
    → open_run image priority (trace (described image) (before ++ event ∷ []))
    ≡ count_level image priority (open_run image priority (trace (described image) before)) (step (state_after (described image) before) event).1
count-next image priority before event =
    ap (λ (l : List Label). open_run image priority l) (trace-next (described image) before event)
    ∙ open-more image priority (trace (described image) before) (step (state_after (described image) before) event).1

-- the label of a step of the level counts, and that of another begins anew
pub step-counts : (image : Image) (priority count : ℕ) (s : State)
    → count_level image priority count (step s Step).1 ≡ (if is_level_label image priority (step s Step).1 then count + 1 else 0)
unfolding step
step-counts image priority count s = by-current (current s)
  where
    none-idle : is_level_label image priority Idle ≡ false
    none-idle = none-of image priority (numbered_threads image)

    by-current : (o : Option ℕ) → let l = (option_map_or (ran s) o (s, Idle)).1 in
        count_level image priority count l ≡ (if is_level_label image priority l then count + 1 else 0)
    by-current (Some thread) = refl
    by-current None = sym (ap (λ (b : Bool). if b then count + 1 else 0) none-idle)

module _ (image : Image) (priority : ℕ) (rates : List Rate) (price : ℕ → ℕ) (most n : ℕ) (left : List Event → ℕ) (events : List Event)
    (e : Economy image priority rates price most left events) (keeps : Keeps rates events) (stands : most + costs_within rates price n ≤ n) where
  abbrev start : State
  start = described image

  abbrev count : List Event → ℕ
  count before = open_run image priority (trace start before)

  -- the run so far, from where it began
  record IsPaid (before : List Event) : Type 0 where
    front : List Event
    run : List Event
    place : before ≡ front ++ run
    steps : steps_in run ≡ count before
    work : count before + left before ≤ most + paid_in rates price run
    few : count before ≤ n

  -- what the interrupts of a run cost
  paid-few : (front run later : List Event) → events ≡ front ++ run ++ later → paid_in rates price run ≤ costs_within rates price (steps_in run)
  paid-few front run later is = paid-within rates price run (λ r at. keeps r at front run later is)

  module _ (before later : List Event) (event : Event) (is : events ≡ before ++ event ∷ later) (p : IsPaid before) where
    longer : before ++ event ∷ [] ≡ IsPaid.front p ++ (IsPaid.run p ++ event ∷ [])
    longer = ap (λ (l : List Event). l ++ event ∷ []) (IsPaid.place p) ∙ append_assoc (IsPaid.front p) (IsPaid.run p) (event ∷ [])

  one-tick : (before later : List Event) → events ≡ before ++ Tick ∷ later → IsPaid before → IsPaid (before ++ Tick ∷ [])
  unfolding step
  one-tick before later is p =
      let same : count (before ++ Tick ∷ []) ≡ count before = count-next image priority before Tick in
      let less = e.ticks before later is in
      let steps = steps-more (IsPaid.run p) Tick in
      let paid = paid-more rates price (IsPaid.run p) Tick in
      let so = IsPaid.steps p in
      let work = IsPaid.work p in
      let few = IsPaid.few p in
      record {
        front = IsPaid.front p;
        run = IsPaid.run p ++ Tick ∷ [];
        place = longer before later Tick is p;
        steps = omega (arith, steps, so, same);
        work = omega (arith, work, paid, less, same);
        few = omega (arith, few, same);
      }

  one-write : (before later : List Event) (address word : ℕ) → events ≡ before ++ Write address word ∷ later → IsPaid before
      → IsPaid (before ++ Write address word ∷ [])
  unfolding step
  one-write before later address word is p =
      let same : count (before ++ Write address word ∷ []) ≡ count before = count-next image priority before (Write address word) in
      let less = e.writes before later address word is in
      let steps = steps-more (IsPaid.run p) (Write address word) in
      let paid = paid-more rates price (IsPaid.run p) (Write address word) in
      let so = IsPaid.steps p in
      let work = IsPaid.work p in
      let few = IsPaid.few p in
      record {
        front = IsPaid.front p;
        run = IsPaid.run p ++ Write address word ∷ [];
        place = longer before later (Write address word) is p;
        steps = omega (arith, steps, so, same);
        work = omega (arith, work, paid, less, same);
        few = omega (arith, few, same);
      }

  one-look : (before later : List Event) (address : ℕ) → events ≡ before ++ Read address ∷ later → IsPaid before → IsPaid (before ++ Read address ∷ [])
  unfolding step
  one-look before later address is p =
      let same : count (before ++ Read address ∷ []) ≡ count before = count-next image priority before (Read address) in
      let less = e.reads before later address is in
      let steps = steps-more (IsPaid.run p) (Read address) in
      let paid = paid-more rates price (IsPaid.run p) (Read address) in
      let so = IsPaid.steps p in
      let work = IsPaid.work p in
      let few = IsPaid.few p in
      record {
        front = IsPaid.front p;
        run = IsPaid.run p ++ Read address ∷ [];
        place = longer before later (Read address) is p;
        steps = omega (arith, steps, so, same);
        work = omega (arith, work, paid, less, same);
        few = omega (arith, few, same);
      }

  one-raise : (before later : List Event) (number : ℕ) → events ≡ before ++ Irq number ∷ later → IsPaid before → IsPaid (before ++ Irq number ∷ [])
  unfolding step
  one-raise before later number is p =
      let same : count (before ++ Irq number ∷ []) ≡ count before = count-next image priority before (Irq number) in
      let less = e.raises before later number is in
      let steps = steps-more (IsPaid.run p) (Irq number) in
      let paid = paid-more rates price (IsPaid.run p) (Irq number) in
      let so = IsPaid.steps p in
      let work = IsPaid.work p in
      let few = IsPaid.few p in
      record {
        front = IsPaid.front p;
        run = IsPaid.run p ++ Irq number ∷ [];
        place = longer before later (Irq number) is p;
        steps = omega (arith, steps, so, same);
        work = omega (arith, work, paid, less, same);
        few = omega (arith, few, same);
      }

  -- the step of another thread, or of none: a run begins anew
  other-step : (before later : List Event) → events ≡ before ++ Step ∷ later
      → is_level_label image priority (step (state_after start before) Step).1 ≡ false → IsPaid (before ++ Step ∷ [])
  other-step before later is other =
      let none : count (before ++ Step ∷ []) ≡ 0 = count-next image priority before Step ∙ step-counts image priority (count before) (state_after start before)
      ∙ ap (λ (b : Bool). if b then count before + 1 else 0) other in
      let less = e.rests before later is other in
      record {
        front = before ++ Step ∷ [];
        run = [];
        place = sym (append-nil (before ++ Step ∷ []));
        steps = sym none;
        work = omega (arith, none, less);
        few = omega (arith, none);
      }

  level-step : (before later : List Event) → events ≡ before ++ Step ∷ later
      → is_level_label image priority (step (state_after start before) Step).1 ≡ true → IsPaid before → IsPaid (before ++ Step ∷ [])
  level-step before later is own p =
      let more : count (before ++ Step ∷ []) ≡ count before + 1 = count-next image priority before Step
      ∙ step-counts image priority (count before) (state_after start before)
      ∙ ap (λ (b : Bool). if b then count before + 1 else 0) own in
      let falls = e.falls before later is own in
      let steps = steps-more (IsPaid.run p) Step in
      let paid = paid-more rates price (IsPaid.run p) Step in
      let so = IsPaid.steps p in
      let work = IsPaid.work p in
      let few = IsPaid.few p in
      record {
        front = IsPaid.front p;
        run = IsPaid.run p ++ Step ∷ [];
        place = longer before later Step is p;
        steps = omega (arith, steps, so, more);
        work = omega (arith, work, paid, falls, more);
        few = still-few more falls;
      }
    where
      rest : events ≡ IsPaid.front p ++ IsPaid.run p ++ Step ∷ later
      rest = is ∙ ap (λ (l : List Event). l ++ Step ∷ later) (IsPaid.place p)

      -- with as many steps as the bound there was nothing left for one more
      at-most : count before ≡ n → left before ≡ 0
      at-most full =
          let paid : paid_in rates price (IsPaid.run p) ≤ costs_within rates price n =
          subst (λ (k : ℕ). paid_in rates price (IsPaid.run p) ≤ costs_within rates price k) (IsPaid.steps p ∙ full)
          (paid-few (IsPaid.front p) (IsPaid.run p) (Step ∷ later) rest) in
          let work = IsPaid.work p in
          omega (arith, paid, work, full, stands)

      still-few : count (before ++ Step ∷ []) ≡ count before + 1 → left (before ++ Step ∷ []) + 1 ≤ left before → count (before ++ Step ∷ []) ≤ n
      still-few more falls = elim (eqb_tells (count before) n) [
        | inl full ↦ absurd (let none = at-most full.1 in omega (arith, none, falls))
        | inr apart ↦ let few = IsPaid.few p in let differ = apart.1 in omega (arith, more, few, differ)
      ]

  one-event : (before later : List Event) (event : Event) → events ≡ before ++ event ∷ later → IsPaid before → IsPaid (before ++ event ∷ [])
  one-event before later Tick is p = one-tick before later is p
  one-event before later (Irq number) is p = one-raise before later number is p
  one-event before later (Write address word) is p = one-write before later address word is p
  one-event before later (Read address) is p = one-look before later address is p
  one-event before later Step is p = elim (is_level_label image priority (step (state_after start before) Step).1)
      as (λ b. is_level_label image priority (step (state_after start before) Step).1 ≡ b → IsPaid (before ++ Step ∷ [])) [
        | true ↦ λ own. level-step before later is own p
        | false ↦ λ other. other-step before later is other
      ] refl

  all-paid : (before more later : List Event) → events ≡ before ++ more ++ later → IsPaid before → IsPaid (before ++ more)
  all-paid before [] later is p = subst IsPaid (sym (append-nil before)) p
  all-paid before (event ∷ more) later is p =
      let next = one-event before (more ++ later) event (is ∙ append_assoc before (event ∷ more) later) p in
      let there : events ≡ (before ++ event ∷ []) ++ more ++ later =
      is ∙ ap (λ (l : List Event). l ++ later) (sym (append_assoc before (event ∷ []) more)) in
      subst IsPaid (append_assoc before (event ∷ []) more) (all-paid (before ++ event ∷ []) more later there next)

  none-yet : count [] ≡ 0
  unfolding open_run trace
  none-yet = refl

  at-first : left [] ≤ most → IsPaid []
  at-first begins =
      let none = none-yet in
      record { front = []; run = []; place = refl; steps = sym none; work = omega (arith, begins, none); few = omega (arith, none) }

  pub bounded : left [] ≤ most → (before later : List Event) → events ≡ before ++ later → count before ≤ n
  bounded begins before later is = IsPaid.few (all-paid [] before later is (at-first begins))

  -- from the first step on that was not the level's
  pub bounded-later : (front more later : List Event) → events ≡ (front ++ Step ∷ []) ++ more ++ later
      → is_level_label image priority (step (state_after start front) Step).1 ≡ false → count ((front ++ Step ∷ []) ++ more) ≤ n
  bounded-later front more later is other =
      let at : events ≡ front ++ Step ∷ (more ++ later) =
      is ∙ append_assoc (front ++ Step ∷ []) more later ∙ append_assoc front (Step ∷ []) (more ++ later) in
      IsPaid.few (all-paid (front ++ Step ∷ []) more later is (other-step front (more ++ later) at other))
