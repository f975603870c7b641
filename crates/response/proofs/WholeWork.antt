-- The laws on all work, as an economy.
use Rattle.std.proofs.Common.{ℕ, Bool, ◌≡◌, ◌∙◌, ◌+◌, ◌<◌, ◌≤◌, ◌++◌, true, false, nat_lt, Option, Some, None, List, [], ◌∷◌, All}
use Rattle.std.proofs.Common.{refl, sym, ap, subst, arith}
use Rattle.std.specs.Prelude.{Contains}
use Rattle.std.specs.Option.{option_map_or}
use Rattle.std.proofs.lemmas.Bool.{ltb-false}
use Rattle.model.specs.declared.events.Event.{Event}
use Rattle.model.specs.declared.events.Event.TheVariants.{Step, Tick, Irq, Write, Read}
use Rattle.model.specs.declared.labels.Label.{Label}
use Rattle.model.specs.Acceptance.Devices.{KeepsDevices}
use Rattle.model.specs.Acceptance.ThreadInvariants.{tcb_of}
use Rattle.model.specs.Images.Described.{Numbered, described, numbered_threads}
use Rattle.model.specs.Images.Image.{Image}
use Rattle.model.specs.Kernel.Interrupts.{Signal, binding}
use Rattle.model.specs.Kernel.Scheduling.{current, is_runnable}
use Rattle.model.specs.Kernel.State.{NotificationObject, NotificationState, State, thread_at}
use Rattle.model.specs.Kernel.Steps.{state_after, step, trace}
use Rattle.headline.proofs.Laws.{all-front, idle-is, state-next, step-cases}
use Rattle.headline.specs.facts.Standing.{AllStand}
use Rattle.headline.specs.moves.Steps.{MakesCall}
use Rattle.headline.specs.steps.Points.{ReachesNoCall}
use Rattle.response.specs.DealtWith.{Rests}
use Rattle.response.specs.Laws.{Economy, HaveRates, RunsOfLevel}
use Rattle.response.specs.Left.{at_rest, irq_lines, left, line_price, total}
use Rattle.response.specs.Owed.{at_rest_with, owed, work_after}
use Rattle.response.specs.Levels.{is_level_label, is_of_level}
use Rattle.response.specs.Rates.{Rate, cost_of}
use Rattle.response.specs.Weights.{Weights, price_of}
use Rattle.response.proofs.Stage.{idle-seen, other-seen, rest-left}
use Rattle.response.proofs.Whole.{few-lines}

module _ (image : Image) (priority : ℕ) (w : Weights) (rates : List Rate) (most : ℕ) (events : List Event)
    (is_taken is_open : ℕ → Bool) (owed_most : ℕ → ℕ)
    (owes : (before : List Event) → All (KeepsDevices image) before → Rests image priority (state_after (described image) before)
    → owed image priority w (state_after (described image) before) ≤ total (λ (t : Numbered). owed_most t.number) (numbered_threads image))
    (rest : at_rest_with image w is_taken is_open owed_most ≤ most)
    (devices : All (KeepsDevices image) events)
    (stand : (before : List Event) → All (KeepsDevices image) before → (labels : List Label) × AllStand image (state_after (described image) before) labels)
    (own : (u t : Numbered) → Contains (numbered_threads image) u → Contains (numbered_threads image) t → tcb_of image u ≡ tcb_of image t → u ≡ t)
    (bound : (before : List Event) → All (KeepsDevices image) before → (number : ℕ) → number < 64
    → binding (state_after (described image) before) number ≡ binding (described image) number)
    (level-runs : (before : List Event) → All (KeepsDevices image) before → (t : Numbered) → Contains (numbered_threads image) t → is_of_level priority t ≡ true
    → is_runnable (thread_at (state_after (described image) before) (tcb_of image t)).status ≡ true
    → RunsOfLevel image priority (state_after (described image) before))
    (seen : (s : State) → RunsOfLevel image priority s → is_level_label image priority (step s Step).1 ≡ true)
    (plain : (before : List Event) → All (KeepsDevices image) before → (t : Numbered) → Contains (numbered_threads image) t → is_of_level priority t ≡ true
    → current (state_after (described image) before) ≡ Some (tcb_of image t) → ReachesNoCall (state_after (described image) before) (tcb_of image t)
    → work_after image priority w (before ++ Step ∷ []) + 1 ≤ work_after image priority w before)
    (calls : (before : List Event) → All (KeepsDevices image) before → (t : Numbered) → Contains (numbered_threads image) t → is_of_level priority t ≡ true
    → current (state_after (described image) before) ≡ Some (tcb_of image t) → MakesCall (state_after (described image) before) (tcb_of image t)
    → work_after image priority w (before ++ Step ∷ []) + 1 ≤ work_after image priority w before)
    (below : (before : List Event) → All (KeepsDevices image) before → (t : Numbered) → Contains (numbered_threads image) t → is_of_level priority t ≡ false
    → current (state_after (described image) before) ≡ Some (tcb_of image t) → work_after image priority w (before ++ Step ∷ []) ≤ most)
    (ticks : (before : List Event) → All (KeepsDevices image) before → work_after image priority w (before ++ Tick ∷ []) ≤ work_after image priority w before)
    (written : (before : List Event) (address word : ℕ) → work_after image priority w (before ++ Write address word ∷ []) ≤ work_after image priority w before)
    (looked : (before : List Event) (address : ℕ) → work_after image priority w (before ++ Read address ∷ []) ≤ work_after image priority w before)
    (raises : (before : List Event) → All (KeepsDevices image) before → (number : ℕ) → work_after image priority w (before ++ Irq number ∷ [])
    ≤ work_after image priority w before + line_price w (state_after (described image) before) number)
    (beyond : (before : List Event) → All (KeepsDevices image) before → (number : ℕ) → nat_lt 63 number ≡ true
    → work_after image priority w (before ++ Irq number ∷ []) ≤ work_after image priority w before + 0)
    (have : HaveRates image w rates)
    (words : (before : List Event) → All (KeepsDevices image) before → Rests image priority (state_after (described image) before) → (queue : ℕ)
    (n : NotificationState) → is_taken queue ≡ true → (state_after (described image) before).objects queue ≡ Some (NotificationObject n) → n.word ≡ 0)
    (lines : (before : List Event) → All (KeepsDevices image) before → Rests image priority (state_after (described image) before) → (number : ℕ)
    → number < 64 → is_open number ≡ true → (state_after (described image) before).pending number ≡ false) where
  abbrev behind : List Event → State
  behind before = state_after (described image) before

  -- a step of the level
  falls-so : (before : List Event) → All (KeepsDevices image) before → is_level_label image priority (step (behind before) Step).1 ≡ true
      → work_after image priority w (before ++ Step ∷ []) + 1 ≤ work_after image priority w before
  falls-so before kept is =
      let at = stand before kept in
      step-cases image (behind before) at.0 at.1 (work_after image priority w (before ++ Step ∷ []) + 1 ≤ work_after image priority w before)
      (λ none. absurd (idle-seen image priority (behind before) none is))
      (λ t listed now makes. by-level t listed now (λ level. calls before kept t listed level now makes))
      (λ t listed now free. by-level t listed now (λ level. plain before kept t listed level now free))
    where
      by-level : (t : Numbered) → Contains (numbered_threads image) t → current (behind before) ≡ Some (tcb_of image t)
          → (is_of_level priority t ≡ true → work_after image priority w (before ++ Step ∷ []) + 1 ≤ work_after image priority w before)
          → work_after image priority w (before ++ Step ∷ []) + 1 ≤ work_after image priority w before
      by-level t listed now goes = elim (is_of_level priority t) as
          (λ b. is_of_level priority t ≡ b → work_after image priority w (before ++ Step ∷ []) + 1 ≤ work_after image priority w before) [
            | true ↦ goes
            | false ↦ λ other. absurd (other-seen image priority (behind before) t listed (λ u at same. own u t at listed same) other now is)
          ] refl

  -- a step that is not the level's
  idle-rests : (before : List Event) → All (KeepsDevices image) before → current (behind before) ≡ None
      → work_after image priority w (before ++ Step ∷ []) ≤ most
  idle-rests before kept none =
      let later = trace (described image) (before ++ Step ∷ []) in
      let same : behind before ≡ state_after (described image) (before ++ Step ∷ []) =
      sym (ap (λ (x : State × Label). x.0) (idle-is (behind before) none)) ∙ sym (state-next (described image) before Step) in
      let less = subst (λ (x : State). left image priority w x later ≤ at_rest image w is_taken is_open) same
      (rest-left image priority w (behind before) later
      (λ t listed level may. nobody (level-runs before kept t listed level may))
      (λ number among. bound before kept number (few-lines number among)) is_taken (λ queue n here at. no-word-there queue n here at) is_open
      (λ number among here. silent number among here)) in
      let owing : owed image priority w (state_after (described image) (before ++ Step ∷ []))
      ≤ total (λ (t : Numbered). owed_most t.number) (numbered_threads image) =
      subst (λ (x : State). owed image priority w x ≤ total (λ (t : Numbered). owed_most t.number) (numbered_threads image)) same (owes before kept rests) in
      omega (arith, less, owing, rest)
    where
      nobody : RunsOfLevel image priority (behind before) → ⊥
      nobody r = let clash : ◌≡◌ {A = Option ℕ} None (Some (tcb_of image r.thread)) = sym none ∙ r.runs in absurd cc

      rests : (t : Numbered) → Contains (numbered_threads image) t → is_of_level priority t ≡ true
          → is_runnable (thread_at (behind before) (tcb_of image t)).status ≡ false
      rests t listed level = elim (is_runnable (thread_at (behind before) (tcb_of image t)).status) as
          (λ b. is_runnable (thread_at (behind before) (tcb_of image t)).status ≡ b → b ≡ false) [
            | true ↦ λ may. absurd (nobody (level-runs before kept t listed level may))
            | false ↦ λ _. refl
          ] refl

      no-word-there : (queue : ℕ) (n : NotificationState) → is_taken queue ≡ true → (behind before).objects queue ≡ Some (NotificationObject n) → n.word ≡ 0
      no-word-there queue n here at = words before kept rests queue n here at

      silent : (number : ℕ) → Contains irq_lines number → is_open number ≡ true → (behind before).pending number ≡ false
      silent number among here = lines before kept rests number (few-lines number among) here

  rests-so : (before : List Event) → All (KeepsDevices image) before → is_level_label image priority (step (behind before) Step).1 ≡ false
      → work_after image priority w (before ++ Step ∷ []) ≤ most
  rests-so before kept is =
      let at = stand before kept in
      step-cases image (behind before) at.0 at.1 (work_after image priority w (before ++ Step ∷ []) ≤ most) (idle-rests before kept)
      (λ t listed now makes. by-level t listed now) (λ t listed now free. by-level t listed now)
    where
      by-level : (t : Numbered) → Contains (numbered_threads image) t → current (behind before) ≡ Some (tcb_of image t)
          → work_after image priority w (before ++ Step ∷ []) ≤ most
      by-level t listed now = elim (is_of_level priority t) as (λ b. is_of_level priority t ≡ b → work_after image priority w (before ++ Step ∷ []) ≤ most) [
        | true ↦ λ level.
            let clash : true ≡ false = sym (seen (behind before) (record { thread = t; listed = listed; level = level; runs = now })) ∙ is in absurd cc
        | false ↦ λ other. below before kept t listed other now
      ] refl

  raises-so : (before : List Event) → All (KeepsDevices image) before → (number : ℕ) → work_after image priority w (before ++ Irq number ∷ [])
      ≤ work_after image priority w before + cost_of rates (line_price w (described image)) number
  raises-so before kept number = elim (nat_lt 63 number) as (λ b. nat_lt 63 number ≡ b → work_after image priority w (before ++ Irq number ∷ [])
      ≤ work_after image priority w before + cost_of rates (line_price w (described image)) number) [
        | true ↦ λ is. let less = beyond before kept number is in omega (arith, less)
        | false ↦ λ is.
            let low = ltb-false 63 number is in
            let same : line_price w (behind before) number ≡ line_price w (described image) number =
            ap (λ (b : Option Signal). option_map_or (λ x. price_of w x.notification) b 0) (bound before kept number (omega (arith, low))) in
            let less = raises before kept number in
            let rated = have number (omega (arith, low)) in
            omega (arith, less, same, rated)
      ] refl

  front : (before rest : List Event) → events ≡ before ++ rest → All (KeepsDevices image) before
  front before rest is = all-front (KeepsDevices image) events before rest devices is

  pub whole-work : Economy image priority rates (line_price w (described image)) most (work_after image priority w) events
  whole-work = record {
    falls = λ before later is own_label. falls-so before (front before (Step ∷ later) is) own_label;
    rests = λ before later is other_label. rests-so before (front before (Step ∷ later) is) other_label;
    ticks = λ before later is. let less = ticks before (front before (Tick ∷ later) is) in omega (arith, less);
    raises = λ before later number is. raises-so before (front before (Irq number ∷ later) is) number;
    writes = λ before later address word is. let less = written before address word in omega (arith, less);
    reads = λ before later address is. let less = looked before address in omega (arith, less);
  }
