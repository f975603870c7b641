-- The laws of stage one, as an economy.
use Rattle.std.proofs.Common.{ℕ, Bool, zero, suc, ◌≡◌, ◌∙◌, ◌+◌, ◌<◌, ◌≤◌, ◌++◌, true, false, nat_lt, Option, Some, None, List, [], ◌∷◌, All, length, get_or}
use Rattle.std.proofs.Common.{refl, sym, ap, subst, arith}
use Rattle.std.specs.Prelude.{Contains}
use Rattle.std.specs.Option.{option_map_or}
use Rattle.std.specs.List.{range_with_len}
use Rattle.std.proofs.lemmas.Bool.{ltb-false}
use Rattle.model.specs.declared.events.Event.{Event}
use Rattle.model.specs.declared.events.Event.TheVariants.{Step, Tick, Irq, Write, Read}
use Rattle.model.specs.declared.labels.Label.{Label}
use Rattle.model.specs.Acceptance.Devices.{KeepsDevices}
use Rattle.model.specs.Acceptance.ThreadInvariants.{tcb_of}
use Rattle.model.specs.Images.Described.{Numbered, described, numbered_threads}
use Rattle.model.specs.Images.Image.{Image}
use Rattle.model.specs.Kernel.Interrupts.{Signal, binding}
use Rattle.model.specs.Kernel.Scheduling.{current, is_runnable}
use Rattle.model.specs.Kernel.State.{NotificationObject, NotificationState, State, thread_at}
use Rattle.model.specs.Kernel.Steps.{state_after, step, trace}
use Rattle.headline.proofs.Laws.{all-front, idle-is, state-next, step-cases}
use Rattle.headline.specs.facts.Standing.{AllStand}
use Rattle.headline.specs.steps.Points.{ReachesNoCall}
use Rattle.response.specs.Resting.{AreAcknowledged, AreTakenAlone, IsAcknowledged, TakesFromOne}
use Rattle.response.specs.Laws.{CallsAreWork, Economy, HaveRates, RunsOfLevel, StepsBelowRest, left_after}
use Rattle.response.specs.Left.{at_rest, irq_lines, left, line_price}
use Rattle.response.specs.Levels.{is_level_label, is_of_level}
use Rattle.response.specs.Rates.{Rate, cost_of}
use Rattle.response.specs.Weights.{Weights, price_of}
use Rattle.response.proofs.Stage.{idle-seen, other-seen, rest-left}

range-below : (from count : ℕ) (x k : ℕ) → k < length (range_with_len from count) → get_or (range_with_len from count) k x ≡ x → x < from + count
range-below from zero x k inside is = absurd (omega (arith, inside))
range-below from (suc count) x zero inside is = let same : from ≡ x = is in omega (arith, same)
range-below from (suc count) x (suc k) inside is = let less = range-below (from + 1) count x k (omega (arith, inside)) is in omega (arith, less)

pub few-lines : (number : ℕ) → Contains irq_lines number → number < 64
unfolding irq_lines
few-lines number among = let less = range-below 0 64 number among.0 among.1 among.2 in omega (arith, less)

module _ (image : Image) (priority : ℕ) (w : Weights) (rates : List Rate) (most : ℕ) (events : List Event)
    (is_taken is_open : ℕ → Bool) (rest : at_rest image w is_taken is_open ≤ most)
    (devices : All (KeepsDevices image) events)
    (stand : (before : List Event) → All (KeepsDevices image) before → (labels : List Label) × AllStand image (state_after (described image) before) labels)
    (own : (u t : Numbered) → Contains (numbered_threads image) u → Contains (numbered_threads image) t → tcb_of image u ≡ tcb_of image t → u ≡ t)
    (bound : (before : List Event) → All (KeepsDevices image) before → (number : ℕ) → number < 64
    → binding (state_after (described image) before) number ≡ binding (described image) number)
    (level-runs : (before : List Event) → All (KeepsDevices image) before → (t : Numbered) → Contains (numbered_threads image) t → is_of_level priority t ≡ true
    → is_runnable (thread_at (state_after (described image) before) (tcb_of image t)).status ≡ true
    → RunsOfLevel image priority (state_after (described image) before))
    (seen : (s : State) → RunsOfLevel image priority s → is_level_label image priority (step s Step).1 ≡ true)
    (plain : (before : List Event) → All (KeepsDevices image) before → (t : Numbered) → Contains (numbered_threads image) t → is_of_level priority t ≡ true
    → current (state_after (described image) before) ≡ Some (tcb_of image t) → ReachesNoCall (state_after (described image) before) (tcb_of image t)
    → left_after image priority w (before ++ Step ∷ []) + 1 ≤ left_after image priority w before)
    (calls : CallsAreWork image priority w) (below : StepsBelowRest image priority w most)
    (ticks : (before : List Event) → All (KeepsDevices image) before → left_after image priority w (before ++ Tick ∷ []) ≡ left_after image priority w before)
    (written : (before : List Event) (address word : ℕ) → left_after image priority w (before ++ Write address word ∷ []) ≡ left_after image priority w before)
    (looked : (before : List Event) (address : ℕ) → left_after image priority w (before ++ Read address ∷ []) ≡ left_after image priority w before)
    (raises : (before : List Event) → All (KeepsDevices image) before → (number : ℕ) → left_after image priority w (before ++ Irq number ∷ [])
    ≤ left_after image priority w before + line_price w (state_after (described image) before) number)
    (beyond : (before : List Event) → All (KeepsDevices image) before → (number : ℕ) → nat_lt 63 number ≡ true
    → left_after image priority w (before ++ Irq number ∷ []) ≤ left_after image priority w before + 0)
    (have : HaveRates image w rates) (alone : AreTakenAlone image priority is_taken) (acknowledged : AreAcknowledged image priority is_open)
    (words : (before : List Event) → All (KeepsDevices image) before → (t : Numbered) (queue : ℕ) (n : NotificationState)
    → Contains (numbered_threads image) t → TakesFromOne image t queue
    → is_runnable (thread_at (state_after (described image) before) (tcb_of image t)).status ≡ false
    → (state_after (described image) before).objects queue ≡ Some (NotificationObject n) → n.word ≡ 0)
    (lines : (before : List Event) → All (KeepsDevices image) before → (number : ℕ) → number < 64 → (a : IsAcknowledged image priority number)
    → is_runnable (thread_at (state_after (described image) before) (tcb_of image a.tended.thread)).status ≡ false
    → (state_after (described image) before).pending number ≡ false) where
  abbrev behind : List Event → State
  behind before = state_after (described image) before

  -- a step of the level
  falls-so : (before : List Event) → All (KeepsDevices image) before → is_level_label image priority (step (behind before) Step).1 ≡ true
      → left_after image priority w (before ++ Step ∷ []) + 1 ≤ left_after image priority w before
  falls-so before kept is =
      let at = stand before kept in
      step-cases image (behind before) at.0 at.1 (left_after image priority w (before ++ Step ∷ []) + 1 ≤ left_after image priority w before)
      (λ none. absurd (idle-seen image priority (behind before) none is))
      (λ t listed now makes. by-level t listed now (λ level. calls before kept t listed level now makes))
      (λ t listed now free. by-level t listed now (λ level. plain before kept t listed level now free))
    where
      by-level : (t : Numbered) → Contains (numbered_threads image) t → current (behind before) ≡ Some (tcb_of image t)
          → (is_of_level priority t ≡ true → left_after image priority w (before ++ Step ∷ []) + 1 ≤ left_after image priority w before)
          → left_after image priority w (before ++ Step ∷ []) + 1 ≤ left_after image priority w before
      by-level t listed now goes = elim (is_of_level priority t) as
          (λ b. is_of_level priority t ≡ b → left_after image priority w (before ++ Step ∷ []) + 1 ≤ left_after image priority w before) [
            | true ↦ goes
            | false ↦ λ other. absurd (other-seen image priority (behind before) t listed (λ u at same. own u t at listed same) other now is)
          ] refl

  -- a step that is not the level's
  idle-rests : (before : List Event) → All (KeepsDevices image) before → current (behind before) ≡ None
      → left_after image priority w (before ++ Step ∷ []) ≤ most
  idle-rests before kept none =
      let later = trace (described image) (before ++ Step ∷ []) in
      let same : behind before ≡ state_after (described image) (before ++ Step ∷ []) =
      sym (ap (λ (x : State × Label). x.0) (idle-is (behind before) none)) ∙ sym (state-next (described image) before Step) in
      let less = subst (λ (x : State). left image priority w x later ≤ at_rest image w is_taken is_open) same
      (rest-left image priority w (behind before) later
      (λ t listed level may. nobody (level-runs before kept t listed level may))
      (λ number among. bound before kept number (few-lines number among)) is_taken (λ queue n here at. no-word-there queue n here at) is_open
      (λ number among here. silent number among here)) in
      omega (arith, less, rest)
    where
      nobody : RunsOfLevel image priority (behind before) → ⊥
      nobody r = let clash : ◌≡◌ {A = Option ℕ} None (Some (tcb_of image r.thread)) = sym none ∙ r.runs in absurd cc

      rests : (t : Numbered) → Contains (numbered_threads image) t → is_of_level priority t ≡ true
          → is_runnable (thread_at (behind before) (tcb_of image t)).status ≡ false
      rests t listed level = elim (is_runnable (thread_at (behind before) (tcb_of image t)).status) as
          (λ b. is_runnable (thread_at (behind before) (tcb_of image t)).status ≡ b → b ≡ false) [
            | true ↦ λ may. absurd (nobody (level-runs before kept t listed level may))
            | false ↦ λ _. refl
          ] refl

      no-word-there : (queue : ℕ) (n : NotificationState) → is_taken queue ≡ true → (behind before).objects queue ≡ Some (NotificationObject n) → n.word ≡ 0
      no-word-there queue n here at = let who = alone queue here in words before kept who.0 queue n who.1 who.3 (rests who.0 who.1 who.2) at

      silent : (number : ℕ) → Contains irq_lines number → is_open number ≡ true → (behind before).pending number ≡ false
      silent number among here =
          let few = few-lines number among in
          let a = acknowledged number few here in
          lines before kept number few a (rests a.tended.thread a.tended.listed a.level)

  rests-so : (before : List Event) → All (KeepsDevices image) before → is_level_label image priority (step (behind before) Step).1 ≡ false
      → left_after image priority w (before ++ Step ∷ []) ≤ most
  rests-so before kept is =
      let at = stand before kept in
      step-cases image (behind before) at.0 at.1 (left_after image priority w (before ++ Step ∷ []) ≤ most) (idle-rests before kept)
      (λ t listed now makes. by-level t listed now) (λ t listed now free. by-level t listed now)
    where
      by-level : (t : Numbered) → Contains (numbered_threads image) t → current (behind before) ≡ Some (tcb_of image t)
          → left_after image priority w (before ++ Step ∷ []) ≤ most
      by-level t listed now = elim (is_of_level priority t) as (λ b. is_of_level priority t ≡ b → left_after image priority w (before ++ Step ∷ []) ≤ most) [
        | true ↦ λ level.
            let clash : true ≡ false = sym (seen (behind before) (record { thread = t; listed = listed; level = level; runs = now })) ∙ is in absurd cc
        | false ↦ λ other. below before kept t listed other now
      ] refl

  raises-so : (before : List Event) → All (KeepsDevices image) before → (number : ℕ) → left_after image priority w (before ++ Irq number ∷ [])
      ≤ left_after image priority w before + cost_of rates (line_price w (described image)) number
  raises-so before kept number = elim (nat_lt 63 number) as (λ b. nat_lt 63 number ≡ b → left_after image priority w (before ++ Irq number ∷ [])
      ≤ left_after image priority w before + cost_of rates (line_price w (described image)) number) [
        | true ↦ λ is. let less = beyond before kept number is in omega (arith, less)
        | false ↦ λ is.
            let low = ltb-false 63 number is in
            let same : line_price w (behind before) number ≡ line_price w (described image) number =
            ap (λ (b : Option Signal). option_map_or (λ x. price_of w x.notification) b 0) (bound before kept number (omega (arith, low))) in
            let less = raises before kept number in
            let rated = have number (omega (arith, low)) in
            omega (arith, less, same, rated)
      ] refl

  front : (before rest : List Event) → events ≡ before ++ rest → All (KeepsDevices image) before
  front before rest is = all-front (KeepsDevices image) events before rest devices is

  pub whole : Economy image priority rates (line_price w (described image)) most (left_after image priority w) events
  whole = record {
    falls = λ before later is own_label. falls-so before (front before (Step ∷ later) is) own_label;
    rests = λ before later is other_label. rests-so before (front before (Step ∷ later) is) other_label;
    ticks = λ before later is. let same = ticks before (front before (Tick ∷ later) is) in omega (arith, same);
    raises = λ before later number is. raises-so before (front before (Irq number ∷ later) is) number;
    writes = λ before later address word is. let same = written before address word in omega (arith, same);
    reads = λ before later address is. let same = looked before address in omega (arith, same);
  }
