-- A step of a thread below, whatever it makes.
use Rattle.std.proofs.Common.{ℕ, ◌≡◌, ◌≢◌, ◌∙◌, ◌⊎◌, ◌<◌, ◌≤◌, ◌++◌, Bool, true, false, Option, Some, None, List, [], ◌∷◌, All, refl, sym, ap, subst}
use Rattle.std.specs.Prelude.{Contains}
use Rattle.std.proofs.lemmas.List.Elements.{All-push}
use Rattle.model.specs.declared.events.Event.{Event}
use Rattle.model.specs.declared.events.Event.TheVariants.{Step}
use Rattle.model.specs.declared.labels.Label.{Label}
use Rattle.model.specs.Acceptance.Accepted.{IsAccepted}
use Rattle.model.specs.Acceptance.Authority.{StaysWithin}
use Rattle.model.specs.Acceptance.Devices.{KeepsDevices}
use Rattle.model.specs.Acceptance.ThreadInvariants.{tcb_of}
use Rattle.model.specs.Images.Described.{Numbered, described, numbered_threads}
use Rattle.model.specs.Images.Image.{Image}
use Rattle.model.specs.Kernel.Interrupts.{binding}
use Rattle.model.specs.Kernel.Scheduling.{current, is_runnable}
use Rattle.model.specs.Kernel.State.{NotificationObject, NotificationState, State, ThreadState, thread_at}
use Rattle.model.specs.Kernel.Steps.{state_after, step, trace}
use Rattle.headline.proofs.Laws.{step-cases}
use Rattle.headline.specs.facts.Standing.{AllStand}
use Rattle.headline.specs.invocations.Laws.{AnyStepGoesWell, Laws}
use Rattle.headline.specs.moves.Steps.{MakesCall}
use Rattle.headline.specs.steps.Points.{ReachesNoCall}
use Rattle.response.specs.Laws.{RingsFit, RunsOfLevel, WaitsToTake}
use Rattle.response.specs.Left.{at_rest, irq_lines, left}
use Rattle.response.specs.Resting.{AreAcknowledged, AreTakenAlone, IsAcknowledged, TakesFromOne}
use Rattle.response.specs.Levels.{is_of_level}
use Rattle.response.specs.Weights.{Pays, Weights}
use Rattle.response.proofs.AtBells.{WaitsForNoMessage}
use Rattle.response.proofs.OneCall.{call-below, plain-below}
use Rattle.response.proofs.Whole.{few-lines}

-- a step is no device's
pub keeps-more : (image : Image) (events : List Event) → All (KeepsDevices image) events → All (KeepsDevices image) (events ++ Step ∷ [])
keeps-more image events devices = All-push (KeepsDevices image) events Step devices tt

module _ (laws : Laws) (steps : AnyStepGoesWell) (told : (a b : ThreadState) → (a ≡ b) ⊎ (a ≢ b)) (bytes : List ℕ) (image : Image)
    (accepted : IsAccepted bytes image) (priority : ℕ) (w : Weights) (pays : Pays image priority w)
    (quiet : (u : Numbered) → Contains (numbered_threads image) u → is_of_level priority u ≡ true → WaitsForNoMessage image u) (events : List Event)
    (all : AllStand image (state_after (described image) events) (trace (described image) events))
    (stay : StaysWithin image (state_after (described image) events) Step (step (state_after (described image) events) Step).0)
    (takes : (u : Numbered) (queue : ℕ) (n : NotificationState) (others : List ℕ) → Contains (numbered_threads image) u
    → (state_after (described image) events).objects queue ≡ Some (NotificationObject n) → n.waiters ≡ tcb_of image u ∷ others
    → WaitsToTake image u (state_after (described image) events) (trace (described image) events) queue)
    (bound : (number : ℕ) → number < 64 → binding (step (state_after (described image) events) Step).0 number
    ≡ binding (state_after (described image) events) number)
    (t : Numbered) (listed : Contains (numbered_threads image) t) (now : current (state_after (described image) events) ≡ Some (tcb_of image t))
    (described_so : (number : ℕ) → number < 64 → binding (state_after (described image) events) number ≡ binding (described image) number)
    (below : is_of_level priority t ≡ false)
    (level-runs : (u : Numbered) → Contains (numbered_threads image) u → is_of_level priority u ≡ true
    → is_runnable (thread_at (state_after (described image) events) (tcb_of image u)).status ≡ true
    → RunsOfLevel image priority (state_after (described image) events)) (is_taken is_open : ℕ → Bool) (alone : AreTakenAlone image priority is_taken)
    (acknowledged : AreAcknowledged image priority is_open)
    (words : (u : Numbered) (queue : ℕ) (n : NotificationState) → Contains (numbered_threads image) u → TakesFromOne image u queue
    → is_runnable (thread_at (state_after (described image) events) (tcb_of image u)).status ≡ false
    → (state_after (described image) events).objects queue ≡ Some (NotificationObject n) → n.word ≡ 0)
    (lines : (number : ℕ) → number < 64 → (a : IsAcknowledged image priority number)
    → is_runnable (thread_at (state_after (described image) events) (tcb_of image a.tended.thread)).status ≡ false
    → (state_after (described image) events).pending number ≡ false) (most : ℕ)
    (fit : RingsFit image priority w is_taken is_open most) (rest : at_rest image w is_taken is_open ≤ most) where
  abbrev s : State
  s = state_after (described image) events

  abbrev labels : List Label
  labels = trace (described image) events

  same-thread : (u : Numbered) → Contains (numbered_threads image) u → current s ≡ Some (tcb_of image u) → u ≡ t
  same-thread u among here =
      let both : ◌≡◌ {A = Option ℕ} (Some (tcb_of image u)) (Some (tcb_of image t)) = sym here ∙ now in
      let same : tcb_of image u ≡ tcb_of image t = cc in
      laws.below.own_blocks bytes image u t accepted among listed same

  -- no thread of the level may run
  rests : (u : Numbered) → Contains (numbered_threads image) u → is_of_level priority u ≡ true
      → is_runnable (thread_at s (tcb_of image u)).status ≡ true → ⊥
  rests u among level may =
      let r = level-runs u among level may in
      let clash : false ≡ true = sym below ∙ ap (is_of_level priority) (sym (same-thread r.thread r.listed r.runs)) ∙ r.level in
      absurd cc

  stops : (u : Numbered) → Contains (numbered_threads image) u → is_of_level priority u ≡ true → is_runnable (thread_at s (tcb_of image u)).status ≡ false
  stops u among level = elim (is_runnable (thread_at s (tcb_of image u)).status)
      as (λ b. is_runnable (thread_at s (tcb_of image u)).status ≡ b → b ≡ false) [
        | true ↦ λ may. absurd (rests u among level may)
        | false ↦ λ _. refl
      ] refl

  taken : (queue : ℕ) (n : NotificationState) → is_taken queue ≡ true → s.objects queue ≡ Some (NotificationObject n) → n.word ≡ 0
  taken queue n here is = let who = alone queue here in words who.0 queue n who.1 who.3 (stops who.0 who.1 who.2) is

  silent : (number : ℕ) → Contains irq_lines number → is_open number ≡ true → s.pending number ≡ false
  silent number among here =
      let few = few-lines number among in
      let a = acknowledged number few here in
      lines number few a (stops a.tended.thread a.tended.listed a.level)

  abbrev Rests : Type 0
  Rests = left image priority w (step s Step).0 (labels ++ (step s Step).1 ∷ []) ≤ most

  calls : MakesCall s (tcb_of image t) → Rests
  calls = call-below laws steps told bytes image accepted priority w pays quiet s labels all stay takes bound t listed now
      (λ number among. described_so number (few-lines number among)) below rests is_taken taken is_open silent most fit rest

  plain : ReachesNoCall s (tcb_of image t) → Rests
  plain = plain-below laws steps told bytes image accepted priority w pays quiet s labels all stay takes bound t listed now
      (λ number among. described_so number (few-lines number among)) below rests is_taken taken is_open silent most fit rest

  pub step-below : left image priority w (step (state_after (described image) events) Step).0
      (trace (described image) events ++ (step (state_after (described image) events) Step).1 ∷ []) ≤ most
  step-below =
      step-cases image s labels all Rests
      (λ none. absurd (let clash : ◌≡◌ {A = Option ℕ} None (Some (tcb_of image t)) = sym none ∙ now in cc))
      (λ u among here makes. calls (subst (λ (v : Numbered). MakesCall s (tcb_of image v)) (same-thread u among here) makes))
      (λ u among here free. plain (subst (λ (v : Numbered). ReachesNoCall s (tcb_of image v)) (same-thread u among here) free))
