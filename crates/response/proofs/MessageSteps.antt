-- A step of a thread below, whatever it makes: denied more work is there than at rest, and what it brings.
use Rattle.std.proofs.Common.{ℕ, ◌≡◌, ◌≢◌, ◌∙◌, ◌⊎◌, ◌<◌, ◌≤◌, ◌++◌, Bool, true, false, Option, Some, None, List, [], ◌∷◌, refl, sym, ap, subst}
use Rattle.std.specs.Prelude.{Contains}
use Rattle.model.specs.declared.events.Event.{Event}
use Rattle.model.specs.declared.events.Event.TheVariants.{Step}
use Rattle.model.specs.declared.labels.Label.{Label}
use Rattle.model.specs.Acceptance.Accepted.{IsAccepted}
use Rattle.model.specs.Acceptance.Authority.{StaysWithin}
use Rattle.model.specs.Acceptance.ThreadInvariants.{tcb_of}
use Rattle.model.specs.Images.Described.{Numbered, described, numbered_threads}
use Rattle.model.specs.Images.Image.{Image}
use Rattle.model.specs.Kernel.Interrupts.{binding}
use Rattle.model.specs.Kernel.Scheduling.{current, is_runnable}
use Rattle.model.specs.Kernel.State.{EndpointObject, EndpointState, NotificationObject, NotificationState, State, ThreadState, thread_at}
use Rattle.model.specs.Kernel.Steps.{state_after, step, trace}
use Rattle.headline.proofs.Laws.{state-next, step-cases, trace-next}
use Rattle.headline.specs.facts.Standing.{AllStand}
use Rattle.headline.specs.invocations.Laws.{AnyStepGoesWell, Laws}
use Rattle.headline.specs.moves.Steps.{MakesCall}
use Rattle.headline.specs.steps.Points.{ReachesNoCall}
use Rattle.response.specs.DealtWith.{Rests}
use Rattle.response.specs.Laws.{RunsOfLevel, WaitsToTake}
use Rattle.response.specs.Left.{irq_lines}
use Rattle.response.specs.Owed.{OweBelow, StepsFitWith, WaitsWhereAsked, at_rest_with, owed_of_thread, work, work_after}
use Rattle.response.specs.Levels.{is_of_level}
use Rattle.response.specs.Weights.{Pays, Weights}
use Rattle.response.proofs.MessageRests.{below-owes}
use Rattle.response.proofs.OneMessage.{call-rests-so, plain-rests-so}
use Rattle.response.proofs.Whole.{few-lines}

module _ (laws : Laws) (steps : AnyStepGoesWell) (told : (a b : ThreadState) → (a ≡ b) ⊎ (a ≢ b)) (bytes : List ℕ) (image : Image)
    (accepted : IsAccepted bytes image) (priority : ℕ) (w : Weights) (pays : Pays image priority w)
    (events : List Event)
    (all : AllStand image (state_after (described image) events) (trace (described image) events))
    (stay : StaysWithin image (state_after (described image) events) Step (step (state_after (described image) events) Step).0)
    (takes : (u : Numbered) (queue : ℕ) (n : NotificationState) (others : List ℕ) → Contains (numbered_threads image) u
    → (state_after (described image) events).objects queue ≡ Some (NotificationObject n) → n.waiters ≡ tcb_of image u ∷ others
    → WaitsToTake image u (state_after (described image) events) (trace (described image) events) queue)
    (where_asked : (u : Numbered) → Contains (numbered_threads image) u → WaitsWhereAsked image u (state_after (described image) events))
    (is_taken : ℕ → Bool) (owed_most : ℕ → ℕ) (owe : OweBelow image priority w is_taken owed_most)
    (owe_at_rest : Rests image priority (state_after (described image) events) → (u : Numbered) → Contains (numbered_threads image) u
    → is_of_level priority u ≡ true → owed_of_thread image priority w (state_after (described image) events) u ≤ owed_most u.number)
    (bound : (number : ℕ) → number < 64 → binding (step (state_after (described image) events) Step).0 number
    ≡ binding (state_after (described image) events) number)
    (t : Numbered) (listed : Contains (numbered_threads image) t) (now : current (state_after (described image) events) ≡ Some (tcb_of image t))
    (described_so : (number : ℕ) → number < 64 → binding (state_after (described image) events) number ≡ binding (described image) number)
    (below : is_of_level priority t ≡ false)
    (level-runs : (u : Numbered) → Contains (numbered_threads image) u → is_of_level priority u ≡ true
    → is_runnable (thread_at (state_after (described image) events) (tcb_of image u)).status ≡ true
    → RunsOfLevel image priority (state_after (described image) events)) (is_open : ℕ → Bool)
    (words : Rests image priority (state_after (described image) events) → (queue : ℕ) (n : NotificationState) → is_taken queue ≡ true
    → (state_after (described image) events).objects queue ≡ Some (NotificationObject n) → n.word ≡ 0)
    (messages : Rests image priority (state_after (described image) events) → (queue : ℕ) (e : EndpointState) → is_taken queue ≡ true
    → (state_after (described image) events).objects queue ≡ Some (EndpointObject e) → e.senders ≡ [])
    (lines : Rests image priority (state_after (described image) events) → (number : ℕ) → number < 64 → is_open number ≡ true
    → (state_after (described image) events).pending number ≡ false) (most : ℕ)
    (fit : StepsFitWith image priority w is_taken is_open owed_most most) (rest : at_rest_with image w is_taken is_open owed_most ≤ most) where
  abbrev s : State
  s = state_after (described image) events

  abbrev labels : List Label
  labels = trace (described image) events

  same-thread : (u : Numbered) → Contains (numbered_threads image) u → current s ≡ Some (tcb_of image u) → u ≡ t
  same-thread u among here =
      let both : ◌≡◌ {A = Option ℕ} (Some (tcb_of image u)) (Some (tcb_of image t)) = sym here ∙ now in
      let same : tcb_of image u ≡ tcb_of image t = cc in
      laws.below.own_blocks bytes image u t accepted among listed same

  -- denied thread of the level may run
  rests : (u : Numbered) → Contains (numbered_threads image) u → is_of_level priority u ≡ true
      → is_runnable (thread_at s (tcb_of image u)).status ≡ true → ⊥
  rests u among level may =
      let r = level-runs u among level may in
      let clash : false ≡ true = sym below ∙ ap (is_of_level priority) (sym (same-thread r.thread r.listed r.runs)) ∙ r.level in
      absurd cc

  stops : (u : Numbered) → Contains (numbered_threads image) u → is_of_level priority u ≡ true → is_runnable (thread_at s (tcb_of image u)).status ≡ false
  stops u among level = elim (is_runnable (thread_at s (tcb_of image u)).status)
      as (λ b. is_runnable (thread_at s (tcb_of image u)).status ≡ b → b ≡ false) [
        | true ↦ λ may. absurd (rests u among level may)
        | false ↦ λ _. refl
      ] refl

  taken : (queue : ℕ) (n : NotificationState) → is_taken queue ≡ true → s.objects queue ≡ Some (NotificationObject n) → n.word ≡ 0
  taken queue n here is = words stops queue n here is

  silent : (number : ℕ) → Contains irq_lines number → is_open number ≡ true → s.pending number ≡ false
  silent number among here = lines stops number (few-lines number among) here

  -- so nobody owes more
  owes : (u : Numbered) → Contains (numbered_threads image) u → owed_of_thread image priority w s u ≤ owed_most u.number
  owes u among = elim (is_of_level priority u) as (λ b. is_of_level priority u ≡ b → owed_of_thread image priority w s u ≤ owed_most u.number) [
    | true ↦ λ level. owe_at_rest stops u among level
    | false ↦ λ other.
        below-owes laws.below bytes image accepted priority w is_taken owed_most owe s labels all (λ o e here at. messages stops o e here at) u among
        (where_asked u among) other
  ] refl

  abbrev Fits : Type 0
  Fits = work image priority w (step s Step).0 (labels ++ (step s Step).1 ∷ []) ≤ most

  calls : MakesCall s (tcb_of image t) → Fits
  calls = call-rests-so laws steps told bytes image accepted s labels all stay t listed now priority w pays takes where_asked bound is_taken owed_most owe
      owes (λ number among. described_so number (few-lines number among)) below rests taken is_open silent most fit rest

  plain : ReachesNoCall s (tcb_of image t) → Fits
  plain = plain-rests-so laws steps told bytes image accepted s labels all stay t listed now priority w pays takes where_asked bound is_taken owed_most owe
      owes (λ number among. described_so number (few-lines number among)) below rests taken is_open silent most fit rest

  pub step-rests : work image priority w (step (state_after (described image) events) Step).0
      (trace (described image) events ++ (step (state_after (described image) events) Step).1 ∷ []) ≤ most
  step-rests =
      step-cases image s labels all Fits
      (λ none. absurd (let clash : ◌≡◌ {A = Option ℕ} None (Some (tcb_of image t)) = sym none ∙ now in cc))
      (λ u among here makes. calls (subst (λ (v : Numbered). MakesCall s (tcb_of image v)) (same-thread u among here) makes))
      (λ u among here free. plain (subst (λ (v : Numbered). ReachesNoCall s (tcb_of image v)) (same-thread u among here) free))

-- ---- after events

pub work-next : (image : Image) (priority : ℕ) (w : Weights) (events : List Event)
    → work_after image priority w (events ++ Step ∷ []) ≡ work image priority w (step (state_after (described image) events) Step).0
    (trace (described image) events ++ (step (state_after (described image) events) Step).1 ∷ [])
work-next image priority w events =
    ap (λ (x : State). work image priority w x (trace (described image) (events ++ Step ∷ []))) (state-next (described image) events Step)
    ∙ ap (λ (l : List Label). work image priority w (step (state_after (described image) events) Step).0 l) (trace-next (described image) events Step)
