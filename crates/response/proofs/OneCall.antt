-- One step more: a system call of a thread of the level, and any step of another one.
use Rattle.std.proofs.Common.{ℕ, ◌≡◌, ◌≢◌, ◌∙◌, ◌⊎◌, ◌==◌, ◌+◌, ◌<◌, ◌≤◌, ◌++◌, inl, inr, Bool, true, false, Option, Some, Ok, List, [], ◌∷◌}
use Rattle.std.proofs.Common.{sym, ap, subst, arith}
use Rattle.std.specs.Prelude.{Contains}
use Rattle.std.proofs.lemmas.Bool.Decides.{eqb_tells}
use Rattle.model.specs.declared.capabilities.Cap.TheVariants.{Notification}
use Rattle.model.specs.declared.events.Event.{Event}
use Rattle.model.specs.declared.events.Event.TheVariants.{Step}
use Rattle.model.specs.declared.instructions.Instr.{Instr}
use Rattle.model.specs.declared.labels.Label.{Label}
use Rattle.model.specs.declared.rights.Rights.{Rights}
use Rattle.model.specs.Acceptance.Accepted.{IsAccepted}
use Rattle.model.specs.Acceptance.Authority.{StaysWithin, computed}
use Rattle.model.specs.Acceptance.CallRules.{AfterCall}
use Rattle.model.specs.Acceptance.NotedStates.{PointState}
use Rattle.model.specs.Acceptance.ThreadInvariants.{tcb_of}
use Rattle.model.specs.Capabilities.Slots.{capability_at}
use Rattle.model.specs.Images.Described.{Numbered, described, numbered_threads}
use Rattle.model.specs.Images.Image.{Image}
use Rattle.model.specs.Kernel.AddressSpaces.{content_of}
use Rattle.model.specs.Kernel.Interrupts.{binding}
use Rattle.model.specs.Kernel.Kinds.{object_named}
use Rattle.model.specs.Kernel.Retype.{NewNotification}
use Rattle.model.specs.Kernel.Scheduling.{current, is_runnable}
use Rattle.model.specs.Kernel.State.{NotificationObject, NotificationState, Object, State, ThreadObject, ThreadState, notification_at, thread_at}
use Rattle.model.specs.Kernel.Steps.{memory_base, named_slot, registers_of, state_after, step, system_call, trace}
use Rattle.model.specs.Kernel.Waits.{is_fault, open_count}
use Rattle.model.specs.Machine.Effects.{effect}
use Rattle.soundness.proofs.Laws.{notification-kind}
use Rattle.headline.proofs.Laws.{call-leaves, state-next, trace-next}
use Rattle.headline.specs.facts.Standing.{AllStand}
use Rattle.headline.specs.invocations.Laws.{AnyStepGoesWell, Laws}
use Rattle.headline.specs.moves.Moving.{CallsAt}
use Rattle.headline.specs.moves.Steps.{GoesWell, MakesCall}
use Rattle.headline.specs.steps.Points.{ReachesNoCall}
use Rattle.response.specs.Asking.{Takes}
use Rattle.response.specs.Laws.{RingsFit, WaitsToTake}
use Rattle.response.specs.Left.{at_rest, irq_lines, left}
use Rattle.response.specs.Levels.{is_of_level}
use Rattle.response.specs.Weights.{Pays, Weights, waits_for_no_message}
use Rattle.response.proofs.AskedNow.{asked_now}
use Rattle.response.proofs.AtBells.{WaitsForNoMessage}
use Rattle.response.proofs.BelowRests.{call-rests}
use Rattle.response.proofs.CallLabels.{called-is, called-label, others-count, own-count}
use Rattle.response.proofs.Interrupts.{put-at, put-off, thread-of, word-of}
use Rattle.response.proofs.LevelCalls.{call-falls}
use Rattle.response.proofs.NamedNow.{asks-so}
use Rattle.response.proofs.OwnAuthority.{OwnAuthority, own-authority}
use Rattle.response.proofs.OwnSteps.{bells-apart, goes-on}
use Rattle.response.proofs.Stage.{rest-left}
use Rattle.response.proofs.Taken.{call-takes}

module _ (laws : Laws) (steps : AnyStepGoesWell) (told : (a b : ThreadState) → (a ≡ b) ⊎ (a ≢ b)) (bytes : List ℕ) (image : Image)
    (accepted : IsAccepted bytes image) (priority : ℕ) (w : Weights) (pays : Pays image priority w)
    (quiet : (u : Numbered) → Contains (numbered_threads image) u → is_of_level priority u ≡ true → WaitsForNoMessage image u) (s : State) (labels : List Label)
    (all : AllStand image s labels) (stay : StaysWithin image s Step (step s Step).0)
    (takes : (u : Numbered) (queue : ℕ) (n : NotificationState) (others : List ℕ) → Contains (numbered_threads image) u
    → s.objects queue ≡ Some (NotificationObject n) → n.waiters ≡ tcb_of image u ∷ others → WaitsToTake image u s labels queue)
    (bound : (number : ℕ) → number < 64 → binding (step s Step).0 number ≡ binding s number)
    (t : Numbered) (listed : Contains (numbered_threads image) t) (now : current s ≡ Some (tcb_of image t)) where
  abbrev tcb : ℕ
  tcb = tcb_of image t

  abbrev after : State
  after = (step s Step).0

  abbrev later : List Label
  later = labels ++ (step s Step).1 ∷ []

  well : GoesWell image s labels Step
  well = steps bytes image s labels accepted all

  own : OwnAuthority image t s after
  own = own-authority bytes image accepted laws.below.own_blocks t listed s after now stay

  -- ---- a system call

  module _ (makes : MakesCall s (tcb_of image t)) where
    counts : (thread : ℕ) → thread ≢ tcb → open_count thread later ≡ open_count thread labels
    counts = others-count image s labels t now makes

    after-is : after ≡ (system_call s tcb).0
    after-is = called-is image s labels t now makes

    module _ (mine : ThreadState) (point : ℕ) (state : PointState) (answer : AfterCall) (at : CallsAt image t s labels mine point state answer) where
      none : is_of_level priority t ≡ true → waits_for_no_message (asked_now s tcb) ≡ true
      none level =
          sym (ap waits_for_no_message (asks-so laws.below bytes image s labels accepted t listed mine point state answer at))
          ∙ quiet t listed level point state at.stands.inside at.stands.known

      notes : (slot o : ℕ) (r : Rights) (badge : ℕ) → named_slot s tcb ≡ Ok slot → capability_at s.slots slot ≡ Notification o r badge
          → (n : NotificationState) × (s.objects o ≡ Some (NotificationObject n))
      notes slot o r badge named is = notification-kind (s.objects o) (all.sound.memory.named slot NewNotification o (ap object_named is))

      taken : (o : ℕ) → asked_now s tcb ≡ Takes o → is_runnable (thread_at after tcb).status ≡ true
          → ((notification_at s o).word == 0 ≡ false) × (word-of (after.objects o) ≡ 0)
      taken o asks runs =
          let both = call-takes s tcb mine at.there at.status (memory_base + tcb) (registers_of s tcb).pc
          (bells-apart laws bytes image s labels accepted all t listed mine at.there at.status) notes o asks
          (sym (ap is_fault (called-label image s labels t now makes)) ∙ well.faults) (sym (ap (λ (x : State). is_runnable (thread_at x tcb).status)
          after-is) ∙ runs) in
          (both.0, ap (λ (x : State). word-of (x.objects o)) after-is ∙ both.1)

      falls-at : is_of_level priority t ≡ true → open_count tcb labels + 1 ≤ t.thread.header.budget
          → left image priority w after later + 1 ≤ left image priority w s labels
      falls-at level spent =
          call-falls laws.below bytes image accepted priority w pays s after labels later all well.stands told t listed own.within quiet takes counts bound
          level mine point state answer at (own-count image s labels t now makes mine point state answer at)
          (goes-on laws bytes image s labels accepted all t listed mine at.there at.status now makes (none level) well.faults) taken spent

    pub falls-so : is_of_level priority t ≡ true → open_count (tcb_of image t) labels + 1 ≤ t.thread.header.budget
        → left image priority w (step s Step).0 (labels ++ (step s Step).1 ∷ []) + 1 ≤ left image priority w s labels
    falls-so level spent =
        call-leaves laws.below bytes image t s labels accepted all listed now makes
        (λ _. left image priority w after later + 1 ≤ left image priority w s labels)
        (λ mine point state answer call at _ _ rule. falls-at mine point state answer at level spent)

  -- ---- a step of a thread below

  module _ (described_so : (number : ℕ) → Contains irq_lines number → binding s number ≡ binding (described image) number)
      (below : is_of_level priority t ≡ false)
      (rests : (u : Numbered) → Contains (numbered_threads image) u → is_of_level priority u ≡ true
      → is_runnable (thread_at s (tcb_of image u)).status ≡ true → ⊥) (is_taken : ℕ → Bool)
      (taken : (queue : ℕ) (n : NotificationState) → is_taken queue ≡ true → s.objects queue ≡ Some (NotificationObject n) → n.word ≡ 0)
      (is_open : ℕ → Bool)
      (silent : (number : ℕ) → Contains irq_lines number → is_open number ≡ true → s.pending number ≡ false)
      (most : ℕ) (fit : RingsFit image priority w is_taken is_open most) (rest : at_rest image w is_taken is_open ≤ most) where
    pub call-below : MakesCall s (tcb_of image t) → left image priority w (step s Step).0 (labels ++ (step s Step).1 ∷ []) ≤ most
    call-below makes =
        call-leaves laws.below bytes image t s labels accepted all listed now makes (λ _. left image priority w after later ≤ most)
        (λ mine point state answer call at _ _ rule.
        call-rests laws.below bytes image accepted priority w pays s after labels later all well.stands told t listed own.within quiet takes (counts makes)
        bound described_so below rests is_taken taken is_open silent mine point state answer at most fit rest)

    -- an instruction changes the thread's registers, and bytes
    module _ (instruction : Instr) where
      abbrev moved : State
      moved = computed s (tcb_of image t) instruction

      abbrev new : ThreadState
      new = record (thread_at s (tcb_of image t)) {
        registers = (effect (registers_of s (tcb_of image t)) (content_of s (tcb_of image t)) instruction).registers;
      }

      other-thread : (u : Numbered) → Contains (numbered_threads image) u → is_of_level priority u ≡ true → tcb_of image u ≢ tcb
      other-thread u among level same =
          let clash : false ≡ true = sym below ∙ ap (is_of_level priority) (sym (laws.below.own_blocks bytes image u t accepted among listed same)) ∙ level in
          absurd cc

      still-rests : (u : Numbered) → Contains (numbered_threads image) u → is_of_level priority u ≡ true
          → is_runnable (thread_at moved (tcb_of image u)).status ≡ true → ⊥
      still-rests u among level runs =
          rests u among level (sym (ap (λ (o : Option Object). is_runnable (thread-of o).status)
          (put-off s.objects tcb (tcb_of image u) (Some (ThreadObject new)) (other-thread u among level))) ∙ runs)

      still-taken : (queue : ℕ) (n : NotificationState) → is_taken queue ≡ true → moved.objects queue ≡ Some (NotificationObject n) → n.word ≡ 0
      still-taken queue n here is = elim (eqb_tells queue tcb) [
        | inl self ↦ absurd (let clash : Some (ThreadObject new) ≡ Some (NotificationObject n) = sym (put-at s.objects tcb (Some (ThreadObject new)))
            ∙ ap moved.objects (sym self.1) ∙ is in cc)
        | inr apart ↦ taken queue n here (sym (put-off s.objects tcb queue (Some (ThreadObject new)) apart.1) ∙ is)
      ]

      moved-rests : left image priority w moved later ≤ at_rest image w is_taken is_open
      moved-rests = rest-left image priority w moved later still-rests described_so is_taken still-taken is_open silent

    pub plain-below : ReachesNoCall s (tcb_of image t) → left image priority w (step s Step).0 (labels ++ (step s Step).1 ∷ []) ≤ most
    plain-below free =
        let alone = own.plain (λ makes. free makes.word makes.fetched makes.call) in
        let less = moved-rests alone.instruction in
        subst (λ (x : State). left image priority w x later ≤ most) (sym alone.is) (omega (arith, less, rest))

-- ---- after events

pub one-more-falls : (image : Image) (priority : ℕ) (w : Weights) (events : List Event)
    → left image priority w (step (state_after (described image) events) Step).0
    (trace (described image) events ++ (step (state_after (described image) events) Step).1 ∷ []) + 1
    ≤ left image priority w (state_after (described image) events) (trace (described image) events)
    → left image priority w (state_after (described image) (events ++ Step ∷ [])) (trace (described image) (events ++ Step ∷ [])) + 1
    ≤ left image priority w (state_after (described image) events) (trace (described image) events)
one-more-falls image priority w events falls =
    let s = state_after (described image) events in
    let labels = trace (described image) events in
    let one = subst (λ (x : State). left image priority w x (labels ++ (step s Step).1 ∷ []) + 1 ≤ left image priority w s labels)
    (sym (state-next (described image) events Step)) falls in
    subst (λ (l : List Label). left image priority w (state_after (described image) (events ++ Step ∷ [])) l + 1 ≤ left image priority w s labels)
    (sym (trace-next (described image) events Step)) one

pub one-more-rests : (image : Image) (priority : ℕ) (w : Weights) (events : List Event) (most : ℕ)
    → left image priority w (step (state_after (described image) events) Step).0
    (trace (described image) events ++ (step (state_after (described image) events) Step).1 ∷ []) ≤ most
    → left image priority w (state_after (described image) (events ++ Step ∷ [])) (trace (described image) (events ++ Step ∷ [])) ≤ most
one-more-rests image priority w events most less =
    let s = state_after (described image) events in
    let labels = trace (described image) events in
    let one = subst (λ (x : State). left image priority w x (labels ++ (step s Step).1 ∷ []) ≤ most)
    (sym (state-next (described image) events Step)) less in
    subst (λ (l : List Label). left image priority w (state_after (described image) (events ++ Step ∷ [])) l ≤ most)
    (sym (trace-next (described image) events Step)) one
