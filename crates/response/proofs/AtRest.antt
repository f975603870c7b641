-- A thread that takes from one notification alone waits there where it does not run: so the notification has no word.
use Rattle.std.proofs.Common.{ℕ, ◌≡◌, ◌∙◌, inl, inr, Bool, true, false, if◌then◌else◌, Option, Some, Result, Ok, List, [], ◌∷◌, refl, sym, ap, subst}
use Rattle.std.proofs.Common.{arith}
use Rattle.std.specs.Prelude.{Contains}
use Rattle.std.specs.Option.{option_map_or}
use Rattle.std.proofs.lemmas.Bool.{eq-eqb}
use Rattle.model.specs.declared.capabilities.Cap.{Cap}
use Rattle.model.specs.declared.capabilities.Cap.TheVariants.{Notification}
use Rattle.model.specs.declared.instructions.Instr.{Instr}
use Rattle.model.specs.declared.instructions.Instr.TheVariants.{Ecall}
use Rattle.model.specs.declared.instructions.Register.{Register}
use Rattle.model.specs.declared.labels.Label.{Label}
use Rattle.model.specs.declared.lookup_failures.LookupFailure.{LookupFailure}
use Rattle.model.specs.declared.ranges.Range.{Range}
use Rattle.model.specs.Acceptance.Accepted.{IsAccepted}
use Rattle.model.specs.Acceptance.CallRules.{AfterCall, message_registers}
use Rattle.model.specs.Acceptance.NotedKernel.{noted_kernel, noted_root}
use Rattle.model.specs.Acceptance.NotedStates.{PointState}
use Rattle.model.specs.Acceptance.PointStates.{instruction_at, point_of}
use Rattle.model.specs.Acceptance.Ranges.{range_of}
use Rattle.model.specs.Acceptance.ThreadInvariants.{IsWaiting, StandsAt, ThreadInvariant, WaitsThere, runs, tcb_of, waits}
use Rattle.model.specs.Capabilities.Lookup.{called_slot}
use Rattle.model.specs.Images.Described.{Numbered, numbered_threads}
use Rattle.model.specs.Images.Image.{Image}
use Rattle.model.specs.Kernel.Kinds.{Names}
use Rattle.model.specs.Kernel.Messages.{a0, a7}
use Rattle.model.specs.Kernel.Retype.{NewEndpoint, NewNotification, NewObject}
use Rattle.model.specs.Kernel.Scheduling.{is_runnable}
use Rattle.model.specs.Kernel.Soundness.{is_blocked_on, waiting_at, waits_at}
use Rattle.model.specs.Kernel.State.{AwaitsHandler, AwaitsReply, Blocked, Inactive, NotificationObject, NotificationState, Object, Runnable, State, Status}
use Rattle.model.specs.Kernel.State.{ThreadObject}
use Rattle.model.specs.Kernel.State.{ThreadState, as_thread, thread_at}
use Rattle.model.specs.Kernel.Steps.{call_of}
use Rattle.model.specs.Shared.Lists.{times_in}
use Rattle.headline.proofs.Laws.{at-place}
use Rattle.headline.specs.facts.Standing.{AllStand}
use Rattle.headline.specs.facts.Waiting.{QueuesSo, WaitsSo, behind_reply}
use Rattle.headline.specs.moves.Laws.{Laws}
use Rattle.response.specs.Asking.{Takes, asked_at, asked_known, asked_of, capability_found, capability_named}
use Rattle.model.specs.Kernel.Waits.{open_count}
use Rattle.response.specs.Laws.{WaitsToTake}
use Rattle.response.specs.Resting.{TakesFromOne}
use Rattle.response.specs.Weights.{waits_for_no_message}
use Rattle.response.proofs.Sole.{TakesWord, sole-takes}
use Rattle.response.proofs.Waiting.{one-left}

pub asked-is : (image : Image) (t : Numbered) (point : ℕ) (state : PointState) → instruction_at t.thread point ≡ Some Ecall
    → asked_at image t.thread point state ≡ asked_known (call_of (range_of state.ranges a7).low) (capability_named image t.thread state)
unfolding asked_at
asked-is image t point state ecall = ap (λ (o : Option Instr). asked_of image t.thread state o) ecall

module _ (laws : Laws) (bytes : List ℕ) (image : Image) (s : State) (labels : List Label) (accepted : IsAccepted bytes image) (all : AllStand image s labels)
    (t : Numbered) (listed : Contains (numbered_threads image) t) (queue : ℕ) (one : TakesFromOne image t queue) where
  module _ (own : ThreadState) (point : ℕ) (state : PointState) (there : s.objects (tcb_of image t) ≡ Some (ThreadObject own))
      (stands : StandsAt image t s own point state) (asks : WaitsThere image t point state) (none : open_count (tcb_of image t) labels ≡ 0) where
    abbrev left : AfterCall
    left = asks.1.0

    takes : TakesWord image t.thread (point_of t point) state asks.1.0 asks.1.2 laws.receives laws.sends laws.others
        (asked_known (call_of (range_of state.ranges a7).low) (capability_named image t.thread state))
    takes =
        let allowed = laws.allowed bytes image t point state accepted listed stands.inside stands.known asks.0 in
        sole-takes image t.thread (point_of t point) state asks.1.0 asks.1.2 laws.receives laws.sends laws.others
        (allowed.is ∙ ap (λ (a : AfterCall). Ok a) (one-left (sym allowed.at ∙ asks.1.1)))
        (sym (ap waits_for_no_message (asked-is image t point state asks.0)) ∙ (one point state stands.inside stands.known).0)

    its-own : TakesWord.offset takes ≡ queue
    its-own = (one point state stands.inside stands.known).1 (TakesWord.offset takes) (asked-is image t point state asks.0 ∙ TakesWord.takes takes)

    -- it is in the queue of what it names
    in-queue : (other : ℕ) → QueuesSo image t s state asks.1.0 other → other ≡ queue
    in-queue other so =
        let held : so.capability ≡ Notification (TakesWord.offset takes) (TakesWord.rights takes) (TakesWord.badge takes) =
        sym (ap (λ (r : Range). capability_found (noted_kernel image t.thread state.slots).slots
        (called_slot (noted_kernel image t.thread state.slots).slots (noted_root image t.thread) r.low)) so.named.known
        ∙ ap (λ (r : Result ℕ LookupFailure). capability_found (noted_kernel image t.thread state.slots).slots r) so.named.found ∙ so.named.is)
        ∙ TakesWord.named takes in
        elim so.leads [
          | inl endpoint ↦ absurd (
              let clash : Some (NewNotification, TakesWord.offset takes) ≡ Some (NewEndpoint, other) = subst (λ
              (c : Cap). Names NewEndpoint other c) held endpoint in
              let pair : (NewNotification, TakesWord.offset takes) ≡ (NewEndpoint, other) = cc in
              let kinds : NewNotification ≡ NewEndpoint = ap (λ (p : NewObject × ℕ). p.0) pair in cc)
          | inr bell ↦ (
              let same : Some (NewNotification, TakesWord.offset takes) ≡ Some (NewNotification, other) = subst (λ
              (c : Cap). Names NewNotification other c) held bell in
              let pair : (NewNotification, TakesWord.offset takes) ≡ (NewNotification, other) = cc in
              sym (ap (λ (p : NewObject × ℕ). p.1) pair) ∙ its-own)
        ]

    no-reply : asks.1.0 ≡ behind_reply state → ⊥
    no-reply is_reply =
        let clash : ◌≡◌ {A = List Register} (a0 ∷ []) message_registers =
        ap (λ (a : AfterCall). a.written) (sym (TakesWord.answer takes)) ∙ ap (λ (a : AfterCall). a.written) is_reply in absurd cc

    by-status : (status : Status) → own.status ≡ status → WaitsSo image t s state asks.1.0 status → IsWaiting status → WaitsToTake image t s labels queue
    by-status Inactive so never waiting = absurd never
    by-status Runnable so never waiting = absurd waiting
    by-status (Blocked other) so queued waiting = record {
      own = own;
      there = there;
      status = so ∙ ap Blocked (in-queue other queued);
      point = point;
      state = state;
      stands = stands;
      ecall = asks.0;
      left = left;
      call = asks.1.1;
      asks = asked-is image t point state asks.0 ∙ TakesWord.takes takes ∙ ap Takes its-own;
      none = none;
    }
    by-status AwaitsReply so reply waiting = absurd (no-reply reply)
    by-status AwaitsHandler so never waiting = absurd never

  by-invariant : is_runnable (thread_at s (tcb_of image t)).status ≡ false → ThreadInvariant image t s labels → WaitsToTake image t s labels queue
  by-invariant rests (runs own point state there status stands budget) =
      absurd (let clash : false ≡ true = sym rests ∙ ap (λ (u : ThreadState). is_runnable u.status) (at-place s (tcb_of image t) own there)
      ∙ ap is_runnable status in cc)
  by-invariant rests (waits own point state there status stands asks none) =
      by-status own point state there stands asks none own.status refl
      (all.wait t listed own point state asks.1.0 there stands.inside stands.pc stands.known asks.1.1) status

  -- where it does not run it waits there
  pub rests-to-take : is_runnable (thread_at s (tcb_of image t)).status ≡ false → WaitsToTake image t s labels queue
  rests-to-take rests = by-invariant rests (all.stand t listed)

  module _ (n : NotificationState) (is : s.objects queue ≡ Some (NotificationObject n)) where
    -- it is among those who wait there
    pub counts : WaitsToTake image t s labels queue → times_in n.waiters (tcb_of image t) ≡ 1
    counts w =
        let waits_here : waits_at s (tcb_of image t) queue ≡ true =
        ap (λ (o : Option Object). option_map_or (λ u. is_blocked_on queue u.status) (as_thread o) false) w.there
        ∙ ap (is_blocked_on queue) w.status ∙ eq-eqb queue queue refl in
        let law = all.sound.threads.queued (tcb_of image t) queue in
        ap (λ (l : List ℕ). times_in l (tcb_of image t)) (sym (ap waiting_at is)) ∙ law ∙ ap (λ (b : Bool). if b then 1 else 0) waits_here

    pub some-wait : WaitsToTake image t s labels queue → n.waiters ≡ [] → ⊥
    some-wait w nobody =
        let one_there = counts w in
        let none : times_in n.waiters (tcb_of image t) ≡ 0 = ap (λ (l : List ℕ). times_in l (tcb_of image t)) nobody in
        omega (arith, one_there, none)

    pub no-word : is_runnable (thread_at s (tcb_of image t)).status ≡ false → n.word ≡ 0
    no-word rests = elim (all.sound.threads.idle queue n is) [
      | inl nobody ↦ absurd (some-wait (rests-to-take rests) nobody)
      | inr none ↦ none
    ]
