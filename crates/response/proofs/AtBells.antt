-- A thread that waits for no message: where it does not run it waits in the queue of a notification. So nobody but a signal
-- wakes it, by what a step of another thread may change.
use Rattle.std.proofs.Common.{ℕ, ◌≡◌, ◌≢◌, ◌∙◌, ◌⊎◌, ◌<◌, inl, inr, true, false, Option, Some, None, option_map, Ok, List, [], ◌∷◌, refl}
use Rattle.std.proofs.Common.{sym, ap, subst, arith}
use Rattle.std.specs.Prelude.{Contains}
use Rattle.std.specs.Option.{option_map_or}
use Rattle.model.specs.declared.capabilities.Cap.{Cap}
use Rattle.model.specs.declared.capabilities.Cap.TheVariants.{Empty}
use Rattle.model.specs.declared.instructions.Register.{Register}
use Rattle.model.specs.declared.labels.Label.{Label}
use Rattle.model.specs.declared.slot_entries.Entry.{Entry}
use Rattle.model.specs.Acceptance.Accepted.{IsAccepted}
use Rattle.model.specs.Acceptance.Authority.{CallNames, WithinAuthority, self_of}
use Rattle.model.specs.Acceptance.CallRules.{AfterCall, message_registers}
use Rattle.model.specs.Acceptance.NotedStates.{PointState}
use Rattle.model.specs.Acceptance.PointStates.{Known, call_at, noted, point_of}
use Rattle.model.specs.Acceptance.Ranges.{range_of}
use Rattle.model.specs.Acceptance.ThreadInvariants.{IsWaiting, StandsAt, ThreadInvariant, WaitsThere, runs, tcb_of, waits}
use Rattle.model.specs.Capabilities.Slots.{capability_at}
use Rattle.model.specs.Images.Described.{Numbered, numbered_threads}
use Rattle.model.specs.Images.Image.{Image}
use Rattle.model.specs.Kernel.Deliveries.{Reason, Signals, TakesReceiver, TakesSender, TakesWaiter, caller, faulted, receiver, sender, set_back, waiter, woken}
use Rattle.model.specs.Kernel.Kinds.{Names, kind_at, kind_of}
use Rattle.model.specs.Kernel.Messages.{a0, a7}
use Rattle.model.specs.Kernel.Retype.{NewEndpoint, NewNotification, NewObject}
use Rattle.model.specs.Kernel.Scheduling.{is_runnable}
use Rattle.model.specs.Kernel.State.{AwaitsHandler, AwaitsReply, Blocked, EndpointState, Inactive, Object, Runnable, Sender, State, Status}
use Rattle.model.specs.Kernel.State.{ThreadObject, ThreadState, as_endpoint, endpoint_at, new_endpoint}
use Rattle.model.specs.Kernel.Steps.{call_of}
use Rattle.model.specs.Machine.Effects.{advanced}
use Rattle.model.specs.Machine.ProgramMemory.{write}
use Rattle.soundness.proofs.Laws.{endpoint-kind}
use Rattle.headline.proofs.Laws.{held-there, one-owner}
use Rattle.headline.specs.facts.Standing.{AllStand}
use Rattle.headline.specs.facts.Waiting.{NamesQueue, QueuesSo, SendsAs, WaitsSo, behind_reply, behind_signal}
use Rattle.headline.specs.moves.Laws.{Laws}
use Rattle.response.specs.Asking.{asked_at, asked_known, capability_named}
use Rattle.response.specs.Weights.{waits_for_no_message}
use Rattle.response.proofs.AtRest.{asked-is}
use Rattle.response.proofs.Sole.{TakesWord, sole-takes}
use Rattle.response.proofs.Waiting.{one-left, same-thread}

-- no point of the thread waits for a message
abbrev pub WaitsForNoMessage : Image → Numbered → Type 0
WaitsForNoMessage image t =
    (point : ℕ) (state : PointState) → point < t.thread.header.words → noted image t point ≡ Known state
    → waits_for_no_message (asked_at image t.thread point state) ≡ true

-- it waits in a queue, and a word is what it waits for
pub record WaitsAtBell (image : Image) (t : Numbered) (s : State) (own : ThreadState) : Type 0 where
  pub queue : ℕ
  pub status : own.status ≡ Blocked queue
  pub point : ℕ
  pub state : PointState
  pub left : AfterCall
  pub stands : StandsAt image t s own point state
  pub call : call_at image t point state ≡ Some (Ok left)
  pub answer : left ≡ behind_signal state
  pub so : QueuesSo image t s state left queue

module _ (laws : Laws) (bytes : List ℕ) (image : Image) (s : State) (labels : List Label) (accepted : IsAccepted bytes image) (all : AllStand image s labels)
    (t : Numbered) (listed : Contains (numbered_threads image) t) (quiet : WaitsForNoMessage image t) where
  module _ (own : ThreadState) (point : ℕ) (state : PointState) (stands : StandsAt image t s own point state) (asks : WaitsThere image t point state) where
    takes : TakesWord image t.thread (point_of t point) state asks.1.0 asks.1.2 laws.receives laws.sends laws.others
        (asked_known (call_of (range_of state.ranges a7).low) (capability_named image t.thread state))
    takes =
        let allowed = laws.allowed bytes image t point state accepted listed stands.inside stands.known asks.0 in
        sole-takes image t.thread (point_of t point) state asks.1.0 asks.1.2 laws.receives laws.sends laws.others
        (allowed.is ∙ ap (λ (a : AfterCall). Ok a) (one-left (sym allowed.at ∙ asks.1.1)))
        (sym (ap waits_for_no_message (asked-is image t point state asks.0)) ∙ quiet point state stands.inside stands.known)

    no-reply : asks.1.0 ≡ behind_reply state → ⊥
    no-reply is_reply =
        let clash : ◌≡◌ {A = List Register} (a0 ∷ []) message_registers =
        ap (λ (a : AfterCall). a.written) (sym (TakesWord.answer takes)) ∙ ap (λ (a : AfterCall). a.written) is_reply in absurd cc

    by-status : (status : Status) → own.status ≡ status → WaitsSo image t s state asks.1.0 status → IsWaiting status → WaitsAtBell image t s own
    by-status Inactive so none waiting = absurd none
    by-status Runnable so none waiting = absurd waiting
    by-status (Blocked queue) so queued waiting = record {
      queue = queue;
      status = so;
      point = point;
      state = state;
      left = asks.1.0;
      stands = stands;
      call = asks.1.1;
      answer = TakesWord.answer takes;
      so = queued;
    }
    by-status AwaitsReply so reply waiting = absurd (no-reply reply)
    by-status AwaitsHandler so none waiting = absurd none

  by-invariant : (own : ThreadState) → s.objects (tcb_of image t) ≡ Some (ThreadObject own) → is_runnable own.status ≡ false
      → ThreadInvariant image t s labels → WaitsAtBell image t s own
  by-invariant own there rests (runs other point state is status stands budget) =
      absurd (let clash : false ≡ true = sym rests ∙ ap (λ (u : ThreadState). is_runnable u.status)
      (same-thread (s.objects (tcb_of image t)) own other there is) ∙ ap is_runnable status in cc)
  by-invariant own there rests (waits other point state is status stands asks none) =
      subst (λ (u : ThreadState). WaitsAtBell image t s u) (same-thread (s.objects (tcb_of image t)) other own is there)
      (by-status other point state stands asks other.status refl
      (all.wait t listed other point state asks.1.0 is stands.inside stands.pc stands.known asks.1.1) status)

  pub waits-at-bell : (own : ThreadState) → s.objects (tcb_of image t) ≡ Some (ThreadObject own) → is_runnable own.status ≡ false
      → WaitsAtBell image t s own
  waits-at-bell own there rests = by-invariant own there rests (all.stand t listed)

-- ---- a step of another thread

-- the thread is as it was, or the first waiter of a notification that the step signals
pub data LeftAs (image : Image) (t u : Numbered) (s after : State) : Type 0 where
  as_before : after.objects (tcb_of image u) ≡ s.objects (tcb_of image u) → LeftAs image t u s after
  rung : (o badge : ℕ) (before : ThreadState) → TakesWaiter s after o (tcb_of image u) → CallNames image t.thread s (Signals s after o badge)
      → s.objects (tcb_of image u) ≡ Some (ThreadObject before)
      → after.objects (tcb_of image u) ≡ Some (ThreadObject (woken before (advanced (write before.registers a0 badge)))) → LeftAs image t u s after

pub there-is : (image : Image) (t : Numbered) (s : State) (labels : List Label) → ThreadInvariant image t s labels
    → (own : ThreadState) × (s.objects (tcb_of image t) ≡ Some (ThreadObject own))
there-is image t s labels (runs own point state there status stands budget) = (own, there)
there-is image t s labels (waits own point state there status stands asks none) = (own, there)

one-queue : {a b : ℕ} → Blocked a ≡ Blocked b → a ≡ b
one-queue both = cc

module _ (laws : Laws) (bytes : List ℕ) (image : Image) (s after : State) (labels later : List Label) (accepted : IsAccepted bytes image)
    (all : AllStand image s labels) (behind : AllStand image after later) (told : (a b : ThreadState) → (a ≡ b) ⊎ (a ≢ b)) (t : Numbered)
    (running : Contains (numbered_threads image) t) (within : WithinAuthority image t.thread s after) (u : Numbered)
    (listed : Contains (numbered_threads image) u) (quiet : WaitsForNoMessage image u) (other : tcb_of image u ≢ tcb_of image t) where
  module _ (before : ThreadState) (was : s.objects (tcb_of image u) ≡ Some (ThreadObject before)) (w : WaitsAtBell image u s before) where
    not-written : (xs : List Register) → w.left.written ≡ xs → (a0 ∷ [] ≡ xs → ⊥) → ⊥
    not-written xs is differs = differs (sym (ap (λ (a : AfterCall). a.written) w.answer) ∙ is)

    no-answer : w.left ≡ behind_reply w.state → ⊥
    no-answer is = not-written message_registers (ap (λ (a : AfterCall). a.written) is) (λ clash. absurd cc)

    here : (queue : ℕ) → before.status ≡ Blocked queue → w.queue ≡ queue
    here queue blocked = one-queue (sym w.status ∙ blocked)

    no-receiver : (endpoint : ℕ) → before.status ≡ Blocked endpoint → TakesReceiver s after endpoint (tcb_of image u) → ⊥
    no-receiver endpoint blocked takes =
        let found = endpoint-kind (s.objects endpoint) takes.was in
        let first : found.0.receivers ≡ tcb_of image u ∷ (endpoint_at after endpoint).receivers =
        sym (ap (λ (o : Option Object). (option_map_or (λ (e : EndpointState). e) (as_endpoint o) new_endpoint).receivers) found.1) ∙ takes.leaves in
        let among : Contains found.0.receivers (tcb_of image u) =
        subst (λ (l : List ℕ). Contains l (tcb_of image u)) (sym first) (0, omega arith, refl) in
        not-written message_registers
        (ap (λ (a : AfterCall). a.written) (w.so.receives found.0 (ap s.objects (here endpoint blocked) ∙ found.1) among)) (λ clash. absurd cc)

    no-sent : (x : Sender) → SendsAs w.state w.left x → ⊥
    no-sent x (SendsAs.by_send sent is) = not-written [] (ap (λ (a : AfterCall). a.written) is) (λ clash. absurd cc)
    no-sent x (SendsAs.by_call sent grants is) = no-answer is

    no-sender : (endpoint : ℕ) (first : Sender) → before.status ≡ Blocked endpoint → TakesSender s after endpoint first → first.thread ≡ tcb_of image u → ⊥
    no-sender endpoint first blocked takes own =
        let found = endpoint-kind (s.objects endpoint) takes.was in
        let head : found.0.senders ≡ first ∷ (endpoint_at after endpoint).senders =
        sym (ap (λ (o : Option Object). (option_map_or (λ (e : EndpointState). e) (as_endpoint o) new_endpoint).senders) found.1) ∙ takes.leaves in
        let among : Contains found.0.senders first = subst (λ (l : List Sender). Contains l first) (sym head) (0, omega arith, refl) in
        no-sent first (w.so.sends found.0 first (ap s.objects (here endpoint blocked) ∙ found.1) among own).kind

    -- what it waits for has a capability in a slot of its own, which the step leaves
    no-end : (queue : ℕ) → before.status ≡ Blocked queue → after.objects queue ≡ None → ⊥
    no-end queue blocked gone =
        let held = held-there laws.holds laws.finds bytes image u s accepted listed before w.point w.state w.left w.stands w.call (NamesQueue w.queue)
        w.so.capability w.so.named w.so.leads in
        let mine = within.slots held.slot (λ same. still held.slot held.such (ap (λ (e : Option Entry). option_map_or (λ x. x.capability) e Empty) same)) in
        other (ap (tcb_of image) (one-owner image accepted.spelled.fits accepted.formed u t held.slot listed running held.own mine))
      where
        none-there : (kind : NewObject) → kind_at after w.queue ≡ Some kind → ⊥
        none-there kind is =
            let clash : ◌≡◌ {A = Option NewObject} None (Some kind) =
            sym (ap (option_map kind_of) (ap after.objects (here queue blocked) ∙ gone)) ∙ is in
            absurd cc

        still : (slot : ℕ) → NamesQueue w.queue (capability_at s.slots slot) → capability_at s.slots slot ≡ capability_at after.slots slot → ⊥
        still slot (inl endpoint) same =
            none-there NewEndpoint (behind.sound.memory.named slot NewEndpoint w.queue (subst (λ (c : Cap). Names NewEndpoint w.queue c) same endpoint))
        still slot (inr bell) same =
            none-there NewNotification (behind.sound.memory.named slot NewNotification w.queue (subst (λ (c : Cap). Names NewNotification w.queue c) same bell))

  module _ (before changed : ThreadState) (was : s.objects (tcb_of image u) ≡ Some (ThreadObject before))
      (is : after.objects (tcb_of image u) ≡ Some (ThreadObject changed)) where
    waiting : is_runnable before.status ≡ false → WaitsAtBell image u s before
    waiting rests = waits-at-bell laws bytes image s labels accepted all u listed quiet before was rests

    blocked-rests : (queue : ℕ) → before.status ≡ Blocked queue → is_runnable before.status ≡ false
    blocked-rests queue blocked = ap is_runnable blocked

    no-awaiting : (status : Status) → before.status ≡ status → is_runnable status ≡ false → ((queue : ℕ) → status ≡ Blocked queue → ⊥) → ⊥
    no-awaiting status at rests never = let w = waiting (ap is_runnable at ∙ rests) in never w.queue (sym at ∙ w.status)

    by-reason : Reason s after (self_of image t.thread) (CallNames image t.thread s) (tcb_of image u) before changed → LeftAs image t u s after
    by-reason (receiver endpoint badge right takes blocked named may so arrives) =
        absurd (no-receiver before was (waiting (blocked-rests endpoint blocked)) endpoint blocked takes)
    by-reason (sender endpoint first takes own blocked named so arrives) =
        absurd (no-sender before was (waiting (blocked-rests endpoint blocked)) endpoint first blocked takes own)
    by-reason (waiter o badge takes blocked named so) =
        rung o badge before takes named was (is ∙ ap (λ (x : ThreadState). Some (ThreadObject x)) so)
    by-reason (caller right awaits so arrives) = absurd (no-awaiting AwaitsReply awaits refl (λ queue clash. absurd cc))
    by-reason (faulted right awaits so) = absurd (no-awaiting AwaitsHandler awaits refl (λ queue clash. absurd cc))
    by-reason (set_back queue blocked some gone so) =
        absurd (no-end before was (waiting (blocked-rests queue blocked)) queue blocked gone)

    by-states : LeftAs image t u s after
    by-states = elim (told before changed) [
      | inl same ↦ as_before (is ∙ ap (λ (x : ThreadState). Some (ThreadObject x)) (sym same) ∙ sym was)
      | inr differs ↦ by-reason (within.threads (tcb_of image u) before changed other was is differs)
    ]

  pub left-as : LeftAs image t u s after
  left-as =
      let was = there-is image u s labels (all.stand u listed) in
      let is = there-is image u after later (behind.stand u listed) in
      by-states was.0 is.0 was.1 is.1
