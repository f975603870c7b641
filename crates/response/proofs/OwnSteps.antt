-- Where a thread is after its own step, if that makes a system call which waits for no message: at the next instruction, or it waits.
use Rattle.std.proofs.Common.{ℕ, ◌≡◌, ◌≢◌, ◌∙◌, ◌+◌, ◌++◌, ◌%◌, ◌^◌, map, inl, inr, true, false, if◌then◌else◌, Option, Some, None, Result, Ok, List, [], ◌∷◌}
use Rattle.std.proofs.Common.{refl}
use Rattle.std.proofs.Common.{sym, ap, subst}
use Rattle.std.specs.Prelude.{Contains, is_some}
use Rattle.std.specs.Option.{option_map_or}
use Rattle.model.specs.declared.capabilities.Cap.TheVariants.{Endpoint, Notification}
use Rattle.model.specs.declared.errors.KError.{KError}
use Rattle.model.specs.declared.events.Event.TheVariants.{Step}
use Rattle.model.specs.declared.invocations.CNodeCall.TheVariants.{Copy, Mint, Move, Mutate, Delete, Revoke}
use Rattle.model.specs.declared.invocations.FrameCall.TheVariants.{MapFrame, UnmapFrame}
use Rattle.model.specs.declared.invocations.HandlerCall.TheVariants.{Acknowledge, Clear, SetNotification}
use Rattle.model.specs.declared.invocations.Invocation.{Invocation}
use Rattle.model.specs.declared.invocations.Invocation.TheVariants.{OnUntyped, OnThread, OnCNode, OnFrame, OnTable, OnControl, OnHandler}
use Rattle.model.specs.declared.labels.Label.{Label}
use Rattle.model.specs.declared.labels.Label.TheVariants.{Idle, Ran}
use Rattle.model.specs.declared.rights.Rights.{Rights}
use Rattle.model.specs.declared.system_calls.SendCall.{SendCall}
use Rattle.model.specs.Acceptance.Accepted.{IsAccepted}
use Rattle.model.specs.Acceptance.CallRules.{AfterCall}
use Rattle.model.specs.Acceptance.NotedStates.{PointState}
use Rattle.model.specs.Acceptance.ThreadInvariants.{tcb_of}
use Rattle.model.specs.Capabilities.Slots.{capability_at}
use Rattle.model.specs.Images.Described.{Numbered, numbered_threads}
use Rattle.model.specs.Images.Image.{Image}
use Rattle.model.specs.Kernel.Interrupts.{Signal, acknowledge, binding, interrupt, with_pending}
use Rattle.model.specs.Kernel.Invocations.{perform}
use Rattle.model.specs.Kernel.Kinds.{object_named}
use Rattle.model.specs.Kernel.Messages.{passes}
use Rattle.model.specs.Kernel.Retype.{NewEndpoint, NewNotification}
use Rattle.model.specs.Kernel.Scheduling.{current, is_runnable}
use Rattle.model.specs.Kernel.Soundness.{waiting_at}
use Rattle.model.specs.Kernel.State.{Blocked, NotificationObject, NotificationState, Runnable, State, ThreadObject, ThreadState, as_thread, binding_slot}
use Rattle.model.specs.Kernel.State.{new_thread}
use Rattle.model.specs.Kernel.State.{EndpointObject, EndpointState, Object, Sender, as_endpoint, endpoint_at, new_endpoint, notification_at, put, thread_at}
use Rattle.model.specs.Kernel.Steps.{Done, answered, completed, memory_base, named_slot, ran, registers_of, runs, runs_decoded, runs_fetched, step, system_call}
use Rattle.model.specs.Kernel.Waits.{is_fault}
use Rattle.model.specs.Machine.Effects.{effect}
use Rattle.soundness.proofs.Laws.{endpoint-kind, notification-kind}
use Rattle.headline.proofs.Laws.{Waits, either-invokes, first-waits, invocation-leaves}
use Rattle.headline.specs.facts.Standing.{AllStand}
use Rattle.headline.specs.invocations.Invoking.{Invokes}
use Rattle.headline.specs.invocations.Laws.{Laws}
use Rattle.headline.specs.invocations.Mirrors.{Mirrors}
use Rattle.headline.specs.invocations.Performed.{InvokesWell, MayInvoke}
use Rattle.headline.specs.invocations.Running.{Runs}
use Rattle.headline.specs.moves.Moving.{CallsAt}
use Rattle.headline.specs.moves.Steps.{InvokesNothing, MakesCall}
use Rattle.response.specs.Weights.{waits_for_no_message}
use Rattle.response.proofs.AskedNow.{asked_now}
use Rattle.response.proofs.Interrupts.{names-bound}
use Rattle.response.proofs.OwnCalls.{OthersWait, answered-pc, call-goes-on, elsewhere-pc, passes-pc, pc_at, signals-there}
use Rattle.response.proofs.Rises.{waiters-of}
use Rattle.response.proofs.Waiting.{same-thread}
use Rattle.typestate.specs.Calls.{call_on}

-- ---- the step

module _ (s : State) (thread : ℕ) (now : current s ≡ Some thread) (makes : MakesCall s thread) where
  runs-so : runs s thread ≡ system_call s thread
  unfolding runs effect
  runs-so = ap (runs_fetched s thread) makes.fetched ∙ ap (runs_decoded s thread) makes.call

  -- a step that makes a system call does what that does, and its label says what came of it
  pub stepped : step s Step ≡ ((system_call s thread).0, Ran (memory_base + thread) (registers_of s thread).pc (system_call s thread).1)
  unfolding step
  stepped = ap (λ (o : Option ℕ). option_map_or (ran s) o (s, Idle)) now
      ∙ ap (λ (d : Done). let x : State × Label = (d.0, Ran (memory_base + thread) (registers_of s thread).pc d.1) in x) runs-so

-- ---- whoever waits is another one

refused : {A : Type 0} → false ≡ true → A
refused clash = absurd cc

module _ (laws : Laws) (bytes : List ℕ) (image : Image) (s : State) (labels : List Label) (accepted : IsAccepted bytes image) (all : AllStand image s labels)
    (t : Numbered) (listed : Contains (numbered_threads image) t) (own : ThreadState) (there : s.objects (tcb_of image t) ≡ Some (ThreadObject own))
    (status : own.status ≡ Runnable) where
  abbrev tcb : ℕ
  tcb = tcb_of image t

  waiter-apart : (o : ℕ) (n : NotificationState) → s.objects o ≡ Some (NotificationObject n) → (x : ℕ) (others : List ℕ)
      → (notification_at s o).waiters ≡ x ∷ others → tcb ≢ x
  waiter-apart o n is x others first same =
      let waits : Waits s x o = first-waits s all.sound o x others (ap waiting_at is ∙ sym (ap waiters-of is) ∙ first) in
      let alike : own ≡ waits.own = same-thread (s.objects x) own waits.own (ap s.objects (sym same) ∙ there) waits.is in
      let clash : Runnable ≡ Blocked o = sym status ∙ ap (λ (u : ThreadState). u.status) alike ∙ waits.blocked in
      absurd cc

  bell-apart : (o : ℕ) (n : NotificationState) → s.objects o ≡ Some (NotificationObject n)
      → (o ≢ tcb) × ((x : ℕ) (others : List ℕ) → (notification_at s o).waiters ≡ x ∷ others → tcb ≢ x)
  bell-apart o n is = (
    λ same. absurd (let clash : Some (NotificationObject n) ≡ Some (ThreadObject own) = sym is ∙ ap s.objects same ∙ there in cc),
    waiter-apart o n is,
  )

  pub bells-apart : (slot o : ℕ) (r : Rights) (badge : ℕ) → named_slot s (tcb_of image t) ≡ Ok slot → capability_at s.slots slot ≡ Notification o r badge
      → (o ≢ tcb_of image t) × ((x : ℕ) (others : List ℕ) → (notification_at s o).waiters ≡ x ∷ others → tcb_of image t ≢ x)
  bells-apart slot o r badge named is =
      let found = notification-kind (s.objects o) (all.sound.memory.named slot NewNotification o (ap object_named is)) in
      bell-apart o found.0 found.1

  -- so is whoever waits at an endpoint
  queued-apart : (e x : ℕ) (others : List ℕ) → waiting_at (s.objects e) ≡ x ∷ others → tcb ≢ x
  queued-apart e x others first same =
      let waits : Waits s x e = first-waits s all.sound e x others first in
      let alike : own ≡ waits.own = same-thread (s.objects x) own waits.own (ap s.objects (sym same) ∙ there) waits.is in
      let clash : Runnable ≡ Blocked e = sym status ∙ ap (λ (u : ThreadState). u.status) alike ∙ waits.blocked in
      absurd cc

  door-apart : (e : ℕ) (q : EndpointState) → s.objects e ≡ Some (EndpointObject q) → OthersWait s e tcb
  door-apart e q is = record {
    apart = λ same. absurd (let clash : Some (EndpointObject q) ≡ Some (ThreadObject own) = sym is ∙ ap s.objects same ∙ there in cc);
    receivers = λ y others first.
        let head : q.receivers ≡ y ∷ others = sym (ap (λ (u : EndpointState). u.receivers) at_q) ∙ first in
        queued-apart e y others (ap waiting_at is ∙ ap (λ (l : List Sender). map (λ (z : Sender). z.thread) l ++ q.receivers) (nobody y others head) ∙ head);
    senders = λ first others head.
        queued-apart e first.thread (map (λ (z : Sender). z.thread) others ++ q.receivers)
        (ap waiting_at is ∙ ap (λ (l : List Sender). map (λ (z : Sender). z.thread) l ++ q.receivers)
        (sym (ap (λ (u : EndpointState). u.senders) at_q) ∙ head));
  }
    where
      at_q : endpoint_at s e ≡ q
      at_q = ap (λ (o : Option Object). option_map_or (λ (u : EndpointState). u) (as_endpoint o) new_endpoint) is

      nobody : (y : ℕ) (others : List ℕ) → q.receivers ≡ y ∷ others → q.senders ≡ []
      nobody y others head = elim (all.sound.threads.one_sided e q is) [
        | inl none ↦ none
        | inr none ↦ absurd (let clash : ◌≡◌ {A = List ℕ} [] (y ∷ others) = sym none ∙ head in cc)
      ]

  pub doors-apart : (slot e : ℕ) (r : Rights) (badge : ℕ) → named_slot s tcb ≡ Ok slot → capability_at s.slots slot ≡ Endpoint e r badge → OthersWait s e tcb
  doors-apart slot e r badge named is =
      let found = endpoint-kind (s.objects e) (all.sound.memory.named slot NewEndpoint e (ap object_named is)) in
      door-apart e found.0 found.1

  -- ---- an invocation

  abbrev unmasked : ℕ → State
  unmasked line = record s { masked = put s.masked line false }

  abbrev cleared : ℕ → State
  cleared line = with_pending (unmasked line) line false

  -- an acknowledgement leaves the thread as it is
  acknowledged-there : (line : ℕ) → (acknowledge s line).objects tcb ≡ s.objects tcb
  acknowledged-there line =
      elim (s.pending line)
      as (λ b. (if b then option_map_or (interrupt (cleared line) line) (binding s line) (unmasked line) else unmasked line).objects tcb ≡ s.objects tcb) [
        | true ↦ by-binding (binding s line) refl
        | false ↦ refl
      ]
    where
      by-binding : (b : Option Signal) → binding s line ≡ b
          → (option_map_or (interrupt (cleared line) line) b (unmasked line)).objects tcb ≡ s.objects tcb
      by-binding None none = refl
      by-binding (Some bound) is =
          let o = bound.notification in
          let found = notification-kind (s.objects o) (all.sound.memory.named (binding_slot s line) NewNotification o
          (names-bound (capability_at s.slots (binding_slot s line)) bound is)) in
          let apart = bell-apart o found.0 found.1 in
          signals-there (cleared line) o bound.badge tcb (notification_at s o) (λ same. apart.0 (sym same)) (notification_at s o).waiters apart.1

  module _ (point : ℕ) (state : PointState) (left : AfterCall) (at : CallsAt image t s labels own point state left) (slot : ℕ) where
    mirrors : Mirrors image t s state.slots
    mirrors = laws.mirror bytes image t s labels own point state accepted listed all at.stands

    runs-on : Runs image t s
    runs-on other is =
        subst (λ (u : ThreadState). u.status ≡ Runnable) (same-thread (s.objects tcb) own other at.there is) at.status

    abbrev Performs : Invocation → State → Type 0
    Performs c after = perform s (call_on image t.thread slot (capability_at s.slots slot)) c ≡ Ok after

    by-changes : (c : Invocation) (m : MayInvoke image t s state.slots slot c) (after : State) → InvokesWell image t s slot c m.noted → Performs c after
        → after.objects tcb ≡ s.objects tcb
    by-changes c m after well made =
        let same : well.after ≡ after = (let e : ◌≡◌ {A = Result State KError} (Ok well.after) (Ok after) = sym well.performs ∙ made in cc) in
        ap (λ (x : State). x.objects tcb) (sym same) ∙ well.changes.threads tcb own at.there ∙ sym at.there

    -- so does whatever a program may invoke
    stays-there : (c : Invocation) → MayInvoke image t s state.slots slot c → (after : State) → Performs c after → after.objects tcb ≡ s.objects tcb
    stays-there (OnUntyped memory asked) m after made =
        by-changes (OnUntyped memory asked) m after (laws.retypes image t s state.slots slot memory asked mirrors m) made
    stays-there (OnCNode (Copy destination source word)) m after made =
        by-changes (OnCNode (Copy destination source word)) m after (laws.copies image t s state.slots slot destination source word mirrors m) made
    stays-there (OnCNode (Mint destination source word payload)) m after made =
        by-changes (OnCNode (Mint destination source word payload)) m after
        (laws.mints image t s state.slots slot destination source word payload mirrors m) made
    stays-there (OnCNode (Move destination source)) m after made =
        by-changes (OnCNode (Move destination source)) m after (laws.moves image t s state.slots slot destination source mirrors m) made
    stays-there (OnCNode (Delete name)) m after made =
        by-changes (OnCNode (Delete name)) m after (laws.deletes image t s state.slots slot name mirrors runs-on m) made
    stays-there (OnCNode (Revoke name)) m after made =
        by-changes (OnCNode (Revoke name)) m after (laws.revokes image t s state.slots slot name mirrors runs-on m) made
    stays-there (OnFrame held (MapFrame name address word)) m after made =
        by-changes (OnFrame held (MapFrame name address word)) m after (laws.maps image t s state.slots slot held name address word mirrors m) made
    stays-there (OnFrame held UnmapFrame) m after made =
        by-changes (OnFrame held UnmapFrame) m after (laws.unmaps image t s state.slots slot held mirrors m) made
    stays-there (OnHandler line Acknowledge) m after made =
        let same : acknowledge s line ≡ after = (let e : ◌≡◌ {A = Result State KError} (Ok (acknowledge s line)) (Ok after) = made in cc) in
        ap (λ (x : State). x.objects tcb) (sym same) ∙ acknowledged-there line
    stays-there (OnThread thread c) m after made = refused m.may
    stays-there (OnCNode (Mutate destination source payload)) m after made = refused m.may
    stays-there (OnTable c) m after made = refused m.may
    stays-there (OnControl line destination) m after made = refused m.may
    stays-there (OnHandler line (SetNotification name)) m after made = refused m.may
    stays-there (OnHandler line Clear) m after made = refused m.may

  -- after an invocation the thread has its answer, and goes on
  module _ (after : State) (kind : SendCall) (same : pc_at after (tcb_of image t) ≡ pc_at s (tcb_of image t)) where
    abbrev goes : State
    goes = if is_runnable (thread_at after (tcb_of image t)).status then answered after (tcb_of image t) kind 0 else passes after (tcb_of image t)

    on-from : (n : ℕ) → n ≡ (pc_at after tcb + 4) % 2 ^ 32 → n ≡ (pc_at s tcb + 4) % 2 ^ 32
    on-from n is = is ∙ ap (λ (k : ℕ). (k + 4) % 2 ^ 32) same

    goes-pc : pc_at goes tcb ≡ (pc_at s tcb + 4) % 2 ^ 32
    goes-pc = elim (is_runnable (thread_at after tcb).status)
        as (λ b. pc_at (if b then answered after tcb kind 0 else passes after tcb) tcb ≡ (pc_at s tcb + 4) % 2 ^ 32) [
          | true ↦ on-from _ (answered-pc after tcb kind 0)
          | false ↦ on-from _ (passes-pc after tcb)
        ]

    by-object : (o : Option ThreadState) → as_thread (after.objects tcb) ≡ o → is_runnable (thread_at (completed after tcb kind) tcb).status ≡ true
        → pc_at (completed after tcb kind) tcb ≡ (pc_at s tcb + 4) % 2 ^ 32
    by-object (Some own_now) is runs_ =
        subst (λ (o : Option ThreadState). pc_at (if is_some o then goes else after) tcb ≡ (pc_at s tcb + 4) % 2 ^ 32) (sym is) goes-pc
    by-object None none runs_ =
        let stays : completed after tcb kind ≡ after = ap (λ (o : Option ThreadState). if is_some o then goes else after) none in
        let clash : false ≡ true = sym (ap (λ (o : Option ThreadState). is_runnable (option_map_or (λ (u : ThreadState). u) o new_thread).status) none)
        ∙ sym (ap (λ (x : State). is_runnable (thread_at x tcb).status) stays) ∙ runs_ in
        absurd cc

    completed-pc : is_runnable (thread_at (completed after (tcb_of image t) kind) (tcb_of image t)).status ≡ true
        → pc_at (completed after (tcb_of image t) kind) (tcb_of image t) ≡ (pc_at s (tcb_of image t) + 4) % 2 ^ 32
    completed-pc = by-object (as_thread (after.objects tcb)) refl

  -- ---- whatever it makes

  module _ (now : current s ≡ Some (tcb_of image t)) (makes : MakesCall s (tcb_of image t)) where
    abbrev GoesOn : State → Type 0
    GoesOn after = is_runnable (thread_at after tcb).status ≡ true → pc_at after tcb ≡ (pc_at s tcb + 4) % 2 ^ 32

    quiet-goes : waits_for_no_message (asked_now s tcb) ≡ true → is_fault (step s Step).1 ≡ false → InvokesNothing s tcb → GoesOn (step s Step).0
    quiet-goes none free nothing =
        let is = stepped s tcb now makes in
        subst GoesOn (sym (ap (λ (x : State × Label). x.0) is))
        (call-goes-on s tcb own there status (memory_base + tcb) (registers_of s tcb).pc bells-apart doors-apart none nothing
        (sym (ap (λ (x : State × Label). is_fault x.1) is) ∙ free))

    -- what an invocation leaves: the thread as it was, which then has its answer
    pub invoked-leaves : (P : State → Type 0)
        → ((kind : SendCall) (after : State) → after.objects (tcb_of image t) ≡ s.objects (tcb_of image t) → P (completed after (tcb_of image t) kind))
        → Invokes s (tcb_of image t) → P (step s Step).0
    invoked-leaves P each i =
        invocation-leaves laws bytes image s labels accepted all t listed now P
        (λ own_now point state left at kind slot c named may after made. each kind after (there-still own_now point state left at slot c may after made))
        makes i
      where
        there-still : (own_now : ThreadState) (point : ℕ) (state : PointState) (left : AfterCall) (at : CallsAt image t s labels own_now point state left)
            (slot : ℕ) (c : Invocation) → MayInvoke image t s state.slots slot c → (after : State)
            → perform s (call_on image t.thread slot (capability_at s.slots slot)) c ≡ Ok after → after.objects tcb ≡ s.objects tcb
        there-still own_now point state left at slot c may after made =
            let same : own_now ≡ own = same-thread (s.objects tcb) own_now own at.there there in
            stays-there point state left (subst (λ (u : ThreadState). CallsAt image t s labels u point state left) same at) slot c may after made

    invoked-goes : Invokes s tcb → GoesOn (step s Step).0
    invoked-goes = invoked-leaves GoesOn (λ kind after same. completed-pc after kind (elsewhere-pc s after tcb same))

    pub goes-on : waits_for_no_message (asked_now s (tcb_of image t)) ≡ true → is_fault (step s Step).1 ≡ false
        → is_runnable (thread_at (step s Step).0 (tcb_of image t)).status ≡ true
        → pc_at (step s Step).0 (tcb_of image t) ≡ (pc_at s (tcb_of image t) + 4) % 2 ^ 32
    goes-on none free = elim (either-invokes s tcb) [
      | inl nothing ↦ quiet-goes none free nothing
      | inr i ↦ invoked-goes i
    ]
