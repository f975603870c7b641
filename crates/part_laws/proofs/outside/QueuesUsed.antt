-- Over an event: whoever waits at a queue, or may be replied to, used that queue by a capability that it was given. Nobody comes to wait but the thread
-- that steps, where its call names the queue.
use Rattle.std.proofs.Common.{ℕ, ◌≡◌, ◌≢◌, ◌∙◌, ◌==◌, ◌+◌, ◌++◌, ◌⊎◌, inl, inr, Bool, true, false, if◌then◌else◌, map, List, [], ◌∷◌, Option, Some, None}
use Rattle.std.proofs.Common.{bit_or, option_map, refl, sym, ap, ap₂, subst, arith}
use Rattle.std.specs.Prelude.{Contains}
use Rattle.std.specs.Option.{option_map_or}
use Rattle.std.proofs.lemmas.Bool.{eq-eqb, false≢true}
use Rattle.std.proofs.lemmas.Bool.Decides.{eqb_tells}
use Rattle.std.proofs.lemmas.Option.{none-some, same_Some}
use Rattle.soundness.proofs.Laws.{current-runs, endpoint-kind, thread-kind}
use Rattle.model.specs.declared.capabilities.Cap.{Cap}
use Rattle.model.specs.declared.capabilities.Cap.TheVariants.{Endpoint}
use Rattle.model.specs.declared.labels.Label.{Label}
use Rattle.model.specs.declared.rights.Rights.{Rights}
use Rattle.model.specs.declared.system_calls.SystemCall.{SystemCall}
use Rattle.model.specs.Acceptance.Accepted.{IsAccepted}
use Rattle.model.specs.Acceptance.Authority.{CallNames, EndpointChange, waits_to_send, waits_to_receive, takes_sender, takes_receiver, NotificationChange}
use Rattle.model.specs.Acceptance.Authority.{joins, passes_on, taken, waits as waits_there, ObjectChange, appears, ends, RightChange, kept, dropped}
use Rattle.model.specs.Acceptance.Authority.{of_sender}
use Rattle.model.specs.Acceptance.Authority.{WithinAuthority, rights_of, self_of}
use Rattle.model.specs.Acceptance.ThreadInvariants.{tcb_of}
use Rattle.model.specs.Acceptance.WellFormed.{is_endpoint_type, is_notification_type}
use Rattle.model.specs.Capabilities.Slots.{capability_at}
use Rattle.model.specs.Images.Described.{Numbered, numbered_threads}
use Rattle.model.specs.Images.Image.{Image, Thread}
use Rattle.model.specs.Kernel.Deliveries.{Reason, MayReply, as_before, to_sender, TakesSender, once_handled, once_received, receiver, sender}
use Rattle.model.specs.Kernel.Deliveries.{waiter, caller, faulted, set_back, woken}
use Rattle.model.specs.Kernel.Kinds.{kind_of, object_named}
use Rattle.model.specs.Kernel.Messages.{a0, message_of, resumption}
use Rattle.model.specs.Kernel.Retype.{NewObject, NewUntyped, NewThread, NewEndpoint, NewNotification, NewCNode, NewFrame, NewPageTable, NewRootTable, object}
use Rattle.model.specs.Kernel.Scheduling.{current, is_runnable}
use Rattle.model.specs.Kernel.Soundness.{is_blocked_on, waiting_at}
use Rattle.model.specs.Kernel.State.{State, Status, Inactive, Runnable, Blocked, AwaitsReply, AwaitsHandler, Object, ThreadObject, EndpointObject}
use Rattle.model.specs.Kernel.State.{NotificationObject, CNodeObject, FrameObject, PageTableObject, RootTableObject, EndpointState, NotificationState}
use Rattle.model.specs.Kernel.State.{Sender, Sent, BySend, ByCall, ByFault, ThreadState, as_endpoint, as_thread, endpoint_at, new_endpoint, new_thread}
use Rattle.model.specs.Kernel.State.{thread_at}
use Rattle.model.specs.Shared.Lists.{times_in}
use Rattle.model.specs.Machine.Effects.{advanced}
use Rattle.model.specs.Machine.ProgramMemory.{write}
use Rattle.headline.specs.authority.Events.{InterruptChange, joins as interrupt_joins, passes_on as interrupt_passes, wakes, WithinInterrupt, WithinTick}
use Rattle.headline.specs.facts.Standing.{AllStand}
use Rattle.headline.specs.kept.Laws.{HaveOwnBlocks}
use Rattle.headline.specs.parts.Given.{AllHoldGiven, IsGivenTo}
use Rattle.headline.proofs.Laws.{Waits, first-waits}
use Rattle.part_laws.specs.Using.{AllUseQueues, SharesQueue, UsesQueue, of_image, of_pool}
use Rattle.part_laws.proofs.outside.Decided.{endpoints, notifications, threads}
use Rattle.part_laws.proofs.outside.Left.{one-state, there}
use Rattle.part_laws.proofs.outside.Listed.{is_queue}
use Rattle.part_laws.proofs.outside.Reaching.{has_right, listed-changes, listed-takes, queue-listed}

-- ---- by a capability

uses-by : (image : Image) (t : Thread) (queue right : ℕ) (k : NewObject) (c : Cap) → (right ≡ 1) ⊎ (right ≡ 2) → (right ≡ 2) ⊎ ((right ≡ 1) × (k ≡ NewEndpoint))
    → object_named c ≡ Some (k, queue) → is_queue k ≡ true → has_right (rights_of c).0 right ≡ true → IsGivenTo image t c → UsesQueue image t queue
uses-by image t queue right k c which takes_so named is_one may given = elim (queue-listed image t queue right c k named is_one may given) [
  | inl q ↦ of_image q.entry.source q.inside (listed-takes image t queue k right q takes_so) (listed-changes image t queue k right which q) q.at
  | inr p ↦ of_pool p
]

-- ---- lists

times-behind : (x : ℕ) (xs : List ℕ) (n : ℕ) → times_in (x ∷ xs) n ≡ 0 → times_in xs n ≡ 0
times-behind x xs n none = elim (x == n) as (λ b. (if b then times_in xs n + 1 else times_in xs n) ≡ 0 → times_in xs n ≡ 0) [
  | true ↦ λ is. let e : times_in xs n + 1 ≡ 0 = is in omega (arith, e)
  | false ↦ λ is. is
] none

times-joined : (x : ℕ) (xs : List ℕ) (n : ℕ) → times_in xs n ≡ 0 → (b : Bool) → (x == n) ≡ b → b ≡ false → times_in (x ∷ xs) n ≡ 0
times-joined x xs n none b is isnt = ap (λ (c : Bool). if c then times_in xs n + 1 else times_in xs n) (is ∙ isnt) ∙ none

times-head : (x : ℕ) (xs : List ℕ) (n : ℕ) → times_in (x ∷ xs) n ≡ 0 → (x == n) ≡ false
times-head x xs n none = elim (x == n) as (λ b. (if b then times_in xs n + 1 else times_in xs n) ≡ 0 → b ≡ false) [
  | true ↦ λ is. let e : times_in xs n + 1 ≡ 0 = is in absurd (omega (arith, e))
  | false ↦ λ is. refl
] none

times-between : (xs ys : List ℕ) (y n : ℕ) → times_in (xs ++ y ∷ ys) n ≡ 0 → times_in (xs ++ ys) n ≡ 0
times-between [] ys y n none = times-behind y ys n none
times-between (x ∷ xs) ys y n none =
    times-joined x (xs ++ ys) n (times-between xs ys y n (times-behind x (xs ++ y ∷ ys) n none)) (x == n) refl (times-head x (xs ++ y ∷ ys) n none)

not-one : (n : ℕ) → n ≡ 0 → n ≡ 1 → ⊥
not-one n zero one = omega (arith, zero, one)

-- nobody waits at a new object
none-new : (kind : NewObject) → waiting_at (object kind) ≡ []
none-new (NewUntyped bits) = refl
none-new NewThread = refl
none-new NewEndpoint = refl
none-new NewNotification = refl
none-new (NewCNode radix) = refl
none-new NewFrame = refl
none-new NewPageTable = refl
none-new NewRootTable = refl

-- ---- statuses

abbrev is_blocked : Status → Bool
is_blocked (Blocked queue) = true
is_blocked _ = false

blocked-not : (status : Status) (queue : ℕ) → is_blocked status ≡ false → status ≡ Blocked queue → ⊥
blocked-not status queue isnt is = false≢true (sym isnt ∙ ap is_blocked is)

runs-unblocked : (queue : ℕ) (status : Status) → is_runnable status ≡ true → is_blocked_on queue status ≡ false
runs-unblocked queue Runnable run = refl
runs-unblocked queue Inactive run = refl
runs-unblocked queue AwaitsReply run = refl
runs-unblocked queue AwaitsHandler run = refl
runs-unblocked queue (Blocked other) run = absurd (false≢true run)

received-rests : (x : Sender) (sent : Sent) (own : ThreadState) → is_blocked (once_received x sent own).status ≡ false
received-rests x BySend own = refl
received-rests x (ByFault fault) own = refl
received-rests x ByCall own = by x.grant_reply
  where
    by : (b : Bool) → is_blocked (if b then AwaitsReply else Inactive) ≡ false
    by true = refl
    by false = refl

handled-rests : (handler own : ThreadState) → is_blocked (once_handled handler own).status ≡ false
handled-rests handler own = elim ((message_of handler).label == 0)
    as (λ b. is_blocked (let t : ThreadState = if b then woken own (record own.registers { pc = resumption own.registers.pc (message_of handler).words })
    else record own { status = Inactive } in t.status) ≡ false) [
      | true ↦ refl
      | false ↦ refl
    ]

received-caller : (x : Sender) (sent : Sent) (own : ThreadState) → (once_received x sent own).caller ≡ own.caller
received-caller x BySend own = refl
received-caller x (ByFault fault) own = refl
received-caller x ByCall own = refl

handled-caller : (handler own : ThreadState) → (once_handled handler own).caller ≡ own.caller
handled-caller handler own = elim ((message_of handler).label == 0)
    as (λ b. (let t : ThreadState = if b then woken own (record own.registers { pc = resumption own.registers.pc (message_of handler).words }) else record own {
      status = Inactive;
    } in t.caller) ≡ own.caller) [
      | true ↦ refl
      | false ↦ refl
    ]

-- ---- a step

module _ (bytes : List ℕ) (image : Image) (accepted : IsAccepted bytes image) (own_blocks : HaveOwnBlocks)
    (s after : State) (labels later : List Label) (all : AllStand image s labels) (behind : AllStand image after later) (given : AllHoldGiven image s)
    (before : AllUseQueues image s) where
  module _ (t : Numbered) (listed : Contains (numbered_threads image) t) (now : current s ≡ Some (tcb_of image t))
      (within : WithinAuthority image t.thread s after) where
    -- by what its call names
    by-call : {Such : SystemCall → Cap → Type 0} (queue right : ℕ) (k : NewObject) → (right ≡ 1) ⊎ (right ≡ 2)
        → (right ≡ 2) ⊎ ((right ≡ 1) × (k ≡ NewEndpoint)) → is_queue k ≡ true → (named : CallNames image t.thread s Such)
        → object_named (capability_at s.slots named.slot) ≡ Some (k, queue) → has_right (rights_of (capability_at s.slots named.slot)).0 right ≡ true
        → UsesQueue image t.thread queue
    by-call queue right k which takes_so is_one named names may =
        uses-by image t.thread queue right k (capability_at s.slots named.slot) which takes_so names is_one may
        (given t named.slot listed named.own (λ empty. none-some (k, queue) (sym (ap object_named empty) ∙ names)))

    by-endpoint : (queue badge right : ℕ) (allowed : Rights) → (right ≡ 1) ⊎ (right ≡ 2) → {Such : SystemCall → Cap → Type 0}
        → (named : CallNames image t.thread s Such) → capability_at s.slots named.slot ≡ Endpoint queue allowed badge → has_right allowed.0 right ≡ true
        → UsesQueue image t.thread queue
    by-endpoint queue badge right allowed which named is may =
        by-call queue right NewEndpoint which (taken_so which) refl named (ap object_named is)
        (ap (λ (c : Cap). has_right (rights_of c).0 right) is ∙ may)
      where
        taken_so : (right ≡ 1) ⊎ (right ≡ 2) → (right ≡ 2) ⊎ ((right ≡ 1) × (NewEndpoint ≡ NewEndpoint))
        taken_so (inl one) = inr (one, refl)
        taken_so (inr two) = inl two

    -- ---- who waits

    module _ (queue : ℕ) where
      by-endpoints : (old new : EndpointState) → EndpointChange image t.thread s after queue old new
          → times_in (waiting_at (Some (EndpointObject old))) (tcb_of image t) ≡ 0 → times_in (waiting_at (Some (EndpointObject new))) (tcb_of image t) ≡ 1
          → UsesQueue image t.thread queue
      by-endpoints old new (waits_to_send x asks is) none one =
          by-endpoint queue x.badge 1 asks.allowed (inl refl) asks.named asks.named.such.1 asks.writes
      by-endpoints old new (waits_to_receive named is) none one =
          by-endpoint queue named.such.badge 2 named.such.allowed (inr refl) named named.such.is named.such.reads
      by-endpoints old new (takes_sender first named senders receivers rests) none one =
          let list : waiting_at (Some (EndpointObject old)) ≡ first.thread ∷ waiting_at (Some (EndpointObject new)) =
          ap₂ (λ (ss : List Sender) (rs : List ℕ). map (λ (x : Sender). x.thread) ss ++ rs) senders (sym receivers) in
          absurd (not-one (times_in (waiting_at (Some (EndpointObject new))) (tcb_of image t))
          (times-behind first.thread (waiting_at (Some (EndpointObject new))) (tcb_of image t)
          (ap (λ (l : List ℕ). times_in l (tcb_of image t)) (sym list) ∙ none)) one)
      by-endpoints old new (takes_receiver badge first named receivers senders rests) none one =
          let list : waiting_at (Some (EndpointObject old)) ≡ map (λ (x : Sender). x.thread) new.senders ++ first ∷ new.receivers =
          ap₂ (λ (ss : List Sender) (rs : List ℕ). map (λ (x : Sender). x.thread) ss ++ rs) (sym senders) receivers in
          absurd (not-one (times_in (waiting_at (Some (EndpointObject new))) (tcb_of image t))
          (times-between (map (λ (x : Sender). x.thread) new.senders) new.receivers first (tcb_of image t)
          (ap (λ (l : List ℕ). times_in l (tcb_of image t)) (sym list) ∙ none)) one)

      by-notifications : (old new : NotificationState) → NotificationChange image t.thread s after queue old new
          → times_in old.waiters (tcb_of image t) ≡ 0 → times_in new.waiters (tcb_of image t) ≡ 1 → UsesQueue image t.thread queue
      by-notifications old new (joins badge named empty is) none one =
          absurd (not-one (times_in new.waiters (tcb_of image t))
          (ap (λ (n : NotificationState). times_in n.waiters (tcb_of image t)) is ∙ none) one)
      by-notifications old new (passes_on badge first named list word rests) none one =
          absurd (not-one (times_in new.waiters (tcb_of image t))
          (times-behind first new.waiters (tcb_of image t) (ap (λ (l : List ℕ). times_in l (tcb_of image t)) (sym list) ∙ none)) one)
      by-notifications old new (taken named is) none one =
          absurd (not-one (times_in new.waiters (tcb_of image t))
          (ap (λ (n : NotificationState). times_in n.waiters (tcb_of image t)) is ∙ none) one)
      by-notifications old new (waits_there named is) none one =
          by-call queue 2 NewNotification (inr refl) (inl refl) refl named (ap object_named named.such.is)
          (ap (λ (c : Cap). has_right (rights_of c).0 2) named.such.is ∙ named.such.reads)

      -- not at an object that appears
      not-new : ObjectChange image t.thread s after queue → times_in (waiting_at (after.objects queue)) (tcb_of image t) ≡ 1 → ⊥
      not-new (appears kind absent new around) one =
          not-one (times_in (waiting_at (after.objects queue)) (tcb_of image t))
          (ap (λ (l : List ℕ). times_in l (tcb_of image t)) (ap waiting_at new ∙ none-new kind)) one
      not-new (ends kind is absent around) one =
          not-one (times_in (waiting_at (after.objects queue)) (tcb_of image t))
          (ap (λ (o : Option Object). times_in (waiting_at o) (tcb_of image t)) absent) one

      other-kind : (test : Option NewObject → Bool) (a b : Option Object) → s.objects queue ≡ a → after.objects queue ≡ b
          → test (option_map kind_of a) ≡ false → test (option_map kind_of b) ≡ true → times_in (waiting_at b) (tcb_of image t) ≡ 1
          → UsesQueue image t.thread queue
      other-kind test a b was is first second one =
          absurd (not-new (within.objects queue (λ same.
          false≢true (sym first ∙ ap (λ (o : Option Object). test (option_map kind_of o)) (sym was) ∙ ap test same
          ∙ ap (λ (o : Option Object). test (option_map kind_of o)) is ∙ second)))
          (ap (λ (o : Option Object). times_in (waiting_at o) (tcb_of image t)) is ∙ one))

      never : (n : ℕ) → n ≡ 0 → n ≡ 1 → UsesQueue image t.thread queue
      never n zero one = absurd (not-one n zero one)

      gains : (a b : Option Object) → s.objects queue ≡ a → after.objects queue ≡ b → times_in (waiting_at a) (tcb_of image t) ≡ 0
          → times_in (waiting_at b) (tcb_of image t) ≡ 1 → UsesQueue image t.thread queue
      gains a None was is none one = never 0 refl one
      gains a (Some (ThreadObject x)) was is none one = never 0 refl one
      gains a (Some (CNodeObject x)) was is none one = never 0 refl one
      gains a (Some FrameObject) was is none one = never 0 refl one
      gains a (Some PageTableObject) was is none one = never 0 refl one
      gains a (Some RootTableObject) was is none one = never 0 refl one
      gains (Some (EndpointObject old)) (Some (EndpointObject new)) was is none one = elim (endpoints old new) [
        | inr differ ↦ by-endpoints old new (within.endpoints queue old new was is differ) none one
        | inl same ↦ never (times_in (waiting_at (Some (EndpointObject new))) (tcb_of image t))
            (ap (λ (e : EndpointState). times_in (waiting_at (Some (EndpointObject e))) (tcb_of image t)) (sym same) ∙ none) one
      ]
      gains None (Some (EndpointObject new)) was is none one = other-kind is_endpoint_type None (Some (EndpointObject new)) was is refl refl one
      gains (Some (ThreadObject x)) (Some (EndpointObject new)) was is none one =
          other-kind is_endpoint_type (Some (ThreadObject x)) (Some (EndpointObject new)) was is refl refl one
      gains (Some (NotificationObject x)) (Some (EndpointObject new)) was is none one =
          other-kind is_endpoint_type (Some (NotificationObject x)) (Some (EndpointObject new)) was is refl refl one
      gains (Some (CNodeObject x)) (Some (EndpointObject new)) was is none one =
          other-kind is_endpoint_type (Some (CNodeObject x)) (Some (EndpointObject new)) was is refl refl one
      gains (Some FrameObject) (Some (EndpointObject new)) was is none one =
          other-kind is_endpoint_type (Some FrameObject) (Some (EndpointObject new)) was is refl refl one
      gains (Some PageTableObject) (Some (EndpointObject new)) was is none one =
          other-kind is_endpoint_type (Some PageTableObject) (Some (EndpointObject new)) was is refl refl one
      gains (Some RootTableObject) (Some (EndpointObject new)) was is none one =
          other-kind is_endpoint_type (Some RootTableObject) (Some (EndpointObject new)) was is refl refl one
      gains (Some (NotificationObject old)) (Some (NotificationObject new)) was is none one = elim (notifications old new) [
        | inr differ ↦ by-notifications old new (within.notifications queue old new was is differ) none one
        | inl same ↦ never (times_in new.waiters (tcb_of image t))
            (ap (λ (n : NotificationState). times_in n.waiters (tcb_of image t)) (sym same) ∙ none) one
      ]
      gains None (Some (NotificationObject new)) was is none one = other-kind is_notification_type None (Some (NotificationObject new)) was is refl refl one
      gains (Some (ThreadObject x)) (Some (NotificationObject new)) was is none one =
          other-kind is_notification_type (Some (ThreadObject x)) (Some (NotificationObject new)) was is refl refl one
      gains (Some (EndpointObject x)) (Some (NotificationObject new)) was is none one =
          other-kind is_notification_type (Some (EndpointObject x)) (Some (NotificationObject new)) was is refl refl one
      gains (Some (CNodeObject x)) (Some (NotificationObject new)) was is none one =
          other-kind is_notification_type (Some (CNodeObject x)) (Some (NotificationObject new)) was is refl refl one
      gains (Some FrameObject) (Some (NotificationObject new)) was is none one =
          other-kind is_notification_type (Some FrameObject) (Some (NotificationObject new)) was is refl refl one
      gains (Some PageTableObject) (Some (NotificationObject new)) was is none one =
          other-kind is_notification_type (Some PageTableObject) (Some (NotificationObject new)) was is refl refl one
      gains (Some RootTableObject) (Some (NotificationObject new)) was is none one =
          other-kind is_notification_type (Some RootTableObject) (Some (NotificationObject new)) was is refl refl one

      -- the thread that steps did not wait before
      self-waits : (own : ThreadState) → after.objects (tcb_of image t) ≡ Some (ThreadObject own) → own.status ≡ Blocked queue → UsesQueue image t.thread queue
      self-waits own is blocked =
          let running = current-runs s all.sound.threads (tcb_of image t) now in
          let was = thread-kind (s.objects (tcb_of image t)) running.kind in
          let run : is_runnable was.0.status ≡ true =
          ap (λ (o : Option Object). is_runnable (option_map_or (λ (u : ThreadState). u) (as_thread o) new_thread).status) (sym was.1) ∙ running.runs in
          let none : times_in (waiting_at (s.objects queue)) (tcb_of image t) ≡ 0 =
          all.sound.threads.queued (tcb_of image t) queue
          ∙ ap (λ (o : Option Object). if option_map_or (λ (u : ThreadState). is_blocked_on queue u.status) (as_thread o) false then 1 else 0) was.1
          ∙ ap (λ (b : Bool). if b then 1 else 0) (runs-unblocked queue was.0.status run) in
          let one : times_in (waiting_at (after.objects queue)) (tcb_of image t) ≡ 1 =
          behind.sound.threads.queued (tcb_of image t) queue
          ∙ ap (λ (o : Option Object). if option_map_or (λ (u : ThreadState). is_blocked_on queue u.status) (as_thread o) false then 1 else 0) is
          ∙ ap (λ (st : Status). if is_blocked_on queue st then 1 else 0) blocked
          ∙ ap (λ (b : Bool). if b then 1 else 0) (eq-eqb queue queue refl) in
          gains (s.objects queue) (after.objects queue) refl refl none one

    module _ (u : Numbered) (among : Contains (numbered_threads image) u) (apart : tcb_of image u ≢ tcb_of image t) where
      -- nobody comes to wait by what another does
      no-wait : (old new : ThreadState) (queue : ℕ) → Reason s after (self_of image t.thread) (CallNames image t.thread s) (tcb_of image u) old new
          → new.status ≡ Blocked queue → ⊥
      no-wait old new queue (receiver endpoint badge right first blocked named may is arrives) waits =
          blocked-not new.status queue (ap (λ (x : ThreadState). is_blocked x.status) is) waits
      no-wait old new queue (sender endpoint first takes who blocked named is arrives) waits =
          blocked-not new.status queue (ap (λ (x : ThreadState). is_blocked x.status) is ∙ received-rests first first.sent old) waits
      no-wait old new queue (waiter notification badge takes blocked named is) waits =
          blocked-not new.status queue (ap (λ (x : ThreadState). is_blocked x.status) is) waits
      no-wait old new queue (caller right awaits is arrives) waits = blocked-not new.status queue (ap (λ (x : ThreadState). is_blocked x.status) is) waits
      no-wait old new queue (faulted right awaits is) waits =
          blocked-not new.status queue (ap (λ (x : ThreadState). is_blocked x.status) is ∙ handled-rests (thread_at s (self_of image t.thread)) old) waits
      no-wait old new queue (set_back gone blocked was ended is) waits = blocked-not new.status queue (ap (λ (x : ThreadState). is_blocked x.status) is) waits

      other-waits : (new : ThreadState) (queue : ℕ) → after.objects (tcb_of image u) ≡ Some (ThreadObject new) → new.status ≡ Blocked queue
          → UsesQueue image u.thread queue
      other-waits new queue is blocked =
          let was = there image u s labels (all.stand u among) in
          elim (threads was.0 new) [
            | inl same ↦ before.waits u was.0 queue among was.1 (ap (λ (x : ThreadState). x.status) same ∙ blocked)
            | inr differ ↦ absurd (no-wait was.0 new queue (within.threads (tcb_of image u) was.0 new apart was.1 is differ) blocked)
          ]

      -- ---- rights to reply

      old-caller : (old new : ThreadState) (x : ℕ) → s.objects (tcb_of image u) ≡ Some (ThreadObject old) → new.caller ≡ old.caller → new.caller ≡ Some x
          → SharesQueue image u.thread x
      old-caller old new x was same has = before.callers u old x among was (sym same ∙ has)

      by-reply : (old : ThreadState) (endpoint badge x : ℕ) (right : Option ℕ) → s.objects (tcb_of image u) ≡ Some (ThreadObject old)
          → old.status ≡ Blocked endpoint
          → MayReply after (self_of image t.thread) (CallNames image t.thread s) endpoint badge old.caller right → right ≡ Some x → SharesQueue image u.thread x
      by-reply old endpoint badge x right was blocked (as_before same) has = before.callers u old x among was (sym same ∙ has)
      by-reply old endpoint badge x right was blocked (to_sender named is awaits) has = record {
        thread = t;
        listed = listed;
        is = same_Some x (tcb_of image t) (sym has ∙ is);
        queue = endpoint;
        here = before.waits u old endpoint among was blocked;
        there = by-endpoint endpoint badge 1 named.such.allowed (inl refl) named named.such.is named.such.writes;
      }

      by-reason : (old new : ThreadState) (x : ℕ) → s.objects (tcb_of image u) ≡ Some (ThreadObject old)
          → Reason s after (self_of image t.thread) (CallNames image t.thread s) (tcb_of image u) old new → new.caller ≡ Some x → SharesQueue image u.thread x
      by-reason old new x was (receiver endpoint badge right first blocked named may is arrives) has =
          by-reply old endpoint badge x right was blocked may (sym (ap (λ (y : ThreadState). y.caller) is) ∙ has)
      by-reason old new x was (sender endpoint first takes who blocked named is arrives) has =
          old-caller old new x was (ap (λ (y : ThreadState). y.caller) is ∙ received-caller first first.sent old) has
      by-reason old new x was (waiter notification badge takes blocked named is) has = old-caller old new x was (ap (λ (y : ThreadState). y.caller) is) has
      by-reason old new x was (caller right awaits is arrives) has = old-caller old new x was (ap (λ (y : ThreadState). y.caller) is) has
      by-reason old new x was (faulted right awaits is) has =
          old-caller old new x was (ap (λ (y : ThreadState). y.caller) is ∙ handled-caller (thread_at s (self_of image t.thread)) old) has
      by-reason old new x was (set_back gone blocked there_was ended is) has = old-caller old new x was (ap (λ (y : ThreadState). y.caller) is) has

      other-calls : (new : ThreadState) (x : ℕ) → after.objects (tcb_of image u) ≡ Some (ThreadObject new) → new.caller ≡ Some x
          → SharesQueue image u.thread x
      other-calls new x is has =
          let was = there image u s labels (all.stand u among) in
          elim (threads was.0 new) [
            | inl same ↦ old-caller was.0 new x was.1 (ap (λ (y : ThreadState). y.caller) (sym same)) has
            | inr differ ↦ by-reason was.0 new x was.1 (within.threads (tcb_of image u) was.0 new apart was.1 is differ) has
          ]

    -- the first sender of an endpoint waits there
    first-sender : (endpoint : ℕ) (first : Sender) → TakesSender s after endpoint first → Waits s first.thread endpoint
    first-sender endpoint first takes =
        let e = endpoint-kind (s.objects endpoint) takes.was in
        let list : e.0.senders ≡ first ∷ (endpoint_at after endpoint).senders =
        ap (λ (o : Option Object). (option_map_or (λ (x : EndpointState). x) (as_endpoint o) new_endpoint).senders) (sym e.1) ∙ takes.leaves in
        first-waits s all.sound endpoint first.thread (map (λ (x : Sender). x.thread) (endpoint_at after endpoint).senders ++ e.0.receivers)
        (ap waiting_at e.1 ∙ ap (λ (l : List Sender). map (λ (x : Sender). x.thread) l ++ e.0.receivers) list)

    by-right : (old : ThreadState) (x : ℕ) (right : Option ℕ) → s.objects (tcb_of image t) ≡ Some (ThreadObject old)
        → RightChange image t.thread s after old.caller right → right ≡ Some x → SharesQueue image t.thread x
    by-right old x right was (kept same stays) has = before.callers t old x listed was (sym same ∙ has)
    by-right old x right was (dropped none) has = absurd (none-some x (sym none ∙ has))
    by-right old x right was (of_sender endpoint first named takes gives is) has =
        let w = first-sender endpoint first takes in
        elim (all.others first.thread w.own w.is) [
          | inl rests ↦ absurd (blocked-not w.own.status endpoint (ap is_blocked rests) w.blocked)
          | inr block ↦ record {
            thread = block.thread;
            listed = block.listed;
            is = same_Some x first.thread (sym has ∙ is) ∙ block.is;
            queue = endpoint;
            here = by-endpoint endpoint named.such.badge 2 named.such.allowed (inr refl) named named.such.is named.such.reads;
            there = before.waits block.thread w.own endpoint block.listed (ap s.objects (sym block.is) ∙ w.is) w.blocked;
          }
        ]

    self-calls : (own : ThreadState) (x : ℕ) → after.objects (tcb_of image t) ≡ Some (ThreadObject own) → own.caller ≡ Some x → SharesQueue image t.thread x
    self-calls own x is has =
        let was = there image t s labels (all.stand t listed) in
        by-right was.0 x own.caller was.1 (within.right was.0 own was.1 is) has

    -- ---- the whole

    same-thread : (u : Numbered) → Contains (numbered_threads image) u → tcb_of image u ≡ tcb_of image t → u ≡ t
    same-thread u among same = own_blocks bytes image u t accepted among listed same

    pub step-used : AllUseQueues image after
    step-used = record {
      waits = λ u own queue among is blocked. elim (eqb_tells (tcb_of image u) (tcb_of image t)) [
        | inl here ↦ subst (λ (v : Numbered). UsesQueue image v.thread queue) (sym (same-thread u among here.1))
            (self-waits queue own (ap after.objects (sym here.1) ∙ is) blocked)
        | inr other ↦ other-waits u among other.1 own queue is blocked
      ];
      callers = λ u own x among is has. elim (eqb_tells (tcb_of image u) (tcb_of image t)) [
        | inl here ↦ subst (λ (v : Numbered). SharesQueue image v.thread x) (sym (same-thread u among here.1))
            (self-calls own x (ap after.objects (sym here.1) ∙ is) has)
        | inr other ↦ other-calls u among other.1 own x is has
      ];
    }

  -- ---- where threads but statuses that run, and slices, are the same

  -- a thread that was as it is, or does not wait
  pub record AsBefore (new : ThreadState) (u : Numbered) : Type 0 where
    pub old : ThreadState
    pub was : s.objects (tcb_of image u) ≡ Some (ThreadObject old)
    pub waits : (queue : ℕ) → new.status ≡ Blocked queue → old.status ≡ Blocked queue
    pub caller : new.caller ≡ old.caller

  pub same-used : ((u : Numbered) (new : ThreadState) → Contains (numbered_threads image) u → after.objects (tcb_of image u) ≡ Some (ThreadObject new)
      → AsBefore new u) → AllUseQueues image after
  same-used alike = record {
    waits = λ u own queue among is blocked. let a = alike u own among is in before.waits u a.old queue among a.was (a.waits queue blocked);
    callers = λ u own x among is has. let a = alike u own among is in before.callers u a.old x among a.was (sym a.caller ∙ has);
  }

  -- a tick leaves statuses and rights to reply
  pub tick-used : WithinTick s after → AllUseQueues image after
  tick-used within = same-used (λ u new among is. by u new among is (current s) refl)
    where
      by : (u : Numbered) (new : ThreadState) → Contains (numbered_threads image) u → after.objects (tcb_of image u) ≡ Some (ThreadObject new)
          → (o : Option ℕ) → current s ≡ o → AsBefore new u
      by u new among is None now =
          record {
            old = new;
            was = sym (within.others (tcb_of image u) (λ some. none-some (tcb_of image u) (sym now ∙ some))) ∙ is;
            waits = λ queue blocked. blocked;
            caller = refl;
          }
      by u new among is (Some x) now = elim (eqb_tells x (tcb_of image u)) [
        | inr apart ↦ record {
          old = new;
          was = sym (within.others (tcb_of image u) (λ some. apart.1 (same_Some x (tcb_of image u) (sym now ∙ some)))) ∙ is;
          waits = λ queue blocked. blocked;
          caller = refl;
        }
        | inl here ↦
            let was = there image u s labels (all.stand u among) in
            let ran = within.runs (tcb_of image u) was.0 (now ∙ ap (λ (n : ℕ). Some n) here.1) was.1 in
            let same : new ≡ record was.0 { slice = ran.0 } = one-state new (record was.0 { slice = ran.0 }) (after.objects (tcb_of image u)) is ran.1 in
            record {
              old = was.0;
              was = was.1;
              waits = λ queue blocked. ap (λ (y : ThreadState). y.status) (sym same) ∙ blocked;
              caller = ap (λ (y : ThreadState). y.caller) same;
            }
      ]

  -- an interrupt wakes
  module _ (number : ℕ) (within : WithinInterrupt number s after) (u : Numbered) (new : ThreadState) (among : Contains (numbered_threads image) u)
      (is : after.objects (tcb_of image u) ≡ Some (ThreadObject new)) where
    woke : (old : ThreadState) → s.objects (tcb_of image u) ≡ Some (ThreadObject old) → InterruptChange number s after (tcb_of image u) → AsBefore new u
    woke old was (interrupt_joins badge n delivered there_was empty now) =
        absurd (let e : ThreadObject new ≡ NotificationObject (record n { word = bit_or n.word badge }) =
        same_Some (ThreadObject new) (NotificationObject (record n { word = bit_or n.word badge })) (sym is ∙ now) in cc)
    woke old was (interrupt_passes badge w others n delivered there_was list now) =
        absurd (let e : ThreadObject new ≡ NotificationObject (record n { waiters = others }) =
        same_Some (ThreadObject new) (NotificationObject (record n { waiters = others })) (sym is ∙ now) in cc)
    woke old was (wakes notification badge o delivered head there_was now) =
        let same : new ≡ woken o (advanced (write o.registers a0 badge)) =
        one-state new (woken o (advanced (write o.registers a0 badge))) (after.objects (tcb_of image u)) is now in
        record {
          old = o;
          was = there_was;
          waits = λ queue blocked. absurd (blocked-not new.status queue (ap (λ (y : ThreadState). is_blocked y.status) same) blocked);
          caller = ap (λ (y : ThreadState). y.caller) same;
        }

    interrupted : AsBefore new u
    interrupted =
        let was = there image u s labels (all.stand u among) in
        elim (threads was.0 new) [
          | inl same ↦ record {
            old = was.0;
            was = was.1;
            waits = λ queue blocked. ap (λ (y : ThreadState). y.status) same ∙ blocked;
            caller = ap (λ (y : ThreadState). y.caller) (sym same);
          }
          | inr differ ↦ woke was.0 was.1 (within.objects (tcb_of image u) (λ same_objects. differ
              (one-state was.0 new (after.objects (tcb_of image u)) (sym same_objects ∙ was.1) is)))
        ]

  pub interrupt-used : (number : ℕ) → WithinInterrupt number s after → AllUseQueues image after
  interrupt-used number within = same-used (λ u new among is. interrupted number within u new among is)
