-- A thread answers the one that called it, which runs again; and what it does in the same step after that. What both change stays within
-- authority.
use Rattle.std.proofs.Common.{ℕ, suc, ◌≡◌, ◌≢◌, ◌==◌, ◌+◌, ◌*◌, ◌<◌, ◌≤◌, ◌++◌, Bool, true, false, if◌then◌else◌, Option, Some, None, List, [], ◌∷◌, refl, sym}
use Rattle.std.proofs.Common.{◌∙◌, ap, subst, inl, inr, arith, option_map}
use Rattle.std.specs.Prelude.{Contains, bit_or}
use Rattle.std.specs.Option.{option_map_or}
use Rattle.std.proofs.lemmas.Bool.Decides.{eqb_tells}
use Rattle.std.proofs.lemmas.List.Elements.{Contains-append_cases}
use Rattle.model.specs.declared.capabilities.Cap.{Cap}
use Rattle.model.specs.Acceptance.Authority.{AsksAs, CallNames, Delivers, EndpointChange, waits_to_send, waits_to_receive, takes_sender, takes_receiver}
use Rattle.model.specs.declared.system_calls.SystemCall.{SystemCall}
use Rattle.model.specs.Acceptance.Authority.{IsSignalled, IsWoken, LineChange, joined}
use Rattle.model.specs.Acceptance.Authority.{opens, delivers, NotificationChange, joins, passes_on, taken, waits, RightChange, kept, dropped, of_sender}
use Rattle.model.specs.Acceptance.Authority.{same_slice}
use Rattle.model.specs.Acceptance.Authority.{ReadyChange, self_of}
use Rattle.model.specs.Capabilities.Lookup.{called_slot}
use Rattle.model.specs.Images.Image.{Image, Thread}
use Rattle.model.specs.Kernel.Deliveries.{MayReply, as_before, to_sender, Reason, receiver, sender, waiter, caller as answered, faulted, set_back, Signals}
use Rattle.model.specs.Kernel.Deliveries.{Arrives, TakesReceiver, TakesSender, TakesWaiter}
use Rattle.model.specs.Kernel.Deliveries.{by_right, by_line, woken}
use Rattle.model.specs.Kernel.Kinds.{kind_at, kind_of}
use Rattle.model.specs.Kernel.Messages.{Message, a0, a7, buffer_of, bytes_between, deliver, delivered}
use Rattle.model.specs.Kernel.Messages.{length_between, message_between, reply_to_call, with_caller}
use Rattle.model.specs.Kernel.Scheduling.{is_runnable, wake}
use Rattle.model.specs.Kernel.Soundness.{IsSound}
use Rattle.model.specs.Kernel.State.{State, Inactive, Runnable, Blocked, AwaitsReply, Object, ThreadObject, EndpointObject, NotificationObject, EndpointState}
use Rattle.model.specs.Kernel.State.{NotificationState, Sender, ThreadState, as_endpoint, as_notification, as_thread, endpoint_at, new_endpoint}
use Rattle.model.specs.Kernel.State.{new_notification}
use Rattle.model.specs.Kernel.State.{new_thread, notification_at, thread_at}
use Rattle.model.specs.Kernel.Steps.{call_of, cspace_of, named_slot, registers_of}
use Rattle.model.specs.Machine.Effects.{advanced}
use Rattle.model.specs.Machine.ProgramMemory.{RegisterFile, read}
use Rattle.model.specs.Shared.Lists.{times_in}
use Rattle.headline.proofs.facts.Laws.{at-place}
use Rattle.headline.proofs.kept.Laws.{IsCopied, copied-at, copied-here, length-few, one-buffer}
use Rattle.headline.proofs.moves.Laws.{at-endpoint, caller-here, caller-there, delivered-here, delivered-there, woke, woke-there}
use Rattle.headline.proofs.authority.Changes.{ChangesObjects, OtherChange, stays, of_thread, of_endpoint, of_notification}
use Rattle.headline.proofs.authority.Deliveries.{StaysOrDelivered, arrives-so, between-same, by-delivery, bytes-delivered, length-same}
use Rattle.headline.proofs.authority.Gains.{Gains, gains-both, one-ready, only-one, wake-gains, woken_at}
use Rattle.headline.proofs.authority.Awaited.{receiver-waits, resting-absent, resting-apart, sender-waits}
use Rattle.headline.proofs.authority.Interrupted.{Waits}
use Rattle.headline.specs.authority.Scenarios.{HaveOwnBuffers}
use Rattle.soundness.proofs.Laws.{endpoint-kind}

-- who is counted in a list is in it
pub counted-there : (l : List ℕ) (x : ℕ) → 1 ≤ times_in l x → Contains l x
counted-there [] x some = absurd (omega (arith, some))
counted-there (y ∷ l) x some = elim (eqb_tells y x) [
  | inl here ↦ (0, omega arith, here.1)
  | inr apart ↦
      let rest : times_in (y ∷ l) x ≡ times_in l x = ap (λ (b : Bool). if b then times_in l x + 1 else times_in l x) apart.0 in
      let found = counted-there l x (omega (arith, some, rest)) in
      (suc found.0, let less = found.1 in omega (arith, less), found.2)
]

pub times-both : (a b : List ℕ) (x : ℕ) → times_in (a ++ b) x ≡ times_in a x + times_in b x
times-both [] b x = omega arith
times-both (y ∷ a) b x = elim (y == x) as (λ (c : Bool). (if c then times_in (a ++ b) x + 1 else times_in (a ++ b) x)
    ≡ (if c then times_in a x + 1 else times_in a x) + times_in b x) [
      | true ↦ let rest = times-both a b x in omega (arith, rest)
      | false ↦ times-both a b x
    ]

module _ (image : Image) (t : Thread) (s : State) (sound : IsSound s) (own : ThreadState) (is : s.objects (self_of image t) ≡ Some (ThreadObject own))
    (runs : own.status ≡ Runnable) (caller : ℕ) (right : own.caller ≡ Some caller) (u : ThreadState) (there : s.objects caller ≡ Some (ThreadObject u))
    (awaits : u.status ≡ AwaitsReply) where
  abbrev self : ℕ
  self = self_of image t

  abbrev cleared : ThreadState
  cleared = record own { caller = None }

  abbrev message : Message
  message = message_between s self caller

  abbrev one : State
  one = with_caller s self None

  -- with the bytes of the answer
  abbrev told : State
  told = record one { bytes = bytes_between s self caller (length_between s self caller) }

  abbrev two : State
  two = deliver told caller 0 message

  abbrev after : State
  after = wake two caller

  abbrev written : RegisterFile
  written = delivered u.registers 0 message

  abbrev changed : ThreadState
  changed = woken u (advanced written)

  rests : is_runnable u.status ≡ false
  rests = ap is_runnable awaits

  apart : caller ≢ self
  apart = resting-apart s caller self u own there is rests runs

  two-caller : two.objects caller ≡ Some (ThreadObject (record u { registers = advanced written }))
  two-caller = delivered-here told caller 0 message u (caller-there s self None caller apart ∙ there)

  after-caller : after.objects caller ≡ Some (ThreadObject changed)
  after-caller = woke two caller (record u { registers = advanced written }) two-caller

  pub after-self : (reply_to_call (with_caller s (self_of image t) None) (self_of image t) caller (message_between s (self_of image t) caller)).objects
      (self_of image t) ≡ Some (ThreadObject (record own { caller = None }))
  after-self =
      woke-there two caller self (λ same. apart (sym same)) ∙ delivered-there told caller 0 message self (λ same. apart (sym same))
      ∙ caller-here s self None own is

  after-there : (y : ℕ) → y ≢ self → y ≢ caller → after.objects y ≡ s.objects y
  after-there y not_self not_caller =
      woke-there two caller y not_caller ∙ delivered-there told caller 0 message y not_caller ∙ caller-there s self None y not_self

  right-is : (thread_at s self).caller ≡ Some caller
  right-is = ap (λ (v : ThreadState). v.caller) (at-place s self own is) ∙ right

  answered-so : (y : ℕ) → y ≡ caller → changed ≡ woken u (advanced (delivered u.registers 0 (message_between s self y)))
  answered-so y here = ap (λ (n : ℕ). woken u (advanced (delivered u.registers 0 (message_between s self n)))) (sym here)

  after-ready : (priority : ℕ) → Gains self (s.ready priority) (after.ready priority) (woken_at caller u.priority priority)
  after-ready = wake-gains two self caller (record u { registers = advanced written }) two-caller apart (resting-absent s sound caller u there rests)

  woken-there : (later : State) → later.objects caller ≡ Some (ThreadObject changed) → (priority : ℕ) → priority ≡ u.priority
      → IsWoken s later priority caller
  woken-there later now priority here = record { before = u; changed = changed; was = there; rested = rests; is = now; runs = refl; at = sym here }

  -- it is this delivery that the step makes, whatever comes after it where the caller runs on
  delivers-to : (later : State) → later.objects caller ≡ Some (ThreadObject changed) → Delivers image t s later self caller
  delivers-to later now =
      Delivers.replies refl right-is (ap (λ (v : ThreadState). v.status) (at-place s caller u there) ∙ awaits)
      (ap (λ (v : ThreadState). v.status) (at-place later caller changed now))

  pub answer-changes : ChangesObjects image t s
      (reply_to_call (with_caller s (self_of image t) None) (self_of image t) caller (message_between s (self_of image t) caller))
  answer-changes = record {
    store = record {
      memory_bits = refl;
      boot_radix = refl;
      slots = λ slot. refl;
      bytes = bytes-delivered image t s after sound self caller (delivers-to after after-caller) refl;
    };
    own = own;
    now = cleared;
    was = is;
    is = after-self;
    itself = record { priority = refl; fault_address = refl; slice = same_slice refl; right = dropped refl };
    others = λ y not_self. elim (eqb_tells y caller) [
      | inl here ↦
          of_thread u changed (ap s.objects here.1 ∙ there) (ap after.objects here.1 ∙ after-caller)
          (answered (right-is ∙ ap (λ (n : ℕ). Some n) (sym here.1)) awaits (answered-so y here.1)
          (subst (Arrives s after self) (sym here.1) (arrives-so s after self caller refl)))
      | inr other ↦ stays (after-there y not_self other.1)
    ];
    lines = λ number either. elim either [ inl differs ↦ absurd (differs refl) | inr differs ↦ absurd (differs refl) ];
    ready = λ priority. one-ready s after self priority caller u.priority (after-ready priority) (woken-there after after-caller priority);
  }

  -- ---- what the thread does in the same step after that

  registers-same : (thread_at after self).registers ≡ (thread_at s self).registers
  registers-same =
      ap (λ (v : ThreadState). v.registers) (at-place after self cleared after-self)
      ∙ sym (ap (λ (v : ThreadState). v.registers) (at-place s self own is))

  message-same : (y : ℕ) → message_between after self y ≡ message_between s self y
  message-same y = between-same s after self y refl registers-same

  pub named-same : named_slot (reply_to_call (with_caller s (self_of image t) None) (self_of image t) caller (message_between s (self_of image t) caller))
      (self_of image t) ≡ named_slot s (self_of image t)
  named-same = ap (λ (r : RegisterFile). called_slot s.slots (cspace_of s self) (read r a0)) registers-same

  number-back : {call : SystemCall} → call_of (read (registers_of after self) a7) ≡ Some call → call_of (read (registers_of s self) a7) ≡ Some call
  number-back asks = ap (λ (r : RegisterFile). call_of (read r a7)) (sym registers-same) ∙ asks

  names-back : {Such : SystemCall → Cap → Type 0} → CallNames image t after Such → CallNames image t s Such
  names-back names = record {
    call = names.call;
    slot = names.slot;
    asks = number-back names.asks;
    own = names.own;
    named = sym named-same ∙ names.named;
    such = names.such;
  }

  -- a part of an object that is the same of each thread
  same-part : {A : Type 0} (part : Option Object → A) → ((v w : ThreadState) → part (Some (ThreadObject v)) ≡ part (Some (ThreadObject w))) → (y : ℕ)
      → part (after.objects y) ≡ part (s.objects y)
  same-part part same y = elim (eqb_tells y self) [
    | inl here ↦
        ap (λ (x : ℕ). part (after.objects x)) here.1 ∙ ap part after-self ∙ same cleared own ∙ sym (ap part is)
        ∙ sym (ap (λ (x : ℕ). part (s.objects x)) here.1)
    | inr not_self ↦ elim (eqb_tells y caller) [
      | inl here ↦
          ap (λ (x : ℕ). part (after.objects x)) here.1 ∙ ap part after-caller ∙ same changed u ∙ sym (ap part there)
          ∙ sym (ap (λ (x : ℕ). part (s.objects x)) here.1)
      | inr other ↦ ap part (after-there y not_self.1 other.1)
    ]
  ]

  endpoints-same : (y : ℕ) → endpoint_at after y ≡ endpoint_at s y
  endpoints-same = same-part (λ (o : Option Object). option_map_or (λ (e : EndpointState). e) (as_endpoint o) new_endpoint) (λ v w. refl)

  notifications-same : (y : ℕ) → notification_at after y ≡ notification_at s y
  notifications-same = same-part (λ (o : Option Object). option_map_or (λ (n : NotificationState). n) (as_notification o) new_notification) (λ v w. refl)

  kinds-same : (y : ℕ) → kind_at after y ≡ kind_at s y
  kinds-same = same-part (option_map kind_of) (λ v w. refl)

  -- queues that lose their first

  receiver-back : (later : State) (endpoint first : ℕ) → TakesReceiver after later endpoint first → TakesReceiver s later endpoint first
  receiver-back later endpoint first takes = record {
    was = sym (kinds-same endpoint) ∙ takes.was;
    is = takes.is;
    leaves = ap (λ (e : EndpointState). e.receivers) (sym (endpoints-same endpoint)) ∙ takes.leaves;
  }

  sender-back : (later : State) (endpoint : ℕ) (first : Sender) → TakesSender after later endpoint first → TakesSender s later endpoint first
  sender-back later endpoint first takes = record {
    was = sym (kinds-same endpoint) ∙ takes.was;
    is = takes.is;
    leaves = ap (λ (e : EndpointState). e.senders) (sym (endpoints-same endpoint)) ∙ takes.leaves;
  }

  waiter-back : (later : State) (notification first : ℕ) → TakesWaiter after later notification first → TakesWaiter s later notification first
  waiter-back later notification first takes = record {
    was = sym (kinds-same notification) ∙ takes.was;
    is = takes.is;
    leaves = ap (λ (n : NotificationState). n.waiters) (sym (notifications-same notification)) ∙ takes.leaves;
  }

  gone-back : (y : ℕ) → s.objects y ≡ None → after.objects y ≡ None
  gone-back y none =
      after-there y (λ same. let e : None ≡ Some (ThreadObject own) = sym none ∙ ap s.objects same ∙ is in cc)
      (λ same. let e : None ≡ Some (ThreadObject u) = sym none ∙ ap s.objects same ∙ there in cc) ∙ none

  signals-back : (later : State) (notification badge : ℕ) → CallNames image t after (Signals after later notification badge)
      → CallNames image t s (Signals s later notification badge)
  signals-back later notification badge names = record {
    call = names.call;
    slot = names.slot;
    asks = number-back names.asks;
    own = names.own;
    named = sym named-same ∙ names.named;
    such = such-back names.such;
  }
    where
      such-back : {call : SystemCall} {c : Cap} → Signals after later notification badge call c → Signals s later notification badge call c
      such-back (by_right allowed sends is_one writes) = by_right allowed sends is_one writes
      such-back (by_line number sends is_one bound pending taken_so) = by_line number sends is_one bound pending taken_so

  -- ---- bytes

  -- where threads that are not stopped have no buffer in common: the sender of a second delivery is another thread than the caller
  module _ (own_buffers : HaveOwnBuffers s) where
    -- a sender that is not stopped
    record IsSource (from : ℕ) : Type 0 where
      not_caller : from ≢ caller
      not_stopped : (thread_at s from).status ≢ Inactive

    registers-still : (from : ℕ) → IsSource from → (thread_at after from).registers ≡ (thread_at s from).registers
    registers-still from source = elim (eqb_tells from self) [
      | inl here ↦ subst (λ (x : ℕ). (thread_at after x).registers ≡ (thread_at s x).registers) (sym here.1) registers-same
      | inr other ↦
          ap (λ (o : Option Object). (option_map_or (λ (v : ThreadState). v) (as_thread o) new_thread).registers)
          (after-there from other.1 (IsSource.not_caller source))
    ]

    runs-source : IsSource self
    runs-source = record {
      not_caller = λ same. apart (sym same);
      not_stopped = λ stopped.
          let clash : Runnable ≡ Inactive = sym (ap (λ (v : ThreadState). v.status) (at-place s self own is) ∙ runs) ∙ stopped in absurd cc;
    }

    waits-source : (from queue : ℕ) → Waits s from queue → IsSource from
    waits-source from queue w =
        let status : (thread_at s from).status ≡ Blocked queue = ap (λ (v : ThreadState). v.status) (at-place s from w.own w.is) ∙ w.blocked in
        record {
          not_caller = λ same.
              let answers : (thread_at s from).status ≡ AwaitsReply =
              ap (λ (x : ℕ). (thread_at s x).status) same ∙ ap (λ (v : ThreadState). v.status) (at-place s caller u there) ∙ awaits in
              let clash : Blocked queue ≡ AwaitsReply = sym status ∙ answers in absurd cc;
          not_stopped = λ stopped. let clash : Blocked queue ≡ Inactive = sym status ∙ stopped in absurd cc;
        }

    -- what the sender's buffer holds is what it held: the answer is in another frame
    source-still : (from source index count : ℕ) → IsSource from → buffer_of s from ≡ Some source → index < 4 * count → count ≤ 127
        → after.bytes (source + index) ≡ s.bytes (source + index)
    source-still from source index count at_source has less few =
        elim (copied-at s self caller (length_between s self caller) (source + index)) [
          | inl same ↦ same
          | inr c ↦
              let most = length-few s self caller in
              let last = IsCopied.last c in
              let one : source ≡ IsCopied.target c =
              one-buffer s sound from caller source (IsCopied.target c) index (IsCopied.index c) has (IsCopied.of_receiver c) (IsCopied.at c)
              (omega (arith, less, few)) (omega (arith, last, most)) in
              let not_stopped : (thread_at s caller).status ≢ Inactive =
              (λ stopped.
              let clash : AwaitsReply ≡ Inactive = sym (ap (λ (v : ThreadState). v.status) (at-place s caller u there) ∙ awaits) ∙ stopped in absurd cc) in
              absurd (IsSource.not_caller at_source (own_buffers from caller source (IsSource.not_stopped at_source) not_stopped has
              (IsCopied.of_receiver c ∙ ap (λ (n : ℕ). Some n) (sym one))))
        ]

    module _ (later : State) (second : ChangesObjects image t (reply_to_call (with_caller s (self_of image t) None) (self_of image t) caller
        (message_between s (self_of image t) caller)) later) where
      replies-back : (endpoint badge : ℕ) (before now : Option ℕ) → MayReply later self (CallNames image t after) endpoint badge before now
          → MayReply later self (CallNames image t s) endpoint badge before now
      replies-back endpoint badge before now (as_before same) = as_before same
      replies-back endpoint badge before now (to_sender names is_it waits_so) = to_sender (names-back names) is_it waits_so

      no-right : (y : ℕ) → (thread_at after self).caller ≡ Some y → ⊥
      no-right y has = let clash : None ≡ Some y = sym (ap (λ (v : ThreadState). v.caller) (at-place after self cleared after-self)) ∙ has in absurd cc

      -- what arrives of a sender's message is what its buffer held before the answer
      arrives-back : (from to : ℕ) → IsSource from → Arrives after later from to → Arrives s later from to
      arrives-back from to source comes frame target index one other first last =
          let count : length_between after from to ≡ length_between s from to = length-same s after from to refl (registers-still from source) in
          let less : index < 4 * length_between after from to = subst (λ (n : ℕ). index < 4 * n) (sym count) last in
          comes frame target index one other first less
          ∙ source-still from frame index (length_between after from to) source one less (length-few after from to)

      sender-source : (endpoint : ℕ) (first : Sender) → TakesSender s later endpoint first → IsSource first.thread
      sender-source endpoint first takes =
          let queue = endpoint-kind (s.objects endpoint) takes.was in
          let senders : queue.0.senders ≡ first ∷ (endpoint_at later endpoint).senders =
          ap (λ (e : EndpointState). e.senders) (sym (at-endpoint s endpoint queue.0 queue.1)) ∙ takes.leaves in
          waits-source first.thread endpoint (sender-waits s sound endpoint queue.0 queue.1 first (endpoint_at later endpoint).senders senders)

      receiver-source : (endpoint to : ℕ) → TakesReceiver s later endpoint to → IsSource to
      receiver-source endpoint to takes =
          let queue = endpoint-kind (s.objects endpoint) takes.was in
          let receivers : queue.0.receivers ≡ to ∷ (endpoint_at later endpoint).receivers =
          ap (λ (e : EndpointState). e.receivers) (sym (at-endpoint s endpoint queue.0 queue.1)) ∙ takes.leaves in
          waits-source to endpoint (receiver-waits s sound endpoint queue.0 queue.1 to (endpoint_at later endpoint).receivers receivers)

      -- who gets the second message is not the caller
      target-source : (from to : ℕ) → Delivers image t after later from to → IsSource to
      target-source from to (Delivers.sends endpoint badge at names takes) = receiver-source endpoint to (receiver-back later endpoint to takes)
      target-source from to (Delivers.receives endpoint first at names takes first_is kind) = subst IsSource (sym at) runs-source
      target-source from to (Delivers.replies at has waits_so runs_so) =
          absurd (no-right to (ap (λ (x : ℕ). (thread_at after x).caller) (sym at) ∙ has))

      -- all of the answer comes, whatever comes after it
      arrives-then : Arrives s later self caller
      arrives-then frame target index one other first last = elim (second.store.bytes (target + index)) [
        | inl same ↦ same ∙ copied-here s self caller (length_between s self caller) frame target index one other first last
        | inr d ↦
            let c = d.copied in
            let few = length-few s self caller in
            let most = length-few after d.from d.to in
            let end = c.last in
            let frames : target ≡ c.target =
            one-buffer s sound caller d.to target c.target index c.index other c.of_receiver c.at (omega (arith, last, few)) (omega (arith, end, most)) in
            let source = target-source d.from d.to d.delivers in
            let waits_on : (thread_at s caller).status ≢ Inactive =
            (λ stopped.
            let clash : AwaitsReply ≡ Inactive = sym (ap (λ (v : ThreadState). v.status) (at-place s caller u there) ∙ awaits) ∙ stopped in absurd cc) in
            absurd (IsSource.not_caller source (own_buffers d.to caller target (IsSource.not_stopped source) waits_on
            (c.of_receiver ∙ ap (λ (n : ℕ). Some n) (sym frames)) other))
      ]

      reason-back : (y : ℕ) (old new : ThreadState) → Reason after later self (CallNames image t after) y old new
          → Reason s later self (CallNames image t s) y old new
      reason-back y old new (receiver endpoint badge now takes blocked names replies is_it comes) =
          receiver endpoint badge now (receiver-back later endpoint y takes) blocked (names-back names)
          (replies-back endpoint badge old.caller now replies)
          (is_it ∙ ap (λ (m : Message). record (woken old (advanced (delivered old.registers badge m))) { caller = now }) (message-same y))
          (arrives-back self y runs-source comes)
      reason-back y old new (sender endpoint first takes same blocked names is_it comes) =
          sender endpoint first (sender-back later endpoint first takes) same blocked (names-back names) is_it
          (λ some. arrives-back y self (subst IsSource same (sender-source endpoint first (sender-back later endpoint first takes))) (comes some))
      reason-back y old new (waiter notification badge takes blocked names is_it) =
          waiter notification badge (waiter-back later notification y takes) blocked (signals-back later notification badge names) is_it
      reason-back y old new (answered has waits_so is_it comes) = absurd (no-right y has)
      reason-back y old new (faulted has waits_so is_it) = absurd (no-right y has)
      reason-back y old new (set_back queue blocked some none is_it) = set_back queue blocked (λ gone. some (gone-back queue gone)) none is_it

      asks-back : (endpoint : ℕ) (x : Sender) → AsksAs image t after endpoint x → AsksAs image t s endpoint x
      asks-back endpoint x asks = record {
        allowed = asks.allowed;
        kind = asks.kind;
        named = names-back asks.named;
        writes = asks.writes;
        thread = asks.thread;
        replies = asks.replies;
        sends = asks.sends;
      }

      endpoint-back : (y : ℕ) (old new : EndpointState) → EndpointChange image t after later y old new → EndpointChange image t s later y old new
      endpoint-back y old new (waits_to_send x asks is_it) = waits_to_send x (asks-back y x asks) is_it
      endpoint-back y old new (waits_to_receive names is_it) = waits_to_receive (names-back names) is_it
      endpoint-back y old new (takes_sender first names list same goes) = takes_sender first (names-back names) list same goes
      endpoint-back y old new (takes_receiver badge first names list same goes) = takes_receiver badge first (names-back names) list same goes

      notification-back : (y : ℕ) (old new : NotificationState) → NotificationChange image t after later y old new
          → NotificationChange image t s later y old new
      notification-back y old new (joins badge names none is_it) = joins badge (signals-back later y badge names) none is_it
      notification-back y old new (passes_on badge first names list same goes) = passes_on badge first (signals-back later y badge names) list same goes
      notification-back y old new (taken names is_it) = taken (names-back names) is_it
      notification-back y old new (waits names is_it) = waits (names-back names) is_it

      -- the caller runs, so nothing more becomes of it
      runs-on : (old new : ThreadState) → old.status ≡ Runnable → Reason after later self (CallNames image t after) caller old new → ⊥
      runs-on old new now (receiver endpoint badge c list blocked names replies is_it comes) =
          let clash : Runnable ≡ Blocked endpoint = sym now ∙ blocked in absurd cc
      runs-on old new now (sender endpoint first list same blocked names is_it comes) = let clash : Runnable ≡ Blocked endpoint = sym now ∙ blocked in absurd cc
      runs-on old new now (waiter notification badge list blocked names is_it) =
          let clash : Runnable ≡ Blocked notification = sym now ∙ blocked in absurd cc
      runs-on old new now (answered has waits_so is_it comes) = no-right caller has
      runs-on old new now (faulted has waits_so is_it) = no-right caller has
      runs-on old new now (set_back queue blocked some none is_it) = let clash : Runnable ≡ Blocked queue = sym now ∙ blocked in absurd cc

      later-caller : OtherChange image t after later caller → later.objects caller ≡ Some (ThreadObject changed)
      later-caller (stays same) = same ∙ after-caller
      later-caller (of_thread old new was is_now reason) =
          let e : Some (ThreadObject changed) ≡ Some (ThreadObject old) = sym after-caller ∙ was in
          let f : changed ≡ old = cc in
          absurd (runs-on old new (ap (λ (v : ThreadState). v.status) (sym f)) reason)
      later-caller (of_endpoint old new was is_now change) =
          let clash : Some (ThreadObject changed) ≡ Some (EndpointObject old) = sym after-caller ∙ was in absurd cc
      later-caller (of_notification old new was is_now change) =
          let clash : Some (ThreadObject changed) ≡ Some (NotificationObject old) = sym after-caller ∙ was in absurd cc

      caller-later : later.objects caller ≡ Some (ThreadObject changed)
      caller-later = later-caller (second.others caller apart)

      other-back : (y : ℕ) → y ≢ self → y ≢ caller → OtherChange image t after later y → OtherChange image t s later y
      other-back y not_self not_caller (stays same) = stays (same ∙ after-there y not_self not_caller)
      other-back y not_self not_caller (of_thread old new was is_now reason) =
          of_thread old new (sym (after-there y not_self not_caller) ∙ was) is_now (reason-back y old new reason)
      other-back y not_self not_caller (of_endpoint old new was is_now change) =
          of_endpoint old new (sym (after-there y not_self not_caller) ∙ was) is_now (endpoint-back y old new change)
      other-back y not_self not_caller (of_notification old new was is_now change) =
          of_notification old new (sym (after-there y not_self not_caller) ∙ was) is_now (notification-back y old new change)

      first-own : second.own ≡ cleared
      first-own =
          let e : Some (ThreadObject second.own) ≡ Some (ThreadObject cleared) = sym second.was ∙ after-self in
          let f : ThreadObject second.own ≡ ThreadObject cleared = cc in cc

      right-back : (before now : Option ℕ) → before ≡ None → RightChange image t after later before now → RightChange image t s later own.caller now
      right-back before now none (kept same rest) = dropped (same ∙ none)
      right-back before now none (dropped gone) = dropped gone
      right-back before now none (of_sender endpoint first names takes gives is_it) =
          of_sender endpoint first (names-back names) (sender-back later endpoint first takes) gives is_it

      told-back : (notification badge : ℕ) → IsSignalled after later notification badge → IsSignalled s later notification badge
      told-back notification badge (joined was still none is_it) =
          joined (sym (kinds-same notification) ∙ was) still (ap (λ (n : NotificationState). n.waiters) (sym (notifications-same notification)) ∙ none)
          (is_it ∙ ap (λ (n : NotificationState). bit_or n.word badge) (notifications-same notification))
      told-back notification badge (IsSignalled.passed first takes runs_so) =
          IsSignalled.passed first (waiter-back later notification first takes) runs_so

      line-back : (number : ℕ) → LineChange after later number → LineChange s later number
      line-back number (opens why unmasked same) = opens why unmasked same
      line-back number (delivers notification badge bound told was none masked) =
          delivers notification badge bound (told-back notification badge told) was none masked

      woken-back : (priority thread : ℕ) → IsWoken after later priority thread → IsWoken s later priority thread
      woken-back priority thread w = record {
        before = w.before;
        changed = w.changed;
        was = sym (after-there thread (not-one self cleared after-self runs) (not-one caller changed after-caller refl)) ∙ w.was;
        rested = w.rested;
        is = w.is;
        runs = w.runs;
        at = w.at;
      }
        where
          not-one : (x : ℕ) (v : ThreadState) → after.objects x ≡ Some (ThreadObject v) → v.status ≡ Runnable → thread ≢ x
          not-one x v at now same =
              let e : Some (ThreadObject w.before) ≡ Some (ThreadObject v) = sym w.was ∙ ap after.objects same ∙ at in
              let f : w.before ≡ v = cc in
              let clash : false ≡ true = sym w.rested ∙ ap (λ (x : ThreadState). is_runnable x.status) f ∙ ap is_runnable now in absurd cc

      -- the caller rests no more, so it is not woken again
      not-again : (priority : ℕ) → IsWoken after later priority caller → ⊥
      not-again priority w =
          let e : Some (ThreadObject w.before) ≡ Some (ThreadObject changed) = sym w.was ∙ after-caller in
          let f : w.before ≡ changed = cc in
          let clash : false ≡ true = sym w.rested ∙ ap (λ (x : ThreadState). is_runnable x.status) f in absurd cc

      added-woken : (priority thread : ℕ) → Contains (woken_at caller u.priority priority) thread → IsWoken s later priority thread
      added-woken priority thread among = elim (eqb_tells priority u.priority) [
        | inl here ↦
            let listed : Contains (caller ∷ []) thread =
            subst (λ (b : Bool). Contains (if b then caller ∷ [] else []) thread) here.0 among in
            subst (λ (x : ℕ). IsWoken s later priority x) (only-one caller thread listed.0 listed.1 listed.2) (woken-there later caller-later priority here.1)
        | inr other ↦
            let listed : Contains [] thread = subst (λ (b : Bool). Contains (if b then caller ∷ [] else []) thread) other.0 among in
            absurd (omega (arith, listed.1))
      ]

      added-once : (priority thread : ℕ) → times_in (woken_at caller u.priority priority) thread ≤ (if caller == thread then 1 else 0)
      added-once priority thread = elim (priority == u.priority)
          as (λ (b : Bool). times_in (if b then caller ∷ [] else []) thread ≤ (if caller == thread then 1 else 0)) [
            | true ↦ elim (caller == thread) as (λ (b : Bool). (if b then 0 + 1 else 0) ≤ (if b then 1 else 0)) [ true ↦ omega arith | false ↦ omega arith ]
            | false ↦ omega arith
          ]

      ready-back : (priority : ℕ) → ReadyChange after later self priority → ReadyChange s later self priority
      ready-back priority change =
          let both = gains-both self (s.ready priority) (after.ready priority) (later.ready priority) (woken_at caller u.priority priority) change.added
          (after-ready priority) (record { list = change.list; own = change.own }) in
          record {
            added = woken_at caller u.priority priority ++ change.added;
            list = both.list;
            woken = λ thread among. elim (Contains-append_cases (woken_at caller u.priority priority) change.added thread among) [
              | inl front ↦ added-woken priority thread front
              | inr back ↦ woken-back priority thread (change.woken thread back)
            ];
            once = λ thread.
                let count = times-both (woken_at caller u.priority priority) change.added thread in
                let few = added-once priority thread in
                let most = change.once thread in
                elim (eqb_tells caller thread) [
                  | inl here ↦
                      let one : ◌≡◌ {A = ℕ} (if caller == thread then 1 else 0) 1 = ap (λ (b : Bool). if b then 1 else 0) here.0 in
                      elim (eqb_tells (times_in change.added thread) 0) [
                        | inl none ↦ let zero_times = none.1 in omega (arith, count, few, one, zero_times)
                        | inr some ↦
                            absurd (not-again priority (subst (λ (x : ℕ). IsWoken after later priority x) (sym here.1)
                            (change.woken thread (counted-there change.added thread (let more = some.1 in grind arith)))))
                      ]
                  | inr other ↦
                      let none : ◌≡◌ {A = ℕ} (if caller == thread then 1 else 0) 0 = ap (λ (b : Bool). if b then 1 else 0) other.0 in
                      omega (arith, count, few, none, most)
                ];
            own = both.own;
          }

      -- ---- bytes

      -- the second delivery is one of the whole step
      record DeliversBoth (from to : ℕ) : Type 0 where
        delivers : Delivers image t s later from to
        source : IsSource from

      delivers-back : (from to : ℕ) → Delivers image t after later from to → DeliversBoth from to
      delivers-back from to (Delivers.sends endpoint badge at names takes) = record {
        delivers = Delivers.sends endpoint badge at (names-back names) (receiver-back later endpoint to takes);
        source = subst IsSource (sym at) runs-source;
      }
      delivers-back from to (Delivers.receives endpoint first at names takes first_is kind) =
          let back = sender-back later endpoint first takes in
          record {
            delivers = Delivers.receives endpoint first at (names-back names) back first_is kind;
            source = subst IsSource first_is (sender-source endpoint first back);
          }
      delivers-back from to (Delivers.replies at has waits_so runs_so) =
          absurd (no-right to (ap (λ (x : ℕ). (thread_at after x).caller) (sym at) ∙ has))

      pub bytes-then : (place : ℕ) → StaysOrDelivered image t s later place
      bytes-then place = elim (second.store.bytes place) [
        | inl same ↦ elim (copied-at s self caller (length_between s self caller) place) [
          | inl stays_so ↦ inl (same ∙ stays_so)
          | inr copied ↦
              inr (by-delivery image t s later sound self caller place (delivers-to later caller-later)
              (subst (IsCopied s self caller (length_between s self caller) place) (sym same) copied))
        ]
        | inr d ↦
            let both = delivers-back d.from d.to d.delivers in
            let c = d.copied in
            let count : length_between after d.from d.to ≡ length_between s d.from d.to =
            length-same s after d.from d.to refl (registers-still d.from (DeliversBoth.source both)) in
            inr (by-delivery image t s later sound d.from d.to place (DeliversBoth.delivers both) (record {
              index = c.index;
              source = c.source;
              target = c.target;
              of_sender = c.of_sender;
              of_receiver = c.of_receiver;
              first = c.first;
              last = subst (λ (n : ℕ). c.index < 4 * n) count c.last;
              at = c.at;
              is = c.is
                  ∙ source-still d.from c.source c.index (length_between after d.from d.to) (DeliversBoth.source both) c.of_sender c.last
                  (length-few after d.from d.to);
            }))
      ]

      -- both changes are one: the second keeps the thread's slice
      pub answered-then : second.now.slice ≡ second.own.slice → ((place : ℕ) → StaysOrDelivered image t s later place) → ChangesObjects image t s later
      answered-then slice bytes = record {
        store = record {
          memory_bits = second.store.memory_bits;
          boot_radix = second.store.boot_radix;
          slots = second.store.slots;
          bytes = bytes;
        };
        own = own;
        now = second.now;
        was = is;
        is = second.is;
        itself = record {
          priority = second.itself.priority ∙ ap (λ (v : ThreadState). v.priority) first-own;
          fault_address = second.itself.fault_address ∙ ap (λ (v : ThreadState). v.fault_address) first-own;
          slice = same_slice (slice ∙ ap (λ (v : ThreadState). v.slice) first-own);
          right = right-back second.own.caller second.now.caller (ap (λ (v : ThreadState). v.caller) first-own) second.itself.right;
        };
        others = λ y not_self. elim (eqb_tells y caller) [
          | inl here ↦
              of_thread u changed (ap s.objects here.1 ∙ there) (ap later.objects here.1 ∙ caller-later)
              (answered (right-is ∙ ap (λ (n : ℕ). Some n) (sym here.1)) awaits (answered-so y here.1)
              (subst (Arrives s later self) (sym here.1) arrives-then))
          | inr other ↦ other-back y not_self other.1 (second.others y not_self)
        ];
        lines = λ number either. let line = second.lines number either in (names-back line.0, line-back number line.1);
        ready = λ priority. ready-back priority (second.ready priority);
      }
