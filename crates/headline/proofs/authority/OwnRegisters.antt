-- A change within authority stays so where the thread's own registers change after it, as those of a thread that goes on after its call.
use Rattle.std.proofs.Common.{ℕ, ◌≡◌, ◌≢◌, true, false, Option, Some, None, option_map, ◌∷◌, refl, sym, ◌∙◌, ap, subst, inl, inr}
use Rattle.std.specs.Option.{option_map_or}
use Rattle.std.proofs.lemmas.Bool.Decides.{eqb_tells}
use Rattle.model.specs.declared.capabilities.Cap.{Cap}
use Rattle.model.specs.Acceptance.Authority.{ByteChange, written, comes_with_frame, goes_with_frame, CallNames, Delivers, EndpointChange, waits_to_send}
use Rattle.model.specs.Acceptance.Authority.{waits_to_receive}
use Rattle.model.specs.Acceptance.Authority.{takes_sender, takes_receiver, Granted, held, appeared, pool, handler, made_handler, control, IsWoken, LineChange}
use Rattle.model.specs.Acceptance.Authority.{opens, delivers, NewParent, emptied, own as own_parent, of_own, NotificationChange, joins, passes_on, taken, waits}
use Rattle.model.specs.Acceptance.Authority.{ObjectChange, appears, ends, RightChange, kept, dropped, of_sender, SliceChange, same_slice, new_slice}
use Rattle.model.specs.Acceptance.Authority.{UsedChange, uses, freed, WithinAuthority, self_of}
use Rattle.model.specs.Images.Image.{Image, Thread}
use Rattle.model.specs.Kernel.Deliveries.{Signals, TakesReceiver, TakesSender, TakesWaiter, by_right, by_line}
use Rattle.model.specs.declared.system_calls.SystemCall.{SystemCall}
use Rattle.model.specs.Acceptance.Authority.{IsSignalled, joined}
use Rattle.model.specs.Kernel.Deliveries.{MayReply, as_before, to_sender, Reason, receiver, sender, waiter, caller as answered, faulted, set_back}
use Rattle.model.specs.Kernel.Kinds.{kind_at, kind_of}
use Rattle.model.specs.Kernel.Messages.{passes, passes_with}
use Rattle.model.specs.Kernel.Scheduling.{is_runnable}
use Rattle.model.specs.Kernel.State.{State, Runnable, Object, ThreadObject, EndpointObject, NotificationObject, EndpointState, NotificationState}
use Rattle.model.specs.Kernel.State.{Sender, ThreadState, as_endpoint, as_notification, as_thread, endpoint_at, new_endpoint, new_notification, new_thread}
use Rattle.model.specs.Kernel.State.{notification_at, thread_at, with_thread}
use Rattle.model.specs.Machine.Effects.{advanced}
use Rattle.model.specs.Machine.ProgramMemory.{RegisterFile}
use Rattle.headline.proofs.authority.PlainSteps.{between}
use Rattle.headline.proofs.facts.Laws.{at-place}
use Rattle.headline.proofs.moves.Laws.{passed, passed-there, with-here, with-there}

-- the thread runs before the step, and has no right to reply to itself
pub record RunsApart (image : Image) (t : Thread) (s : State) : Type 0 where
  pub own : ThreadState
  pub is : s.objects (self_of image t) ≡ Some (ThreadObject own)
  pub runs : own.status ≡ Runnable
  pub another : own.caller ≢ Some (self_of image t)

module _ (image : Image) (t : Thread) (s m : State) (apart : RunsApart image t s) (now : ThreadState)
    (there : m.objects (self_of image t) ≡ Some (ThreadObject now)) (registers : RegisterFile) where
  abbrev self : ℕ
  self = self_of image t

  abbrev last : ThreadState
  last = record now { registers = registers }

  abbrev after : State
  after = with_thread m self last

  here : after.objects self ≡ Some (ThreadObject last)
  here = with-here m self last

  elsewhere : (offset : ℕ) → offset ≢ self → after.objects offset ≡ m.objects offset
  elsewhere offset differs = with-there m self last offset differs

  -- a part of an object in which a thread's registers are not
  same-part : {A : Type 0} (part : Option Object → A) → part (Some (ThreadObject last)) ≡ part (Some (ThreadObject now)) → (offset : ℕ)
      → part (after.objects offset) ≡ part (m.objects offset)
  same-part part same offset = elim (eqb_tells offset self) [
    | inl at ↦
        ap (λ (x : ℕ). part (after.objects x)) at.1 ∙ ap part here ∙ same ∙ sym (ap part there) ∙ sym (ap (λ (x : ℕ). part (m.objects x)) at.1)
    | inr other ↦ ap part (elsewhere offset other.1)
  ]

  kinds : (offset : ℕ) → kind_at after offset ≡ kind_at m offset
  kinds = same-part (option_map kind_of) refl

  statuses : (thread : ℕ) → (thread_at after thread).status ≡ (thread_at m thread).status
  statuses = same-part (λ (o : Option Object). (option_map_or (λ (u : ThreadState). u) (as_thread o) new_thread).status) refl

  endpoints : (offset : ℕ) → endpoint_at after offset ≡ endpoint_at m offset
  endpoints = same-part (λ (o : Option Object). option_map_or (λ (u : EndpointState). u) (as_endpoint o) new_endpoint) refl

  notifications : (offset : ℕ) → notification_at after offset ≡ notification_at m offset
  notifications = same-part (λ (o : Option Object). option_map_or (λ (u : NotificationState). u) (as_notification o) new_notification) refl

  -- what was another object is none of the thread
  not-self : (offset : ℕ) (o : Object) → s.objects offset ≡ Some o → (o ≡ ThreadObject apart.own → ⊥) → offset ≢ self
  not-self offset o before differs same =
      let e : Some o ≡ Some (ThreadObject apart.own) = sym before ∙ ap s.objects same ∙ apart.is in
      let f : o ≡ ThreadObject apart.own = cc in differs f

  not-none : (offset : ℕ) → s.objects offset ≡ None → offset ≢ self
  not-none offset none same = let e : None ≡ Some (ThreadObject apart.own) = sym none ∙ ap s.objects same ∙ apart.is in cc

  not-gone : (offset : ℕ) → m.objects offset ≡ None → offset ≢ self
  not-gone offset none same = let e : None ≡ Some (ThreadObject now) = sym none ∙ ap m.objects same ∙ there in cc

  -- queues that lose their first

  takes-receiver : (endpoint first : ℕ) → TakesReceiver s m endpoint first → TakesReceiver s after endpoint first
  takes-receiver endpoint first takes = record {
    was = takes.was;
    is = kinds endpoint ∙ takes.is;
    leaves = takes.leaves ∙ ap (λ (e : EndpointState). first ∷ e.receivers) (sym (endpoints endpoint));
  }

  takes-sender : (endpoint : ℕ) (first : Sender) → TakesSender s m endpoint first → TakesSender s after endpoint first
  takes-sender endpoint first takes = record {
    was = takes.was;
    is = kinds endpoint ∙ takes.is;
    leaves = takes.leaves ∙ ap (λ (e : EndpointState). first ∷ e.senders) (sym (endpoints endpoint));
  }

  takes-waiter : (notification first : ℕ) → TakesWaiter s m notification first → TakesWaiter s after notification first
  takes-waiter notification first takes = record {
    was = takes.was;
    is = kinds notification ∙ takes.is;
    leaves = takes.leaves ∙ ap (λ (n : NotificationState). first ∷ n.waiters) (sym (notifications notification));
  }

  delivers-on : (from to : ℕ) → Delivers image t s m from to → Delivers image t s after from to
  delivers-on from to (Delivers.sends endpoint badge at names takes) = Delivers.sends endpoint badge at names (takes-receiver endpoint to takes)
  delivers-on from to (Delivers.receives endpoint first at names takes is kind) =
      Delivers.receives endpoint first at names (takes-sender endpoint first takes) is kind
  delivers-on from to (Delivers.replies at right awaits goes) = Delivers.replies at right awaits (statuses to ∙ goes)

  byte-on : (place : ℕ) → ByteChange image t s m place → ByteChange image t s after place
  byte-on place (written some still address right) = written some still address right
  byte-on place (comes_with_frame none is zero) = comes_with_frame none (kinds _ ∙ is) zero
  byte-on place (goes_with_frame was none gone) = goes_with_frame was (λ is. none (sym (kinds _) ∙ is)) gone
  byte-on place (ByteChange.delivered some still from to index source target delivery sender_has receiver_has low high at is) =
      ByteChange.delivered some still from to index source target (delivers-on from to delivery) sender_has receiver_has low high at is

  object-on : (offset : ℕ) → ObjectChange image t s m offset → ObjectChange image t s after offset
  object-on offset (appears kind none is around) = appears kind none (elsewhere offset (not-none offset none) ∙ is) around
  object-on offset (ends kind was none around) = ends kind was (elsewhere offset (not-gone offset none) ∙ none) around

  granted-on : (capability : Cap) → Granted image t s m capability → Granted image t s after capability
  granted-on _ (held capability holds) = held capability holds
  granted-on _ (appeared capability kind offset names none is around) = appeared capability kind offset names none (kinds offset ∙ is) around
  granted-on _ (pool offset bits watermark around) = pool offset bits watermark around
  granted-on _ (handler number holds) = handler number holds
  granted-on _ (made_handler number less holds) = made_handler number less holds
  granted-on _ (control holds) = control holds

  endpoint-on : (offset : ℕ) (old new : EndpointState) → EndpointChange image t s m offset old new → EndpointChange image t s after offset old new
  endpoint-on offset old new (waits_to_send x asks is) = waits_to_send x asks is
  endpoint-on offset old new (waits_to_receive names is) = waits_to_receive names is
  endpoint-on offset old new (takes_sender first names list same goes) = takes_sender first names list same (λ is. goes (sym (statuses first.thread) ∙ is))
  endpoint-on offset old new (takes_receiver badge first names list same goes) =
      takes_receiver badge first names list same (λ is. goes (sym (statuses first) ∙ is))

  signals-on : (notification badge : ℕ) → CallNames image t s (Signals s m notification badge) → CallNames image t s (Signals s after notification badge)
  signals-on notification badge names = record {
    call = names.call;
    slot = names.slot;
    asks = names.asks;
    own = names.own;
    named = names.named;
    such = such-on names.such;
  }
    where
      such-on : {call : SystemCall} {c : Cap} → Signals s m notification badge call c → Signals s after notification badge call c
      such-on (by_right allowed sends is_one writes) = by_right allowed sends is_one writes
      such-on (by_line number sends is_one bound pending taken_so) = by_line number sends is_one bound pending taken_so

  notification-on : (offset : ℕ) (old new : NotificationState) → NotificationChange image t s m offset old new
      → NotificationChange image t s after offset old new
  notification-on offset old new (joins badge names none is) = joins badge (signals-on offset badge names) none is
  notification-on offset old new (passes_on badge first names list same goes) =
      passes_on badge first (signals-on offset badge names) list same (λ is. goes (sym (statuses first) ∙ is))
  notification-on offset old new (taken names is) = taken names is
  notification-on offset old new (waits names is) = waits names is

  parent-on : (slot : ℕ) (parent : Option ℕ) → NewParent image t s m slot parent → NewParent image t s after slot parent
  parent-on slot parent (emptied empty none) = emptied empty none
  parent-on slot parent (own_parent above mine is) = own_parent above mine is
  parent-on slot parent (of_own below mine full is) = of_own below mine full is

  used-on : (slot old new : ℕ) → UsedChange image t s m slot old new → UsedChange image t s after slot old new
  used-on slot old new (uses named less) = uses named less
  used-on slot old new (freed zero none) = freed zero none

  slice-on : (old : ThreadState) → SliceChange s m self old now → SliceChange s after self old last
  slice-on old (same_slice is) = same_slice is
  slice-on old (new_slice full tail) = new_slice full tail

  right-on : RightChange image t s m apart.own.caller now.caller → RightChange image t s after apart.own.caller last.caller
  right-on (kept is rests) =
      kept is (λ caller right. elsewhere caller (λ same. apart.another (right ∙ ap (λ (n : ℕ). Some n) same)) ∙ rests caller right)
  right-on (dropped none) = dropped none
  right-on (of_sender endpoint first names takes gives is) = of_sender endpoint first names (takes-sender endpoint first takes) gives is

  told-on : (notification badge : ℕ) → IsSignalled s m notification badge → IsSignalled s after notification badge
  told-on notification badge (joined was still none is) =
      joined was (kinds notification ∙ still) none (ap (λ (n : NotificationState). n.word) (notifications notification) ∙ is)
  told-on notification badge (IsSignalled.passed first takes runs) =
      IsSignalled.passed first (takes-waiter notification first takes) (statuses first ∙ runs)

  line-on : (number : ℕ) → LineChange s m number → LineChange s after number
  line-on number (opens why unmasked same) = opens why unmasked same
  line-on number (delivers notification badge bound told was none masked) =
      delivers notification badge bound (told-on notification badge told) was none masked

  reply-on : (endpoint badge : ℕ) (before caller : Option ℕ) → MayReply m self (CallNames image t s) endpoint badge before caller
      → MayReply after self (CallNames image t s) endpoint badge before caller
  reply-on endpoint badge before caller (as_before same) = as_before same
  reply-on endpoint badge before caller (to_sender names is awaits) = to_sender names is (statuses self ∙ awaits)

  reason-on : (other : ℕ) (old new : ThreadState) → Reason s m self (CallNames image t s) other old new
      → Reason s after self (CallNames image t s) other old new
  reason-on other old new (receiver endpoint badge caller takes blocked names replies is comes) =
      receiver endpoint badge caller (takes-receiver endpoint other takes) blocked names (reply-on endpoint badge old.caller caller replies) is comes
  reason-on other old new (sender endpoint first takes same blocked names is comes) =
      sender endpoint first (takes-sender endpoint first takes) same blocked names is comes
  reason-on other old new (waiter notification badge takes blocked names is) =
      waiter notification badge (takes-waiter notification other takes) blocked (signals-on notification badge names) is
  reason-on other old new (answered right awaits is comes) = answered right awaits is comes
  reason-on other old new (faulted right awaits is) = faulted right awaits is
  reason-on other old new (set_back queue blocked some none is) =
      set_back queue blocked some (elsewhere queue (not-gone queue none) ∙ none) is

  woken-on : (priority thread : ℕ) → IsWoken s m priority thread → IsWoken s after priority thread
  woken-on priority thread woken = record {
    before = woken.before;
    changed = woken.changed;
    was = woken.was;
    rested = woken.rested;
    is =
        elsewhere thread (not-self thread (ThreadObject woken.before) woken.was
        (λ same. let e : woken.before ≡ apart.own = cc in
        let clash : false ≡ true = sym woken.rested ∙ ap (λ (u : ThreadState). is_runnable u.status) e ∙ ap is_runnable apart.runs in cc))
        ∙ woken.is;
    runs = woken.runs;
    at = woken.at;
  }

  pub registers-within : WithinAuthority image t s m → WithinAuthority image t s (with_thread m (self_of image t) (record now { registers = registers }))
  registers-within within = record {
    memory_bits = within.memory_bits;
    boot_radix = within.boot_radix;
    bytes = λ place differs. byte-on place (within.bytes place differs);
    objects = λ offset differs. object-on offset (within.objects offset (λ same. differs (same ∙ sym (kinds offset))));
    slots = within.slots;
    frame_mappings = within.frame_mappings;
    table_mappings = within.table_mappings;
    mapped = within.mapped;
    capabilities = λ slot differs some. granted-on _ (within.capabilities slot differs some);
    endpoints = λ offset old new before behind differs.
        let other = not-self offset (EndpointObject old) before (λ e. cc) in
        endpoint-on offset old new (within.endpoints offset old new before (sym (elsewhere offset other) ∙ behind) differs);
    notifications = λ offset old new before behind differs.
        let other = not-self offset (NotificationObject old) before (λ e. cc) in
        notification-on offset old new (within.notifications offset old new before (sym (elsewhere offset other) ∙ behind) differs);
    parents = λ slot differs. parent-on slot _ (within.parents slot differs);
    used = λ slot offset bits old new before behind differs. used-on slot old new (within.used slot offset bits old new before behind differs);
    priority = between (λ (old new : ThreadState). new.priority ≡ old.priority) (s.objects self) (after.objects self) apart.own last apart.is here
        (within.priority apart.own now apart.is there);
    fault_address = between (λ (old new : ThreadState). new.fault_address ≡ old.fault_address) (s.objects self) (after.objects self) apart.own last apart.is
        here (within.fault_address apart.own now apart.is there);
    slice = between (SliceChange s after self) (s.objects self) (after.objects self) apart.own last apart.is here
        (slice-on apart.own (within.slice apart.own now apart.is there));
    right = between (λ (old new : ThreadState). RightChange image t s after old.caller new.caller) (s.objects self) (after.objects self) apart.own last
        apart.is here (right-on (within.right apart.own now apart.is there));
    threads = λ other old new differs before behind changes.
        reason-on other old new (within.threads other old new differs before (sym (elsewhere other differs) ∙ behind) changes);
    lines = λ number either. let line = within.lines number either in (line.0, line-on number line.1);
    ready = λ priority.
        let change = within.ready priority in
        record {
          added = change.added;
          list = change.list;
          woken = λ thread among. woken-on priority thread (change.woken thread among);
          once = change.once;
          own = change.own;
        };
  }

  -- the thread goes on after its call with registers
  pub passes-within : WithinAuthority image t s m → (r : RegisterFile) → registers ≡ advanced r
      → WithinAuthority image t s (passes_with m (self_of image t) r)
  passes-within within r is =
      subst (λ (x : State). WithinAuthority image t s x) same-state (registers-within within)
    where
      same-objects : (offset : ℕ) → after.objects offset ≡ (passes_with m self r).objects offset
      same-objects offset = elim (eqb_tells offset self) [
        | inl at ↦
            ap after.objects at.1 ∙ here
            ∙ ap (λ (f : RegisterFile). Some (ThreadObject (record now { registers = f }))) is
            ∙ ap (λ (u : ThreadState). Some (ThreadObject (record u { registers = advanced r }))) (sym (at-place m self now there))
            ∙ sym (passed m self r) ∙ sym (ap (passes_with m self r).objects at.1)
        | inr other ↦ elsewhere offset other.1 ∙ sym (passed-there m self r offset other.1)
      ]

      same-state : after ≡ passes_with m self r
      same-state = λ i. record m { objects = λ offset. same-objects offset i }

-- the same with the registers that it has
pub goes-on-within : (image : Image) (t : Thread) (s m : State) → RunsApart image t s → (now : ThreadState)
    → m.objects (self_of image t) ≡ Some (ThreadObject now) → WithinAuthority image t s m → WithinAuthority image t s (passes m (self_of image t))
goes-on-within image t s m apart now there within =
    subst (λ (x : State). WithinAuthority image t s x)
    (ap (λ (u : ThreadState). with_thread m (self_of image t) (record u { registers = advanced u.registers })) (sym (at-place m (self_of image t) now there)))
    (registers-within image t s m apart now there (advanced now.registers) within)
