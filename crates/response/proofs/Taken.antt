-- A thread that takes from a notification and runs on has taken a word that was there.
use Rattle.std.proofs.Common.{ℕ, ◌≡◌, ◌≢◌, ◌∙◌, ◌==◌, Bool, true, false, if◌then◌else◌, Option, Some, None, Result, Ok, Err, List, ◌∷◌, refl, sym, ap, subst}
use Rattle.std.specs.Option.{option_map_or}
use Rattle.model.specs.declared.capabilities.Cap.{Cap}
use Rattle.model.specs.declared.capabilities.Cap.TheVariants.{Empty, Untyped, Endpoint, Notification, CNode, Frame, PageTable, Tcb, RootTable, InterruptControl}
use Rattle.model.specs.declared.capabilities.Cap.TheVariants.{InterruptHandler}
use Rattle.model.specs.declared.labels.Label.TheVariants.{Ran}
use Rattle.model.specs.declared.labels.Outcome.TheVariants.{Waited}
use Rattle.model.specs.declared.lookup_failures.LookupFailure.{LookupFailure}
use Rattle.model.specs.declared.lookup_failures.LookupFailure.TheVariants.{MissingCapability}
use Rattle.model.specs.declared.rights.Rights.{Rights}
use Rattle.model.specs.declared.system_calls.ReceiveCall.TheVariants.{Receiving, Polling}
use Rattle.model.specs.declared.system_calls.SendCall.{SendCall}
use Rattle.model.specs.declared.system_calls.SendCall.TheVariants.{Calling, Sending, Trying}
use Rattle.model.specs.declared.system_calls.SystemCall.{SystemCall}
use Rattle.model.specs.declared.system_calls.SystemCall.TheVariants.{Sends, Receives, RepliesAndReceives, Replies, Yields, PutsCharacter}
use Rattle.model.specs.Capabilities.Rights.{may_read}
use Rattle.model.specs.Capabilities.Slots.{Slots, capability_at}
use Rattle.model.specs.Kernel.Messages.{a7, reply, wait}
use Rattle.model.specs.Kernel.Scheduling.{is_runnable}
use Rattle.model.specs.Kernel.State.{NotificationObject, NotificationState, Object, Runnable, State, ThreadObject, ThreadState, as_notification}
use Rattle.model.specs.Kernel.State.{new_notification}
use Rattle.model.specs.Kernel.State.{notification_at, thread_at}
use Rattle.model.specs.Kernel.Steps.{Done, call_of, calls, calls_known, lacks_capability, named_slot, receive_by, receive_named, registers_of, system_call}
use Rattle.model.specs.Kernel.Waits.{is_fault}
use Rattle.model.specs.Machine.ProgramMemory.{read}
use Rattle.response.specs.Asking.{Asked, Takes, Accepts, Answers, Asks_nothing, asked_by}
use Rattle.response.specs.Asking.{asked_known, asked_to_receive, asked_to_send, capability_found}
use Rattle.response.proofs.AskedNow.{asked_now}
use Rattle.response.proofs.Interrupts.{word-of}
use Rattle.response.proofs.OwnCalls.{reply-left, same-names, waits-on}

-- ---- only Recv and ReplyRecv take

abbrev is_take : Asked → Bool
is_take (Takes o) = true
is_take _ = false

takes-never : (asked : Asked) (o : ℕ) → is_take asked ≡ false → asked ≡ Takes o → ⊥
takes-never asked o never is = let clash : true ≡ false = sym (ap is_take is) ∙ never in absurd cc

sends-never : (kind : SendCall) (c : Cap) → is_take (asked_to_send kind c) ≡ false
sends-never Calling (Endpoint offset r badge) = refl
sends-never Sending (Endpoint offset r badge) = refl
sends-never Trying (Endpoint offset r badge) = refl
sends-never kind (Notification offset r badge) = refl
sends-never kind Empty = refl
sends-never kind (Untyped offset bits watermark) = refl
sends-never kind (CNode offset radix guard) = refl
sends-never kind (Frame offset r mapping) = refl
sends-never kind (PageTable offset mapping) = refl
sends-never kind (Tcb offset) = refl
sends-never kind (RootTable offset) = refl
sends-never kind InterruptControl = refl
sends-never kind (InterruptHandler irq_line) = refl

polls-never : (c : Cap) → is_take (asked_to_receive false Polling c) ≡ false
polls-never (Endpoint offset r badge) = refl
polls-never (Notification offset r badge) = refl
polls-never Empty = refl
polls-never (Untyped offset bits watermark) = refl
polls-never (CNode offset radix guard) = refl
polls-never (Frame offset r mapping) = refl
polls-never (PageTable offset mapping) = refl
polls-never (Tcb offset) = refl
polls-never (RootTable offset) = refl
polls-never InterruptControl = refl
polls-never (InterruptHandler irq_line) = refl

one-take : {a b : ℕ} → Takes a ≡ Takes b → a ≡ b
one-take both = cc

-- ---- the call

module _ (s : State) (x : ℕ) (own : ThreadState) (there : s.objects x ≡ Some (ThreadObject own)) (status : own.status ≡ Runnable) (address place : ℕ)
    (bells : (slot o : ℕ) (r : Rights) (badge : ℕ) → named_slot s x ≡ Ok slot → capability_at s.slots slot ≡ Notification o r badge
    → (o ≢ x) × ((w : ℕ) (others : List ℕ) → (notification_at s o).waiters ≡ w ∷ others → x ≢ w))
    (notes : (slot o : ℕ) (r : Rights) (badge : ℕ) → named_slot s x ≡ Ok slot → capability_at s.slots slot ≡ Notification o r badge
    → (n : NotificationState) × (s.objects o ≡ Some (NotificationObject n))) (o : ℕ) where
  abbrev Taken : Done → Type 0
  Taken done = is_fault (Ran address place done.1) ≡ false → is_runnable (thread_at done.0 x).status ≡ true
      → ((notification_at s o).word == 0 ≡ false) × (word-of (done.0.objects o) ≡ 0)

  either-taken : (test : Bool) (one other : Done) → Taken one → Taken other → Taken (if test then one else other)
  either-taken true one other first second = first
  either-taken false one other first second = second

  no-fault : (done : Done) → is_fault (Ran address place done.1) ≡ true → Taken done
  no-fault done is free = let clash : true ≡ false = sym is ∙ free in absurd cc

  -- of a state in which the notification is as it was
  received-taken : (m : State)
      → ((n : NotificationState) → s.objects o ≡ Some (NotificationObject n) → m.objects o ≡ Some (NotificationObject n)) → (replies : Bool) (slot : ℕ)
      (c : Cap) → named_slot s x ≡ Ok slot → capability_at s.slots slot ≡ c → asked_to_receive replies Receiving c ≡ Takes o
      → Taken (receive_by m x Receiving c)
  received-taken m still replies slot (Notification other r badge) named is asks =
      let here : other ≡ o = one-take asks in
      let apart : o ≢ x = λ e. (bells slot other r badge named is).0 (here ∙ e) in
      let note = notes slot other r badge named is in
      let was : s.objects o ≡ Some (NotificationObject note.0) = ap s.objects (sym here) ∙ note.1 in
      let at : notification_at m o ≡ notification_at s o =
      ap (λ (object : Option Object). option_map_or (λ (n : NotificationState). n) (as_notification object) new_notification) (still note.0 was ∙ sym was) in
      subst (λ (n : ℕ). Taken (receive_by m x Receiving (Notification n r badge))) (sym here)
      (either-taken (may_read r) (wait m o x, Waited) (lacks_capability m x 1 MissingCapability)
      (λ free runs.
      let t = waits-on s x own there status address place m o apart runs in
      (ap (λ (n : NotificationState). n.word == 0) (sym at) ∙ t.some, t.none))
      (no-fault (lacks_capability m x 1 MissingCapability) refl))
  received-taken m still replies slot (Endpoint offset r badge) named is asks = absurd (takes-never (Accepts offset replies) o refl asks)
  received-taken m still replies slot Empty named is asks = absurd (takes-never Asks_nothing o refl asks)
  received-taken m still replies slot (Untyped offset bits watermark) named is asks = absurd (takes-never Asks_nothing o refl asks)
  received-taken m still replies slot (CNode offset radix guard) named is asks = absurd (takes-never Asks_nothing o refl asks)
  received-taken m still replies slot (Frame offset r mapping) named is asks = absurd (takes-never Asks_nothing o refl asks)
  received-taken m still replies slot (PageTable offset mapping) named is asks = absurd (takes-never Asks_nothing o refl asks)
  received-taken m still replies slot (Tcb offset) named is asks = absurd (takes-never Asks_nothing o refl asks)
  received-taken m still replies slot (RootTable offset) named is asks = absurd (takes-never Asks_nothing o refl asks)
  received-taken m still replies slot InterruptControl named is asks = absurd (takes-never Asks_nothing o refl asks)
  received-taken m still replies slot (InterruptHandler irq_line) named is asks = absurd (takes-never Asks_nothing o refl asks)

  by-slot : (m : State)
      → ((n : NotificationState) → s.objects o ≡ Some (NotificationObject n) → m.objects o ≡ Some (NotificationObject n)) → m.slots ≡ s.slots
      → (replies : Bool) (r : Result ℕ LookupFailure) → named_slot s x ≡ r
      → asked_to_receive replies Receiving (capability_found s.slots r) ≡ Takes o → Taken (receive_named m x Receiving r)
  by-slot m still slots replies (Ok slot) named asks =
      subst (λ (c : Cap). Taken (receive_by m x Receiving c)) (ap (λ (all : Slots). capability_at all slot) (sym slots))
      (received-taken m still replies slot (capability_at s.slots slot) named refl asks)
  by-slot m still slots replies (Err failure) named asks = no-fault (lacks_capability m x 1 failure) refl

  by-call : (call : SystemCall) → asked_by call (capability_found s.slots (named_slot s x)) ≡ Takes o → Taken (calls s x call)
  by-call (Sends kind) asks = absurd (takes-never _ o (sends-never kind (capability_found s.slots (named_slot s x))) asks)
  by-call (Receives Receiving) asks = by-slot s (λ n is. is) refl false (named_slot s x) refl asks
  by-call (Receives Polling) asks = absurd (takes-never _ o (polls-never (capability_found s.slots (named_slot s x))) asks)
  by-call RepliesAndReceives asks =
      let left = reply-left s x own there status address place in
      subst (λ (r : Result ℕ LookupFailure). Taken (receive_named (reply s x) x Receiving r))
      (sym (same-names s x own there status address place).named)
      (by-slot (reply s x) (λ n is. left.notes o n is) left.slots true (named_slot s x) refl asks)
  by-call Replies asks = absurd (takes-never Answers o refl asks)
  by-call Yields asks = absurd (takes-never Asks_nothing o refl asks)
  by-call PutsCharacter asks = absurd (takes-never Asks_nothing o refl asks)

  by-number : (number : ℕ) (call : Option SystemCall) → asked_known call (capability_found s.slots (named_slot s x)) ≡ Takes o
      → Taken (calls_known s x number call)
  by-number number (Some call) asks = by-call call asks
  by-number number None asks = absurd (takes-never Asks_nothing o refl asks)

  pub call-takes : asked_now s x ≡ Takes o → is_fault (Ran address place (system_call s x).1) ≡ false
      → is_runnable (thread_at (system_call s x).0 x).status ≡ true
      → ((notification_at s o).word == 0 ≡ false) × (word-of ((system_call s x).0.objects o) ≡ 0)
  unfolding system_call
  call-takes = by-number (read (registers_of s x) a7) (call_of (read (registers_of s x) a7))
