-- Rights to reply, over a system call of the thread that runs: its own stays, unless it receives from an endpoint or answers; and whom it answers runs.
-- No thread's registers change but those that a message may write.
use Rattle.std.proofs.Common.{ℕ, ◌≡◌, ◌≢◌, ◌∙◌, ◌==◌, ◌++◌, inl, inr, Bool, true, false, if◌then◌else◌, Option, Some, None, Result, Ok, Err, List, [], ◌∷◌}
use Rattle.std.proofs.Common.{refl, sym, ap, subst, arith}
use Rattle.std.specs.Prelude.{Contains, bit_or, is_some}
use Rattle.std.specs.Option.{option_map_or}
use Rattle.std.proofs.lemmas.Bool.Decides.{eqb_tells}
use Rattle.model.specs.declared.capabilities.Cap.{Cap}
use Rattle.model.specs.declared.capabilities.Cap.TheVariants.{Empty, Untyped, Endpoint, Notification, CNode, Frame, PageTable, Tcb, RootTable, InterruptControl}
use Rattle.model.specs.declared.capabilities.Cap.TheVariants.{InterruptHandler}
use Rattle.model.specs.declared.errors.KError.TheVariants.{InvalidCapability}
use Rattle.model.specs.declared.labels.Label.TheVariants.{Ran}
use Rattle.model.specs.declared.lookup_failures.LookupFailure.{LookupFailure}
use Rattle.model.specs.declared.lookup_failures.LookupFailure.TheVariants.{MissingCapability}
use Rattle.model.specs.declared.rights.Rights.{Rights}
use Rattle.model.specs.declared.system_calls.ReceiveCall.{ReceiveCall}
use Rattle.model.specs.declared.system_calls.ReceiveCall.TheVariants.{Receiving, Polling}
use Rattle.model.specs.declared.system_calls.SendCall.{SendCall}
use Rattle.model.specs.declared.system_calls.SendCall.TheVariants.{Calling, Sending, Trying}
use Rattle.model.specs.declared.system_calls.SystemCall.{SystemCall}
use Rattle.model.specs.declared.system_calls.SystemCall.TheVariants.{Sends, Receives, RepliesAndReceives, Replies, Yields, PutsCharacter}
use Rattle.model.specs.Acceptance.CallRules.{message_registers}
use Rattle.model.specs.Capabilities.Rights.{may_grant_reply, may_read, may_write}
use Rattle.model.specs.Capabilities.Slots.{Slots, capability_at}
use Rattle.model.specs.Kernel.Messages.{a0, a1, a7, bytes_between, bytes_sent, deliver_sent, deliver_with, deliver_word, delivered, info_word, message_between}
use Rattle.model.specs.Kernel.Messages.{Message, message_to, passes, passes_with, poll, receive, received_waiting, receives, replied, reply, sends}
use Rattle.model.specs.Kernel.Messages.{signal, signals, tries_to_send, waits_to_receive, with_caller, with_registers}
use Rattle.model.specs.Kernel.Scheduling.{block, full_slice, is_runnable, wake, yielded}
use Rattle.model.specs.Kernel.State.{AwaitsHandler, AwaitsReply, Blocked, ByCall, ByFault, BySend, EndpointObject, EndpointState, Inactive, NotificationObject}
use Rattle.model.specs.Kernel.State.{NotificationState, Object, Runnable, Sender, Sent, State, Status, ThreadObject, ThreadState, as_endpoint, as_thread}
use Rattle.model.specs.Kernel.State.{endpoint_at, new_endpoint, notification_at, put, thread_at, with_endpoint, with_notification, with_thread}
use Rattle.model.specs.Kernel.Steps.{Done, answered, call_of, calls, calls_known, completed, lacks_capability, named_slot, receive_by, receive_named}
use Rattle.model.specs.Kernel.Steps.{receive_on_endpoint}
use Rattle.model.specs.Kernel.Steps.{receive_on_notification, refused, registers_of, send_by, send_named, send_on, sender, sends_nothing, signal_on}
use Rattle.model.specs.Kernel.Steps.{system_call}
use Rattle.model.specs.Kernel.Waits.{is_fault}
use Rattle.model.specs.Machine.Effects.{advanced}
use Rattle.model.specs.Machine.ProgramMemory.{RegisterFile, read, write}
use Rattle.headline.specs.calls.Messages.{IsInvoked}
use Rattle.headline.specs.measure_facts.Terms.{WritesOnly}
use Rattle.response.specs.Asking.{Accepts, Acknowledges, Answers, Asked, Asks_nothing, Calls, Looks, Polls, Rings, SendsTo, Takes, Tries, asked_by, asked_known}
use Rattle.response.specs.Asking.{asked_to_receive, asked_to_send, capability_found}
use Rattle.response.proofs.Laws.{OthersWait, asked_now, block-off, caller-off, passes-off, put-at, put-off, replied-there, same-names, sent-off, thread-of}
use Rattle.response.proofs.Laws.{wake-off, wake-status}
use Rattle.settled_threads.proofs.MessageRegisters.{info-aside, message-aside, word-aside}

-- ---- states in which each thread has the right that it had

abbrev pub caller-of : Option Object → Option ℕ
caller-of o = (thread-of o).caller

-- a thread has the right that it had, and the registers but those that a message may write
pub record KeepsAside (before after : Option Object) : Type 0 where
  pub right : caller-of after ≡ caller-of before
  pub registers : WritesOnly (thread-of before).registers (thread-of after).registers message_registers

abbrev pub KeepsRights : State → State → Type 0
KeepsRights s after = (x : ℕ) → KeepsAside (s.objects x) (after.objects x)

pub unmoved : (before after : Option Object) → after ≡ before → KeepsAside before after
unmoved before after same = subst (KeepsAside before) (sym same) (record { right = refl; registers = λ k less other. refl })

pub then-aside : (a b c : Option Object) → KeepsAside a b → KeepsAside b c → KeepsAside a c
then-aside a b c first second = record {
  right = second.right ∙ first.right;
  registers = λ k less other. second.registers k less other ∙ first.registers k less other;
}

onward : (a b c : State) → KeepsRights a b → KeepsRights b c → KeepsRights a c
onward a b c first second x = then-aside (a.objects x) (b.objects x) (c.objects x) (first x) (second x)

put-keeps : (objects : ℕ → Option Object) (y : ℕ) (new : Object) → KeepsAside (objects y) (Some new) → (x : ℕ)
    → KeepsAside (objects x) (put objects y (Some new) x)
put-keeps objects y new same x = elim (eqb_tells x y) [
  | inl here ↦
      subst (λ (k : ℕ). KeepsAside (objects k) (put objects y (Some new) k)) (sym here.1)
      (subst (KeepsAside (objects y)) (sym (put-at objects y (Some new))) same)
  | inr apart ↦ unmoved (objects x) (put objects y (Some new) x) (put-off objects y x (Some new) apart.1)
]

thread-keeps : (m : State) (y : ℕ) (new : ThreadState) → new.caller ≡ (thread_at m y).caller
    → WritesOnly (thread_at m y).registers new.registers message_registers → KeepsRights m (with_thread m y new)
thread-keeps m y new same only = put-keeps m.objects y (ThreadObject new) (record { right = same; registers = only })

endpoint-keeps : (m : State) (e : ℕ) (q new : EndpointState) → m.objects e ≡ Some (EndpointObject q) → KeepsRights m (with_endpoint m e new)
endpoint-keeps m e q new is =
    put-keeps m.objects e (EndpointObject new)
    (subst (λ (o : Option Object). KeepsAside o (Some (EndpointObject new))) (sym is) (record { right = refl; registers = λ k less other. refl }))

bell-keeps : (m : State) (o : ℕ) (n new : NotificationState) → m.objects o ≡ Some (NotificationObject n) → KeepsRights m (with_notification m o new)
bell-keeps m o n new is =
    put-keeps m.objects o (NotificationObject new)
    (subst (λ (x : Option Object). KeepsAside x (Some (NotificationObject new))) (sym is) (record { right = refl; registers = λ k less other. refl }))

registers-keep : (m : State) (y : ℕ) (r : RegisterFile) → WritesOnly (thread_at m y).registers r message_registers → KeepsRights m (with_registers m y r)
registers-keep m y r only = thread-keeps m y (record (thread_at m y) { registers = r }) refl only

passes-keep : (m : State) (y : ℕ) → KeepsRights m (passes m y)
passes-keep m y = registers-keep m y (advanced (thread_at m y).registers) (λ k less other. refl)

passes_with-keep : (m : State) (y : ℕ) (r : RegisterFile) → WritesOnly (thread_at m y).registers r message_registers → KeepsRights m (passes_with m y r)
passes_with-keep m y r only =
    onward m (with_registers m y r) (passes_with m y r) (registers-keep m y r only) (passes-keep (with_registers m y r) y)

wake-keeps : (m : State) (y : ℕ) → KeepsRights m (wake m y)
wake-keeps m y = thread-keeps m y (record (thread_at m y) { status = Runnable; slice = full_slice }) refl (λ k less other. refl)

block-keeps : (m : State) (y : ℕ) (status : Status) → KeepsRights m (block m y status)
block-keeps m y status = thread-keeps m y (record (thread_at m y) { status = status }) refl (λ k less other. refl)

yields-keep : (m : State) (y : ℕ) → KeepsRights m (yielded m y)
yields-keep m y = thread-keeps m y (record (thread_at m y) { slice = full_slice }) refl (λ k less other. refl)

word-keeps : (m : State) (y word : ℕ) → KeepsRights m (deliver_word m y word)
word-keeps m y word =
    passes_with-keep m y (write (thread_at m y).registers a0 word) (word-aside (thread_at m y).registers word)

sent-keeps : (m : State) (first : Sender) (y : ℕ) → KeepsRights m (deliver_sent m first y)
sent-keeps m first y =
    let one : State = record m { bytes = bytes_sent m first first.sent y } in
    passes_with-keep one y (delivered (thread_at one y).registers first.badge (message_to m first first.sent y))
    (message-aside (thread_at one y).registers first.badge (message_to m first first.sent y))

answered-keeps : (m : State) (x : ℕ) (kind : SendCall) (number : ℕ) → KeepsRights m (answered m x kind number)
answered-keeps m x Calling number =
    passes_with-keep m x (write (write (registers_of m x) a0 0) a1 (info_word number 0)) (info-aside (registers_of m x) 0 (info_word number 0))
answered-keeps m x Sending number = passes-keep m x
answered-keeps m x Trying number = passes-keep m x

-- ---- signals

signals-keep : (m : State) (o badge : ℕ) (n k : NotificationState) → m.objects o ≡ Some (NotificationObject n) → (l : List ℕ)
    → KeepsRights m (signals m o badge k l)
signals-keep m o badge n k is [] = bell-keeps m o n (record k { word = bit_or k.word badge }) is
signals-keep m o badge n k is (w ∷ others) =
    let one = with_notification m o (record k { waiters = others }) in
    let two = deliver_word one w badge in
    onward m two (wake two w) (onward m one two (bell-keeps m o n (record k { waiters = others }) is) (word-keeps one w badge)) (wake-keeps two w)

signal-keeps : (m : State) (o badge : ℕ) (n : NotificationState) → m.objects o ≡ Some (NotificationObject n) → KeepsRights m (signal m o badge)
signal-keeps m o badge n is = signals-keep m o badge n (notification_at m o) is (notification_at m o).waiters

polls-keep : (m : State) (o x : ℕ) (n : NotificationState) → m.objects o ≡ Some (NotificationObject n) → KeepsRights m (poll m o x)
polls-keep m o x n is =
    let k = notification_at m o in
    let empty = with_notification m o (record k { word = 0 }) in
    elim (k.word == 0) as (λ b. KeepsRights m (if b then deliver_word m x 0 else deliver_word empty x k.word)) [
      | true ↦ word-keeps m x 0
      | false ↦ onward m empty (deliver_word empty x k.word) (bell-keeps m o n (record k { word = 0 }) is) (word-keeps empty x k.word)
    ]

-- ---- messages

module _ (m : State) (e x : ℕ) (q : EndpointState) (is : m.objects e ≡ Some (EndpointObject q)) where
  abbrev joined : Sender → State
  joined mine = with_endpoint m e (record (endpoint_at m e) { senders = (endpoint_at m e).senders ++ mine ∷ [] })

  queued-keeps : (mine : Sender) → KeepsRights m (block (joined mine) mine.thread (Blocked e))
  queued-keeps mine =
      onward m (joined mine) (block (joined mine) mine.thread (Blocked e))
      (endpoint-keeps m e q (record (endpoint_at m e) { senders = (endpoint_at m e).senders ++ mine ∷ [] }) is)
      (block-keeps (joined mine) mine.thread (Blocked e))

  abbrev fewer : List ℕ → State
  fewer rest = with_endpoint m e (record (endpoint_at m e) { receivers = rest })

  abbrev reached : Sender → ℕ → List ℕ → State
  reached mine y rest = wake (deliver_sent (fewer rest) mine y) y

  reached-keeps : (mine : Sender) (y : ℕ) (rest : List ℕ) → KeepsRights m (reached mine y rest)
  reached-keeps mine y rest =
      let sent = deliver_sent (fewer rest) mine y in
      onward m sent (wake sent y) (onward m (fewer rest) sent (endpoint-keeps m e q (record (endpoint_at m e) { receivers = rest }) is)
      (sent-keeps (fewer rest) mine y)) (wake-keeps sent y)

  sends-keep : (badge : ℕ) (grants : Bool) (l : List ℕ) → KeepsRights m (sends m e (sender x BySend badge grants) l)
  sends-keep badge grants [] = queued-keeps (sender x BySend badge grants)
  sends-keep badge grants (y ∷ rest) =
      let mine = sender x BySend badge grants in
      onward m (reached mine y rest) (passes (reached mine y rest) x) (reached-keeps mine y rest) (passes-keep (reached mine y rest) x)

  tries-keep : (badge : ℕ) (grants : Bool) (l : List ℕ) → KeepsRights m (tries_to_send m e (sender x BySend badge grants) l)
  tries-keep badge grants [] = passes-keep m x
  tries-keep badge grants (y ∷ rest) = sends-keep badge grants (y ∷ rest)

  -- a call gives another thread the right
  calls-keep : (badge : ℕ) (grants : Bool) (l : List ℕ) → ((y : ℕ) (rest : List ℕ) → l ≡ y ∷ rest → x ≢ y)
      → KeepsAside (m.objects x) ((sends m e (sender x ByCall badge grants) l).objects x)
  calls-keep badge grants [] other = queued-keeps (sender x ByCall badge grants) x
  calls-keep badge true (y ∷ rest) other =
      let mine = sender x ByCall badge true in
      let stopped = block (reached mine y rest) x AwaitsReply in
      subst (KeepsAside (m.objects x)) (sym (caller-off stopped y x (Some x) (other y rest refl)))
      (onward m (reached mine y rest) stopped (reached-keeps mine y rest) (block-keeps (reached mine y rest) x AwaitsReply) x)
  calls-keep badge false (y ∷ rest) other =
      let mine = sender x ByCall badge false in
      onward m (reached mine y rest) (block (reached mine y rest) x Inactive) (reached-keeps mine y rest) (block-keeps (reached mine y rest) x Inactive) x

-- ---- a thread that neither receives nor sends is left as it is

received-off : (v : State) (first : Sender) (kind : Sent) (x z : ℕ) → z ≢ x → z ≢ first.thread → (received_waiting v first kind x).objects z ≡ v.objects z
received-off v first BySend x z other apart = wake-off (passes v first.thread) first.thread z apart ∙ passes-off v first.thread z apart
received-off v first ByCall x z other apart = elim first.grant_reply
    as (λ b. (if b then with_caller (block v first.thread AwaitsReply) x (Some first.thread) else block v first.thread Inactive).objects z ≡ v.objects z) [
      | true ↦ caller-off (block v first.thread AwaitsReply) x z (Some first.thread) other ∙ block-off v first.thread z AwaitsReply apart
      | false ↦ block-off v first.thread z Inactive apart
    ]
received-off v first (ByFault fault) x z other apart =
    caller-off (block v first.thread AwaitsHandler) x z (Some first.thread) other ∙ block-off v first.thread z AwaitsHandler apart

module _ (m : State) (e x z : ℕ) (other : z ≢ x) (gate : z ≢ e) where
  abbrev dropped : State
  dropped = with_caller m x None

  abbrev short : List Sender → State
  short rest = with_endpoint dropped e (record (endpoint_at dropped e) { senders = rest })

  abbrev waiting : State
  waiting = with_endpoint dropped e (record (endpoint_at dropped e) { receivers = (endpoint_at dropped e).receivers ++ x ∷ [] })

  receives-off : (l : List Sender) → ((first : Sender) (rest : List Sender) → l ≡ first ∷ rest → z ≢ first.thread)
      → (receives dropped e x (waits_to_receive dropped e x) l).objects z ≡ m.objects z
  receives-off [] apart =
      block-off waiting x z (Blocked e) other
      ∙ put-off dropped.objects e z (Some (EndpointObject (record (endpoint_at dropped e) { receivers = (endpoint_at dropped e).receivers ++ x ∷ [] }))) gate
      ∙ caller-off m x z None other
  receives-off (first ∷ rest) apart =
      received-off (deliver_sent (short rest) first x) first first.sent x z other (apart first rest refl) ∙ sent-off (short rest) first x z other
      ∙ put-off dropped.objects e z (Some (EndpointObject (record (endpoint_at dropped e) { senders = rest }))) gate ∙ caller-off m x z None other

-- ---- which calls

-- the thread has its right to reply still
abbrev pub keeps_right : Asked → Bool
keeps_right (Takes o) = false
keeps_right (Accepts o replies) = false
keeps_right (Looks o) = false
keeps_right Answers = false
keeps_right (Polls o) = true
keeps_right (Rings o) = true
keeps_right (Acknowledges number) = true
keeps_right (SendsTo o) = true
keeps_right (Calls o) = true
keeps_right (Tries o) = true
keeps_right Asks_nothing = true

-- it answers
abbrev pub answers_first : Asked → Bool
answers_first Answers = true
answers_first (Accepts o replies) = replies
answers_first (Takes o) = false
answers_first (Looks o) = false
answers_first (Polls o) = false
answers_first (Rings o) = false
answers_first (Acknowledges number) = false
answers_first (SendsTo o) = false
answers_first (Calls o) = false
answers_first (Tries o) = false
answers_first Asks_nothing = false

sends-never : (kind : SendCall) (c : Cap) → answers_first (asked_to_send kind c) ≡ false
sends-never Calling (Endpoint o r badge) = refl
sends-never Sending (Endpoint o r badge) = refl
sends-never Trying (Endpoint o r badge) = refl
sends-never kind (Notification o r badge) = refl
sends-never kind Empty = refl
sends-never kind (Untyped offset bits watermark) = refl
sends-never kind (CNode offset radix guard) = refl
sends-never kind (Frame offset r mapping) = refl
sends-never kind (PageTable offset mapping) = refl
sends-never kind (Tcb offset) = refl
sends-never kind (RootTable offset) = refl
sends-never kind InterruptControl = refl
sends-never kind (InterruptHandler irq_line) = refl

receives-never : (kind : ReceiveCall) (c : Cap) → answers_first (asked_to_receive false kind c) ≡ false
receives-never Receiving (Endpoint o r badge) = refl
receives-never Polling (Endpoint o r badge) = refl
receives-never Receiving (Notification o r badge) = refl
receives-never Polling (Notification o r badge) = refl
receives-never Receiving Empty = refl
receives-never Polling Empty = refl
receives-never Receiving (Untyped offset bits watermark) = refl
receives-never Polling (Untyped offset bits watermark) = refl
receives-never Receiving (CNode offset radix guard) = refl
receives-never Polling (CNode offset radix guard) = refl
receives-never Receiving (Frame offset r mapping) = refl
receives-never Polling (Frame offset r mapping) = refl
receives-never Receiving (PageTable offset mapping) = refl
receives-never Polling (PageTable offset mapping) = refl
receives-never Receiving (Tcb offset) = refl
receives-never Polling (Tcb offset) = refl
receives-never Receiving (RootTable offset) = refl
receives-never Polling (RootTable offset) = refl
receives-never Receiving InterruptControl = refl
receives-never Polling InterruptControl = refl
receives-never Receiving (InterruptHandler irq_line) = refl
receives-never Polling (InterruptHandler irq_line) = refl

-- ---- the calls of a thread that runs

module _ (s : State) (x : ℕ) (own : ThreadState) (there : s.objects x ≡ Some (ThreadObject own)) (status : own.status ≡ Runnable) (address place : ℕ)
    (doors : (slot e : ℕ) (r : Rights) (badge : ℕ) → named_slot s x ≡ Ok slot → capability_at s.slots slot ≡ Endpoint e r badge → OthersWait s e x)
    (gates : (slot e : ℕ) (r : Rights) (badge : ℕ) → named_slot s x ≡ Ok slot → capability_at s.slots slot ≡ Endpoint e r badge
    → (q : EndpointState) × (s.objects e ≡ Some (EndpointObject q)))
    (notes : (slot o : ℕ) (r : Rights) (badge : ℕ) → named_slot s x ≡ Ok slot → capability_at s.slots slot ≡ Notification o r badge
    → (n : NotificationState) × (s.objects o ≡ Some (NotificationObject n))) where
  abbrev Keeps : State → Type 0
  Keeps after = KeepsAside (s.objects x) (after.objects x)

  abbrev Fine : Done → Type 0
  Fine done = is_fault (Ran address place done.1) ≡ false → Keeps done.0

  faulted : (done : Done) → is_fault (Ran address place done.1) ≡ true → Fine done
  faulted done is free = let clash : true ≡ false = sym is ∙ free in absurd cc

  either-fine : (test : Bool) (one other : Done) → Fine one → Fine other → Fine (if test then one else other)
  either-fine true one other first second = first
  either-fine false one other first second = second

  refused-fine : (kind : SendCall) → Fine (refused s x kind InvalidCapability)
  refused-fine kind free = answered-keeps s x kind _ x

  sent-fine : (kind : SendCall) (slot : ℕ) (c : Cap) → named_slot s x ≡ Ok slot → capability_at s.slots slot ≡ c → (IsInvoked c → ⊥)
      → Fine (send_by s x kind slot c)
  sent-fine Calling slot (Endpoint e r badge) named is quiet =
      let gate = gates slot e r badge named is in
      either-fine (may_write r) (send_on s x Calling e badge (may_grant_reply r)) (refused s x Calling InvalidCapability)
      (λ free. calls-keep s e x gate.0 gate.1 badge (may_grant_reply r) (endpoint_at s e).receivers (doors slot e r badge named is).receivers)
      (refused-fine Calling)
  sent-fine Sending slot (Endpoint e r badge) named is quiet =
      let gate = gates slot e r badge named is in
      either-fine (may_write r) (send_on s x Sending e badge (may_grant_reply r)) (refused s x Sending InvalidCapability)
      (λ free. sends-keep s e x gate.0 gate.1 badge (may_grant_reply r) (endpoint_at s e).receivers x) (refused-fine Sending)
  sent-fine Trying slot (Endpoint e r badge) named is quiet =
      let gate = gates slot e r badge named is in
      either-fine (may_write r) (send_on s x Trying e badge (may_grant_reply r)) (refused s x Trying InvalidCapability)
      (λ free. tries-keep s e x gate.0 gate.1 badge (may_grant_reply r) (endpoint_at s e).receivers x) (refused-fine Trying)
  sent-fine kind slot (Notification o r badge) named is quiet =
      let note = notes slot o r badge named is in
      either-fine (may_write r) (signal_on s x kind o badge) (refused s x kind InvalidCapability)
      (λ free. onward s (signal s o badge) (answered (signal s o badge) x kind 0) (signal-keeps s o badge note.0 note.1)
      (answered-keeps (signal s o badge) x kind 0) x)
      (refused-fine kind)
  sent-fine kind slot Empty named is quiet = absurd (quiet tt)
  sent-fine kind slot (Untyped offset bits watermark) named is quiet = absurd (quiet tt)
  sent-fine kind slot (CNode offset radix guard) named is quiet = absurd (quiet tt)
  sent-fine kind slot (Frame offset r mapping) named is quiet = absurd (quiet tt)
  sent-fine kind slot (PageTable offset mapping) named is quiet = absurd (quiet tt)
  sent-fine kind slot (Tcb offset) named is quiet = absurd (quiet tt)
  sent-fine kind slot (RootTable offset) named is quiet = absurd (quiet tt)
  sent-fine kind slot InterruptControl named is quiet = absurd (quiet tt)
  sent-fine kind slot (InterruptHandler irq_line) named is quiet = absurd (quiet tt)

  sent-by : (kind : SendCall) (r : Result ℕ LookupFailure) → named_slot s x ≡ r
      → ((slot : ℕ) → named_slot s x ≡ Ok slot → IsInvoked (capability_at s.slots slot) → ⊥) → Fine (send_named s x kind r)
  sent-by kind (Ok slot) named quiet = sent-fine kind slot (capability_at s.slots slot) named refl (quiet slot named)
  sent-by Calling (Err failure) named quiet = faulted (sends_nothing s x Calling failure) refl
  sent-by Sending (Err failure) named quiet = faulted (sends_nothing s x Sending failure) refl
  sent-by Trying (Err failure) named quiet = λ free. passes-keep s x x

  -- from a state that may be another one where only a fault is left
  received-fine : (replies : Bool) (kind : ReceiveCall) (m : State) → (kind ≡ Polling → m ≡ s) → (slot : ℕ) (c : Cap) → named_slot s x ≡ Ok slot
      → capability_at s.slots slot ≡ c → keeps_right (asked_to_receive replies kind c) ≡ true → Fine (receive_by m x kind c)
  received-fine replies Receiving m same slot (Endpoint e r badge) named is keeps = let clash : false ≡ true = keeps in absurd cc
  received-fine replies Polling m same slot (Endpoint e r badge) named is keeps = let clash : false ≡ true = keeps in absurd cc
  received-fine replies Receiving m same slot (Notification o r badge) named is keeps = let clash : false ≡ true = keeps in absurd cc
  received-fine replies Polling m same slot (Notification o r badge) named is keeps =
      let note = notes slot o r badge named is in
      subst (λ (z : State). Fine (receive_by z x Polling (Notification o r badge))) (sym (same refl))
      (either-fine (may_read r) (receive_on_notification s x Polling o) (lacks_capability s x 1 MissingCapability)
      (λ free. polls-keep s o x note.0 note.1 x) (faulted (lacks_capability s x 1 MissingCapability) refl))
  received-fine replies kind m same slot Empty named is keeps = faulted (lacks_capability m x 1 MissingCapability) refl
  received-fine replies kind m same slot (Untyped offset bits watermark) named is keeps = faulted (lacks_capability m x 1 MissingCapability) refl
  received-fine replies kind m same slot (CNode offset radix guard) named is keeps = faulted (lacks_capability m x 1 MissingCapability) refl
  received-fine replies kind m same slot (Frame offset r mapping) named is keeps = faulted (lacks_capability m x 1 MissingCapability) refl
  received-fine replies kind m same slot (PageTable offset mapping) named is keeps = faulted (lacks_capability m x 1 MissingCapability) refl
  received-fine replies kind m same slot (Tcb offset) named is keeps = faulted (lacks_capability m x 1 MissingCapability) refl
  received-fine replies kind m same slot (RootTable offset) named is keeps = faulted (lacks_capability m x 1 MissingCapability) refl
  received-fine replies kind m same slot InterruptControl named is keeps = faulted (lacks_capability m x 1 MissingCapability) refl
  received-fine replies kind m same slot (InterruptHandler irq_line) named is keeps = faulted (lacks_capability m x 1 MissingCapability) refl

  received-by : (replies : Bool) (kind : ReceiveCall) (m : State) → (kind ≡ Polling → m ≡ s) → m.slots ≡ s.slots → (r : Result ℕ LookupFailure)
      → named_slot s x ≡ r → keeps_right (asked_to_receive replies kind (capability_found s.slots r)) ≡ true → Fine (receive_named m x kind r)
  received-by replies kind m same slots (Ok slot) named keeps =
      subst (λ (c : Cap). Fine (receive_by m x kind c)) (ap (λ (each : Slots). capability_at each slot) (sym slots))
      (received-fine replies kind m same slot (capability_at s.slots slot) named refl keeps)
  received-by replies kind m same slots (Err failure) named keeps = faulted (lacks_capability m x 1 failure) refl

  called-fine : (call : SystemCall) → keeps_right (asked_by call (capability_found s.slots (named_slot s x))) ≡ true
      → ((kind : SendCall) (slot : ℕ) → call ≡ Sends kind → named_slot s x ≡ Ok slot → IsInvoked (capability_at s.slots slot) → ⊥) → Fine (calls s x call)
  called-fine (Sends kind) keeps quiet = sent-by kind (named_slot s x) refl (λ slot. quiet kind slot refl)
  called-fine (Receives kind) keeps quiet = received-by false kind s (λ _. refl) refl (named_slot s x) refl keeps
  called-fine RepliesAndReceives keeps quiet =
      let names = same-names s x own there status address place in
      subst (λ (r : Result ℕ LookupFailure). Fine (receive_named (reply s x) x Receiving r)) (sym names.named)
      (received-by true Receiving (reply s x) (λ clash. absurd cc) names.slots (named_slot s x) refl keeps)
  called-fine Replies keeps quiet = let clash : false ≡ true = keeps in absurd cc
  called-fine Yields keeps quiet = λ free. onward s (passes s x) (yielded (passes s x) x) (passes-keep s x) (yields-keep (passes s x) x) x
  called-fine PutsCharacter keeps quiet = λ free. passes-keep s x x

  numbered-fine : (number : ℕ) (call : Option SystemCall) → keeps_right (asked_known call (capability_found s.slots (named_slot s x))) ≡ true
      → ((kind : SendCall) (slot : ℕ) → call ≡ Some (Sends kind) → named_slot s x ≡ Ok slot → IsInvoked (capability_at s.slots slot) → ⊥)
      → Fine (calls_known s x number call)
  numbered-fine number (Some call) keeps quiet = called-fine call keeps (λ kind slot is. quiet kind slot (ap Some is))
  numbered-fine number None keeps quiet = faulted (calls_known s x number None) refl

  -- after a call that neither receives from an endpoint nor answers, and invokes nothing
  pub right-kept : keeps_right (asked_now s x) ≡ true
      → ((kind : SendCall) (slot : ℕ) → call_of (read (registers_of s x) a7) ≡ Some (Sends kind) → named_slot s x ≡ Ok slot
      → IsInvoked (capability_at s.slots slot) → ⊥) → is_fault (Ran address place (system_call s x).1) ≡ false
      → KeepsAside (s.objects x) ((system_call s x).0.objects x)
  unfolding system_call
  right-kept keeps quiet = numbered-fine (read (registers_of s x) a7) (call_of (read (registers_of s x) a7)) keeps quiet

  -- ---- whom it answers

  module _ (c : ℕ) (right : (thread_at s x).caller ≡ Some c) (awaits : (thread_at s c).status ≡ AwaitsReply)
      (queued : (e : ℕ) (q : EndpointState) → s.objects e ≡ Some (EndpointObject q) → (y : Sender) → Contains q.senders y
      → (thread_at s y.thread).status ≡ Blocked e) where
    own-runs : (thread_at s x).status ≡ Runnable
    own-runs = ap (λ (o : Option Object). (thread-of o).status) there ∙ status

    other : c ≢ x
    other same =
        let clash : AwaitsReply ≡ Runnable = sym awaits ∙ ap (λ (k : ℕ). (thread_at s k).status) same ∙ own-runs in absurd cc

    no-gate : (e : ℕ) (q : EndpointState) → s.objects e ≡ Some (EndpointObject q) → c ≢ e
    no-gate e q is same =
        let clash : AwaitsReply ≡ Inactive =
        sym awaits ∙ ap (λ (k : ℕ). (thread_at s k).status) same ∙ ap (λ (o : Option Object). (thread-of o).status) is in
        absurd cc

    abbrev ready : State
    ready = with_caller s x None

    abbrev message : Message
    message = message_between s x c

    reply-is : reply s x ≡ replied ready x c AwaitsReply message
    reply-is =
        ap (λ (o : Option ℕ). option_map_or (λ k. replied ready x k (thread_at s k).status (message_between s x k)) o s) right
        ∙ ap (λ (k : Status). replied ready x c k message) awaits

    runs-then : (thread_at (reply s x) c).status ≡ Runnable
    runs-then =
        ap (λ (m : State). (thread_at m c).status) reply-is
        ∙ wake-status (deliver_with ready (bytes_between ready x c message.count) c 0 message) c

    -- the endpoint is as it was
    gate-stays : (e : ℕ) (q : EndpointState) → s.objects e ≡ Some (EndpointObject q) → (reply s x).objects e ≡ Some (EndpointObject q)
    gate-stays e q is =
        ap (λ (m : State). m.objects e) reply-is
        ∙ replied-there ready x c e AwaitsReply message (λ _ same. no-gate e q is (sym same)) (λ clash. absurd cc)
        ∙ caller-off s x e None (λ same. let clash : Some (EndpointObject q) ≡ Some (ThreadObject own) = sym is ∙ ap s.objects same ∙ there in absurd cc) ∙ is

    after-receive : (e : ℕ) (q : EndpointState) → s.objects e ≡ Some (EndpointObject q) → (thread_at (receive (reply s x) e x) c).status ≡ Runnable
    after-receive e q is =
        ap (λ (o : Option Object). (thread-of o).status)
        (receives-off (reply s x) e x c other (no-gate e q is) (endpoint_at (with_caller (reply s x) x None) e).senders apart) ∙ runs-then
      where
        at_gate : (endpoint_at (with_caller (reply s x) x None) e).senders ≡ q.senders
        at_gate =
            ap (λ (o : Option Object). (option_map_or (λ (u : EndpointState). u) (as_endpoint o) new_endpoint).senders)
            (caller-off (reply s x) x e None
            (λ same. let clash : Some (EndpointObject q) ≡ Some (ThreadObject own) = sym is ∙ ap s.objects same ∙ there in absurd cc) ∙ gate-stays e q is)

        apart : (first : Sender) (rest : List Sender) → (endpoint_at (with_caller (reply s x) x None) e).senders ≡ first ∷ rest → c ≢ first.thread
        apart first rest head same =
            let among : Contains q.senders first = subst (λ (l : List Sender). Contains l first) (sym head ∙ at_gate) (0, omega arith, refl) in
            let clash : AwaitsReply ≡ Blocked e = sym awaits ∙ ap (λ (k : ℕ). (thread_at s k).status) same ∙ queued e q is first among in
            absurd cc

    abbrev Answered : Done → Type 0
    Answered done = is_fault (Ran address place done.1) ≡ false → (thread_at done.0 c).status ≡ Runnable

    no-fault : (done : Done) → is_fault (Ran address place done.1) ≡ true → Answered done
    no-fault done is free = let clash : true ≡ false = sym is ∙ free in absurd cc

    either-answered : (test : Bool) (one another : Done) → Answered one → Answered another → Answered (if test then one else another)
    either-answered true one another first second = first
    either-answered false one another first second = second

    never : (done : Done) (asked : Asked) → answers_first asked ≡ false → answers_first asked ≡ true → Answered done
    never done asked none some = let clash : false ≡ true = sym none ∙ some in absurd cc

    received-answers : (slot : ℕ) (cap : Cap) → named_slot s x ≡ Ok slot → capability_at s.slots slot ≡ cap
        → answers_first (asked_to_receive true Receiving cap) ≡ true → Answered (receive_by (reply s x) x Receiving cap)
    received-answers slot (Endpoint e r badge) named is some =
        let gate = gates slot e r badge named is in
        either-answered (may_read r) (receive_on_endpoint (reply s x) x Receiving e) (lacks_capability (reply s x) x 1 MissingCapability)
        (λ free. after-receive e gate.0 gate.1) (no-fault (lacks_capability (reply s x) x 1 MissingCapability) refl)
    received-answers slot (Notification o r badge) named is some = let clash : false ≡ true = some in absurd cc
    received-answers slot Empty named is some = let clash : false ≡ true = some in absurd cc
    received-answers slot (Untyped offset bits watermark) named is some = let clash : false ≡ true = some in absurd cc
    received-answers slot (CNode offset radix guard) named is some = let clash : false ≡ true = some in absurd cc
    received-answers slot (Frame offset r mapping) named is some = let clash : false ≡ true = some in absurd cc
    received-answers slot (PageTable offset mapping) named is some = let clash : false ≡ true = some in absurd cc
    received-answers slot (Tcb offset) named is some = let clash : false ≡ true = some in absurd cc
    received-answers slot (RootTable offset) named is some = let clash : false ≡ true = some in absurd cc
    received-answers slot InterruptControl named is some = let clash : false ≡ true = some in absurd cc
    received-answers slot (InterruptHandler irq_line) named is some = let clash : false ≡ true = some in absurd cc

    named-answers : (slots : (reply s x).slots ≡ s.slots) (r : Result ℕ LookupFailure) → named_slot s x ≡ r
        → answers_first (asked_to_receive true Receiving (capability_found s.slots r)) ≡ true → Answered (receive_named (reply s x) x Receiving r)
    named-answers slots (Ok slot) named some =
        subst (λ (cap : Cap). Answered (receive_by (reply s x) x Receiving cap)) (ap (λ (each : Slots). capability_at each slot) (sym slots))
        (received-answers slot (capability_at s.slots slot) named refl some)
    named-answers slots (Err failure) named some = no-fault (lacks_capability (reply s x) x 1 failure) refl

    called-answers : (call : SystemCall) → answers_first (asked_by call (capability_found s.slots (named_slot s x))) ≡ true → Answered (calls s x call)
    called-answers (Sends kind) some =
        never (calls s x (Sends kind)) (asked_to_send kind (capability_found s.slots (named_slot s x)))
        (sends-never kind (capability_found s.slots (named_slot s x))) some
    called-answers (Receives kind) some =
        never (calls s x (Receives kind)) (asked_to_receive false kind (capability_found s.slots (named_slot s x)))
        (receives-never kind (capability_found s.slots (named_slot s x))) some
    called-answers RepliesAndReceives some =
        let names = same-names s x own there status address place in
        subst (λ (r : Result ℕ LookupFailure). Answered (receive_named (reply s x) x Receiving r)) (sym names.named)
        (named-answers names.slots (named_slot s x) refl some)
    called-answers Replies some =
        λ free. ap (λ (o : Option Object). (thread-of o).status) (passes-off (reply s x) x c other) ∙ runs-then
    called-answers Yields some = let clash : false ≡ true = some in absurd cc
    called-answers PutsCharacter some = let clash : false ≡ true = some in absurd cc

    numbered-answers : (number : ℕ) (call : Option SystemCall) → answers_first (asked_known call (capability_found s.slots (named_slot s x))) ≡ true
        → Answered (calls_known s x number call)
    numbered-answers number (Some call) some = called-answers call some
    numbered-answers number None some = let clash : false ≡ true = some in absurd cc

    pub answered-runs : answers_first (asked_now s x) ≡ true → is_fault (Ran address place (system_call s x).1) ≡ false
        → (thread_at (system_call s x).0 c).status ≡ Runnable
    unfolding system_call
    answered-runs some = numbered-answers (read (registers_of s x) a7) (call_of (read (registers_of s x) a7)) some

-- ---- an invocation

-- its answer leaves the right of the thread
pub completed-keeps : (m : State) (x : ℕ) (kind : SendCall) → KeepsRights m (completed m x kind)
completed-keeps m x kind = elim (is_some (as_thread (m.objects x))) as (λ b. KeepsRights m (if b
    then (if is_runnable (thread_at m x).status then answered m x kind 0 else passes m x) else m)) [
      | true ↦ elim (is_runnable (thread_at m x).status) as (λ b. KeepsRights m (if b then answered m x kind 0 else passes m x))
          [ true ↦ answered-keeps m x kind 0 | false ↦ passes-keep m x ]
      | false ↦ λ y. unmoved (m.objects y) (m.objects y) refl
    ]
