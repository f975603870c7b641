-- What a thread's own call leaves of it that may wait: it runs at the next instruction, or waits where it is. A message passes only where somebody
-- receives it, and one is received only where somebody sends it.
use Rattle.std.proofs.Common.{ℕ, ◌≡◌, ◌≢◌, ◌∙◌, ◌==◌, ◌+◌, ◌++◌, ◌%◌, ◌^◌, Bool, true, false, if◌then◌else◌, Option, Some, None, Result, Ok, Err, List, []}
use Rattle.std.proofs.Common.{◌∷◌, refl}
use Rattle.std.proofs.Common.{sym, ap, subst}
use Rattle.std.specs.Option.{option_map_or}
use Rattle.model.specs.declared.capabilities.Cap.{Cap}
use Rattle.model.specs.declared.capabilities.Cap.TheVariants.{Empty, Untyped, Endpoint, Notification, CNode, Frame, PageTable, Tcb, RootTable, InterruptControl}
use Rattle.model.specs.declared.capabilities.Cap.TheVariants.{InterruptHandler}
use Rattle.model.specs.declared.errors.KError.TheVariants.{InvalidCapability}
use Rattle.model.specs.declared.instructions.Register.{Register}
use Rattle.model.specs.declared.labels.Label.TheVariants.{Ran}
use Rattle.model.specs.declared.lookup_failures.LookupFailure.{LookupFailure}
use Rattle.model.specs.declared.lookup_failures.LookupFailure.TheVariants.{MissingCapability}
use Rattle.model.specs.declared.rights.Rights.{Rights}
use Rattle.model.specs.declared.system_calls.ReceiveCall.TheVariants.{Receiving, Polling}
use Rattle.model.specs.declared.system_calls.SendCall.{SendCall}
use Rattle.model.specs.declared.system_calls.SendCall.TheVariants.{Calling, Sending, Trying}
use Rattle.model.specs.declared.system_calls.SystemCall.{SystemCall}
use Rattle.model.specs.declared.system_calls.SystemCall.TheVariants.{Sends, Receives, RepliesAndReceives, Replies, Yields, PutsCharacter}
use Rattle.model.specs.Capabilities.Rights.{may_grant_reply, may_read, may_write}
use Rattle.model.specs.Capabilities.Slots.{Slots, capability_at}
use Rattle.model.specs.Kernel.Messages.{Message, a0, a1, a7, bytes_sent, deliver_sent, delivered, info_word, message_between, message_to, passes, passes_with}
use Rattle.model.specs.Kernel.Messages.{receive, received_waiting, receives, replied, reply, sends, wait, waits_for_signal, waits_to_receive}
use Rattle.model.specs.Kernel.Messages.{with_caller, with_registers, deliver_word, word_registers, write_words}
use Rattle.model.specs.Kernel.Scheduling.{block, full_slice, is_runnable, wake}
use Rattle.model.specs.Kernel.State.{AwaitsHandler, AwaitsReply, Blocked, ByCall, ByFault, BySend, EndpointObject, EndpointState, Inactive, NotificationObject}
use Rattle.model.specs.Kernel.State.{Object, Runnable, Sender, Sent, State, Status, ThreadObject, ThreadState, as_endpoint, endpoint_at}
use Rattle.model.specs.Kernel.State.{new_endpoint, notification_at, thread_at, with_endpoint, with_notification}
use Rattle.model.specs.Kernel.Steps.{Done, answered, call_of, calls, calls_known, lacks_capability, named_slot, receive_by, receive_named, receive_on_endpoint}
use Rattle.model.specs.Kernel.Steps.{receive_on_notification, refused, registers_of, send_by, send_named, send_on, sender, system_call}
use Rattle.model.specs.Kernel.Waits.{is_fault}
use Rattle.model.specs.Machine.Effects.{advanced}
use Rattle.model.specs.Machine.ProgramMemory.{RegisterFile, read, write}
use Rattle.response.specs.Asking.{Accepts, Asked, Calls, SendsTo, Takes, Tries, asked_by, asked_known, asked_to_receive, asked_to_send, capability_found}
use Rattle.response.proofs.AskedNow.{asked_now, may_wait}
use Rattle.response.proofs.Interrupts.{put-at, put-off, thread-of}
use Rattle.response.proofs.OwnCalls.{OthersWait, answered-pc, awaits-none, elsewhere-pc, handles-none, passes-pc, passes_with-pc, pc_at, replied-slots}
use Rattle.response.proofs.OwnCalls.{replied-there, same-names, waits-on, write-pc}

-- ---- statuses

abbrev pub status_at : State → ℕ → Status
status_at s x = (thread_at s x).status

passes-status : (m : State) (x : ℕ) → status_at (passes m x) x ≡ status_at m x
passes-status m x = ap (λ (o : Option Object). (thread-of o).status)
    (put-at m.objects x (Some (ThreadObject (record (thread_at m x) { registers = advanced (thread_at m x).registers }))))

passes_with-status : (m : State) (x : ℕ) (r : RegisterFile) → status_at (passes_with m x r) x ≡ status_at m x
passes_with-status m x r =
    passes-status (with_registers m x r) x
    ∙ ap (λ (o : Option Object). (thread-of o).status) (put-at m.objects x (Some (ThreadObject (record (thread_at m x) { registers = r }))))

answered-status : (m : State) (x : ℕ) (kind : SendCall) (number : ℕ) → status_at (answered m x kind number) x ≡ status_at m x
answered-status m x Calling number = passes_with-status m x (write (write (registers_of m x) a0 0) a1 (info_word number 0))
answered-status m x Sending number = passes-status m x
answered-status m x Trying number = passes-status m x

block-status : (m : State) (x : ℕ) (status : Status) → status_at (block m x status) x ≡ status
block-status m x status = ap (λ (o : Option Object). (thread-of o).status) (put-at m.objects x
    (Some (ThreadObject (record (thread_at m x) { status = status }))))

block-registers : (m : State) (x : ℕ) (status : Status) → registers_of (block m x status) x ≡ registers_of m x
block-registers m x status = ap (λ (o : Option Object). (thread-of o).registers) (put-at m.objects x
    (Some (ThreadObject (record (thread_at m x) { status = status }))))

block-pc : (m : State) (x : ℕ) (status : Status) → pc_at (block m x status) x ≡ pc_at m x
block-pc m x status = ap (λ (r : RegisterFile). r.pc) (block-registers m x status)

pub block-off : (m : State) (y x : ℕ) (status : Status) → x ≢ y → (block m y status).objects x ≡ m.objects x
block-off m y x status other = put-off m.objects y x (Some (ThreadObject (record (thread_at m y) { status = status }))) other

caller-status : (m : State) (x : ℕ) (caller : Option ℕ) → status_at (with_caller m x caller) x ≡ status_at m x
caller-status m x caller = ap (λ (o : Option Object). (thread-of o).status)
    (put-at m.objects x (Some (ThreadObject (record (thread_at m x) { caller = caller }))))

caller-registers : (m : State) (x : ℕ) (caller : Option ℕ) → registers_of (with_caller m x caller) x ≡ registers_of m x
caller-registers m x caller = ap (λ (o : Option Object). (thread-of o).registers)
    (put-at m.objects x (Some (ThreadObject (record (thread_at m x) { caller = caller }))))

caller-is : (m : State) (x : ℕ) (caller : Option ℕ) → (thread_at (with_caller m x caller) x).caller ≡ caller
caller-is m x caller = ap (λ (o : Option Object). (thread-of o).caller)
    (put-at m.objects x (Some (ThreadObject (record (thread_at m x) { caller = caller }))))

pub caller-off : (m : State) (y x : ℕ) (caller : Option ℕ) → x ≢ y → (with_caller m y caller).objects x ≡ m.objects x
caller-off m y x caller other = put-off m.objects y x (Some (ThreadObject (record (thread_at m y) { caller = caller }))) other

elsewhere-registers : (m after : State) (x : ℕ) → after.objects x ≡ m.objects x → registers_of after x ≡ registers_of m x
elsewhere-registers m after x same = ap (λ (o : Option Object). (thread-of o).registers) same

pub elsewhere-status : (m after : State) (x : ℕ) → after.objects x ≡ m.objects x → status_at after x ≡ status_at m x
elsewhere-status m after x same = ap (λ (o : Option Object). (thread-of o).status) same

-- a thread that goes on, and one that is woken
pub passes-off : (m : State) (y x : ℕ) → x ≢ y → (passes m y).objects x ≡ m.objects x
passes-off m y x other =
    put-off m.objects y x (Some (ThreadObject (record (thread_at m y) { registers = advanced (thread_at m y).registers }))) other

pub wake-off : (m : State) (y x : ℕ) → x ≢ y → (wake m y).objects x ≡ m.objects x
wake-off m y x other = put-off m.objects y x (Some (ThreadObject (record (thread_at m y) { status = Runnable; slice = full_slice }))) other

pub wake-status : (m : State) (y : ℕ) → status_at (wake m y) y ≡ Runnable
wake-status m y = ap (λ (o : Option Object). (thread-of o).status)
    (put-at m.objects y (Some (ThreadObject (record (thread_at m y) { status = Runnable; slice = full_slice }))))

registers-off : (m : State) (y x : ℕ) (r : RegisterFile) → x ≢ y → (with_registers m y r).objects x ≡ m.objects x
registers-off m y x r other = put-off m.objects y x (Some (ThreadObject (record (thread_at m y) { registers = r }))) other

-- a delivery changes who gets it alone
pub sent-off : (m : State) (first : Sender) (y x : ℕ) → x ≢ y → (deliver_sent m first y).objects x ≡ m.objects x
sent-off m first y x other =
    let one : State = record m { bytes = bytes_sent m first first.sent y } in
    let r = delivered (thread_at one y).registers first.badge (message_to m first first.sent y) in
    passes-off (with_registers one y r) y x other ∙ registers-off one y x r other

-- a delivery leaves the pc of the registers
words-pc : (r : RegisterFile) (registers : List Register) (words : List ℕ)
    → (write_words r registers words).pc ≡ r.pc
words-pc r registers [] = refl
words-pc r [] (word ∷ words) = refl
words-pc r (y ∷ registers) (word ∷ words) = words-pc (write r y word) registers words ∙ write-pc r y word

pub delivered-pc : (r : RegisterFile) (badge : ℕ) (message : Message) → (delivered r badge message).pc ≡ r.pc
delivered-pc r badge message =
    let info = info_word message.label message.count in
    words-pc (write (write r a0 badge) a1 info) word_registers message.words ∙ write-pc (write r a0 badge) a1 info
    ∙ write-pc r a0 badge

sent-registers : (m : State) (first : Sender) (y : ℕ)
    → registers_of (deliver_sent m first y) y ≡ advanced (delivered (registers_of m y) first.badge (message_to m first first.sent y))
sent-registers m first y =
    let one : State = record m { bytes = bytes_sent m first first.sent y } in
    let r = delivered (thread_at one y).registers first.badge (message_to m first first.sent y) in
    ap (λ (o : Option Object). (thread-of o).registers)
    (put-at (with_registers one y r).objects y
    (Some (ThreadObject (record (thread_at (with_registers one y r) y) { registers = advanced (thread_at (with_registers one y r) y).registers }))))
    ∙ ap (λ (o : Option Object). advanced (thread-of o).registers)
    (put-at one.objects y (Some (ThreadObject (record (thread_at one y) { registers = r }))))

sent-pc : (m : State) (first : Sender) (y : ℕ) → pc_at (deliver_sent m first y) y ≡ (pc_at m y + 4) % 2 ^ 32
sent-pc m first y =
    let one : State = record m { bytes = bytes_sent m first first.sent y } in
    let message = message_to m first first.sent y in
    passes_with-pc one y (delivered (thread_at one y).registers first.badge message) (delivered-pc (thread_at one y).registers first.badge message)

sent-status : (m : State) (first : Sender) (y : ℕ) → status_at (deliver_sent m first y) y ≡ status_at m y
sent-status m first y =
    let one : State = record m { bytes = bytes_sent m first first.sent y } in
    passes_with-status one y (delivered (thread_at one y).registers first.badge (message_to m first first.sent y))

-- ---- what is left of the thread

-- registers that stay have the pc that they had
pub stays-pc : (s after : State) (x : ℕ) → registers_of after x ≡ registers_of s x → pc_at after x ≡ pc_at s x
stays-pc s after x same = ap (λ (r : RegisterFile). r.pc) same

-- after Send and Call
pub data SendEnds (s : State) (x e : ℕ) (is_call : Bool) (after : State) : Type 0 where
  sent_passed : status_at after x ≡ Runnable → pc_at after x ≡ (pc_at s x + 4) % 2 ^ 32 → SendEnds s x e is_call after
  sent_queued : status_at after x ≡ Blocked e → registers_of after x ≡ registers_of s x → (q : EndpointState) → s.objects e ≡ Some (EndpointObject q)
      → q.receivers ≡ [] → SendEnds s x e is_call after
  sent_awaits : (y : ℕ) (rest : List ℕ) → status_at after x ≡ AwaitsReply → registers_of after x ≡ registers_of s x → is_call ≡ true
      → (endpoint_at s e).receivers ≡ y ∷ rest → (thread_at after y).caller ≡ Some x → SendEnds s x e is_call after
  sent_stopped : status_at after x ≡ Inactive → SendEnds s x e is_call after

-- after Recv and ReplyRecv on an endpoint
pub data ReceiveEnds (s : State) (x e : ℕ) (after : State) : Type 0 where
  got_one : (first : Sender) (others : List Sender) → status_at after x ≡ Runnable → pc_at after x ≡ (pc_at s x + 4) % 2 ^ 32
      → (endpoint_at s e).senders ≡ first ∷ others → (status_at after first.thread ≡ Blocked e → ⊥)
      → (first.sent ≡ ByCall → first.grant_reply ≡ true → (thread_at after x).caller ≡ Some first.thread) → (message : Message)
      → registers_of after x ≡ advanced (delivered (registers_of s x) first.badge message) → ReceiveEnds s x e after
  stays_there : status_at after x ≡ Blocked e → pc_at after x ≡ pc_at s x → (endpoint_at s e).senders ≡ [] → ReceiveEnds s x e after

-- and on a notification
pub data TakeEnds (s : State) (x o : ℕ) (after : State) : Type 0 where
  got_word : is_runnable (status_at after x) ≡ true → pc_at after x ≡ (pc_at s x + 4) % 2 ^ 32 → TakeEnds s x o after
  stays_on : status_at after x ≡ Blocked o → pc_at after x ≡ pc_at s x → TakeEnds s x o after

-- ---- calls that do not wait

quiet-polls : (c : Cap) → may_wait (asked_to_receive false Polling c) ≡ false
quiet-polls (Endpoint offset r badge) = refl
quiet-polls (Notification offset r badge) = refl
quiet-polls Empty = refl
quiet-polls (Untyped offset bits watermark) = refl
quiet-polls (CNode offset radix guard) = refl
quiet-polls (Frame offset r mapping) = refl
quiet-polls (PageTable offset mapping) = refl
quiet-polls (Tcb offset) = refl
quiet-polls (RootTable offset) = refl
quiet-polls InterruptControl = refl
quiet-polls (InterruptHandler irq_line) = refl

-- ---- the calls of a thread that runs

module _ (s : State) (x : ℕ) (own : ThreadState) (there : s.objects x ≡ Some (ThreadObject own)) (status : own.status ≡ Runnable) (address place : ℕ)
    (bells : (slot o : ℕ) (r : Rights) (badge : ℕ) → named_slot s x ≡ Ok slot → capability_at s.slots slot ≡ Notification o r badge
    → (o ≢ x) × ((w : ℕ) (others : List ℕ) → (notification_at s o).waiters ≡ w ∷ others → x ≢ w))
    (doors : (slot e : ℕ) (r : Rights) (badge : ℕ) → named_slot s x ≡ Ok slot → capability_at s.slots slot ≡ Endpoint e r badge → OthersWait s e x)
    (gates : (slot e : ℕ) (r : Rights) (badge : ℕ) → named_slot s x ≡ Ok slot → capability_at s.slots slot ≡ Endpoint e r badge
    → (q : EndpointState) × (s.objects e ≡ Some (EndpointObject q))) where
  own-runs : status_at s x ≡ Runnable
  own-runs = ap (λ (o : Option Object). (thread-of o).status) there ∙ status

  abbrev NoFault : Done → Type 0
  NoFault done = is_fault (Ran address place done.1) ≡ false

  faulted : {A : Type 0} (done : Done) → is_fault (Ran address place done.1) ≡ true → NoFault done → A
  faulted done is free = let clash : true ≡ false = sym is ∙ free in absurd cc

  -- ---- a state in which it is to receive

  record IsReadyAs (m : State) : Type 0 where
    pub runs : status_at m x ≡ Runnable
    pub registers : registers_of m x ≡ registers_of s x
    pub slots : m.slots ≡ s.slots
    pub gate : (e : ℕ) (q : EndpointState) → s.objects e ≡ Some (EndpointObject q) → m.objects e ≡ Some (EndpointObject q)

  ready-now : IsReadyAs s
  ready-now = record { runs = own-runs; registers = refl; slots = refl; gate = λ e q is. is }

  gate-apart : (e : ℕ) (q : EndpointState) → s.objects e ≡ Some (EndpointObject q) → e ≢ x
  gate-apart e q is same =
      let clash : Some (EndpointObject q) ≡ Some (ThreadObject own) = sym is ∙ ap s.objects same ∙ there in
      absurd cc

  gate-awaits : (e caller : ℕ) (q : EndpointState) (some : Status) → s.objects e ≡ Some (EndpointObject q) → (thread_at s caller).status ≡ some
      → (Inactive ≡ some → ⊥) → e ≢ caller
  gate-awaits e caller q some is awaits other same =
      other (sym (ap (λ (object : Option Object). (thread-of object).status) is) ∙ ap (λ (k : ℕ). (thread_at s k).status) same ∙ awaits)

  by-caller : (caller : Option ℕ) → IsReadyAs (option_map_or (λ c. replied (with_caller s x None) x c (thread_at s c).status (message_between s x c)) caller s)
  by-caller None = ready-now
  by-caller (Some caller) =
      let ready = with_caller s x None in
      let message = message_between s x caller in
      let mine = replied-there ready x caller x (thread_at s caller).status message (awaits-none s x own there status address place caller)
      (handles-none s x own there status address place caller) in
      record {
        runs = ap (λ (o : Option Object). (thread-of o).status) mine ∙ caller-status s x None ∙ own-runs;
        registers = ap (λ (o : Option Object). (thread-of o).registers) mine ∙ caller-registers s x None;
        slots = replied-slots ready x caller (thread_at s caller).status message;
        gate = λ e q is.
            replied-there ready x caller e (thread_at s caller).status message
            (λ awaits. gate-awaits e caller q AwaitsReply is awaits (λ clash. absurd cc))
            (λ awaits. gate-awaits e caller q AwaitsHandler is awaits (λ clash. absurd cc))
            ∙ caller-off s x e None (gate-apart e q is) ∙ is;
      }

  ready-after-reply : IsReadyAs (reply s x)
  ready-after-reply = by-caller (thread_at s x).caller

  -- ---- which call it is

  data Does (asked : Asked) (done : Done) : Type 0 where
    does_send : (kind : SendCall) (slot e : ℕ) (r : Rights) (badge : ℕ) → named_slot s x ≡ Ok slot → capability_at s.slots slot ≡ Endpoint e r badge
        → done ≡ send_by s x kind slot (Endpoint e r badge) → asked ≡ asked_to_send kind (Endpoint e r badge) → Does asked done
    does_accept : (replies : Bool) (m : State) (slot e : ℕ) (r : Rights) (badge : ℕ) → IsReadyAs m → named_slot s x ≡ Ok slot
        → capability_at s.slots slot ≡ Endpoint e r badge → done ≡ receive_by m x Receiving (Endpoint e r badge) → asked ≡ Accepts e replies
        → Does asked done
    does_take : (replies : Bool) (m : State) (slot o : ℕ) (r : Rights) (badge : ℕ) → IsReadyAs m → named_slot s x ≡ Ok slot
        → capability_at s.slots slot ≡ Notification o r badge → done ≡ receive_by m x Receiving (Notification o r badge) → asked ≡ Takes o
        → Does asked done
    does_fault : is_fault (Ran address place done.1) ≡ true → Does asked done

  no-wait : {A : Type 0} (asked : Asked) → may_wait asked ≡ true → may_wait asked ≡ false → A
  no-wait asked some none = let clash : true ≡ false = sym some ∙ none in absurd cc

  sent-does : (kind : SendCall) (slot : ℕ) (c : Cap) → named_slot s x ≡ Ok slot → capability_at s.slots slot ≡ c → may_wait (asked_to_send kind c) ≡ true
      → Does (asked_to_send kind c) (send_by s x kind slot c)
  sent-does kind slot (Endpoint e r badge) named is some = does_send kind slot e r badge named is refl refl
  sent-does kind slot (Notification o r badge) named is some = no-wait (asked_to_send kind (Notification o r badge)) some refl
  sent-does kind slot Empty named is some = no-wait (asked_to_send kind Empty) some refl
  sent-does kind slot (Untyped offset bits watermark) named is some = no-wait (asked_to_send kind (Untyped offset bits watermark)) some refl
  sent-does kind slot (CNode offset radix guard) named is some = no-wait (asked_to_send kind (CNode offset radix guard)) some refl
  sent-does kind slot (Frame offset r mapping) named is some = no-wait (asked_to_send kind (Frame offset r mapping)) some refl
  sent-does kind slot (PageTable offset mapping) named is some = no-wait (asked_to_send kind (PageTable offset mapping)) some refl
  sent-does kind slot (Tcb offset) named is some = no-wait (asked_to_send kind (Tcb offset)) some refl
  sent-does kind slot (RootTable offset) named is some = no-wait (asked_to_send kind (RootTable offset)) some refl
  sent-does kind slot InterruptControl named is some = no-wait (asked_to_send kind InterruptControl) some refl
  sent-does kind slot (InterruptHandler irq_line) named is some = no-wait (asked_to_send kind (InterruptHandler irq_line)) some refl

  sent-by : (kind : SendCall) (r : Result ℕ LookupFailure) → named_slot s x ≡ r → may_wait (asked_to_send kind (capability_found s.slots r)) ≡ true
      → Does (asked_to_send kind (capability_found s.slots r)) (send_named s x kind r)
  sent-by kind (Ok slot) named some = sent-does kind slot (capability_at s.slots slot) named refl some
  sent-by kind (Err failure) named some = no-wait (asked_to_send kind Empty) some refl

  received-does : (replies : Bool) (m : State) → IsReadyAs m → (slot : ℕ) (c : Cap) → named_slot s x ≡ Ok slot → capability_at s.slots slot ≡ c
      → may_wait (asked_to_receive replies Receiving c) ≡ true → Does (asked_to_receive replies Receiving c) (receive_by m x Receiving c)
  received-does replies m ready slot (Endpoint e r badge) named is some = does_accept replies m slot e r badge ready named is refl refl
  received-does replies m ready slot (Notification o r badge) named is some = does_take replies m slot o r badge ready named is refl refl
  received-does replies m ready slot Empty named is some = does_fault refl
  received-does replies m ready slot (Untyped offset bits watermark) named is some = does_fault refl
  received-does replies m ready slot (CNode offset radix guard) named is some = does_fault refl
  received-does replies m ready slot (Frame offset r mapping) named is some = does_fault refl
  received-does replies m ready slot (PageTable offset mapping) named is some = does_fault refl
  received-does replies m ready slot (Tcb offset) named is some = does_fault refl
  received-does replies m ready slot (RootTable offset) named is some = does_fault refl
  received-does replies m ready slot InterruptControl named is some = does_fault refl
  received-does replies m ready slot (InterruptHandler irq_line) named is some = does_fault refl

  received-by : (replies : Bool) (m : State) → IsReadyAs m → (r : Result ℕ LookupFailure) → named_slot s x ≡ r
      → may_wait (asked_to_receive replies Receiving (capability_found s.slots r)) ≡ true
      → Does (asked_to_receive replies Receiving (capability_found s.slots r)) (receive_named m x Receiving r)
  received-by replies m ready (Ok slot) named some =
      subst (λ (c : Cap). Does (asked_to_receive replies Receiving (capability_at s.slots slot)) (receive_by m x Receiving c))
      (ap (λ (all : Slots). capability_at all slot) (sym (IsReadyAs.slots ready)))
      (received-does replies m ready slot (capability_at s.slots slot) named refl some)
  received-by replies m ready (Err failure) named some = does_fault refl

  by-call : (call : SystemCall) → may_wait (asked_by call (capability_found s.slots (named_slot s x))) ≡ true
      → Does (asked_by call (capability_found s.slots (named_slot s x))) (calls s x call)
  by-call (Sends kind) some = sent-by kind (named_slot s x) refl some
  by-call (Receives Receiving) some = received-by false s ready-now (named_slot s x) refl some
  by-call (Receives Polling) some =
      no-wait (asked_to_receive false Polling (capability_found s.slots (named_slot s x))) some (quiet-polls (capability_found s.slots (named_slot s x)))
  by-call RepliesAndReceives some =
      subst (λ (r : Result ℕ LookupFailure). Does (asked_to_receive true Receiving (capability_found s.slots (named_slot s x)))
      (receive_named (reply s x) x Receiving r))
      (sym (same-names s x own there status address place).named) (received-by true (reply s x) ready-after-reply (named_slot s x) refl some)
  by-call Replies some = let clash : false ≡ true = some in absurd cc
  by-call Yields some = let clash : false ≡ true = some in absurd cc
  by-call PutsCharacter some = let clash : false ≡ true = some in absurd cc

  by-number : (number : ℕ) (call : Option SystemCall) → may_wait (asked_known call (capability_found s.slots (named_slot s x))) ≡ true
      → Does (asked_known call (capability_found s.slots (named_slot s x))) (calls_known s x number call)
  by-number number (Some call) some = by-call call some
  by-number number None some = let clash : false ≡ true = some in absurd cc

  does : may_wait (asked_now s x) ≡ true → Does (asked_now s x) (system_call s x)
  unfolding system_call
  does some = by-number (read (registers_of s x) a7) (call_of (read (registers_of s x) a7)) some

  -- ---- Send and Call

  module _ (e : ℕ) (others : OthersWait s e x) (q : EndpointState) (is : s.objects e ≡ Some (EndpointObject q)) where
    at_gate : (endpoint_at s e).receivers ≡ q.receivers
    at_gate = ap (λ (o : Option Object). (option_map_or (λ (u : EndpointState). u) (as_endpoint o) new_endpoint).receivers) is

    abbrev fewer : List ℕ → State
    fewer rest = with_endpoint s e (record (endpoint_at s e) { receivers = rest })

    fewer-off : (rest : List ℕ) → (fewer rest).objects x ≡ s.objects x
    fewer-off rest = put-off s.objects e x (Some (EndpointObject (record (endpoint_at s e) { receivers = rest }))) (λ same. others.apart (sym same))

    abbrev joined : Sender → State
    joined mine = with_endpoint s e (record (endpoint_at s e) { senders = (endpoint_at s e).senders ++ mine ∷ [] })

    joined-off : (mine : Sender) → (joined mine).objects x ≡ s.objects x
    joined-off mine =
        put-off s.objects e x (Some (EndpointObject (record (endpoint_at s e) { senders = (endpoint_at s e).senders ++ mine ∷ [] })))
        (λ same. others.apart (sym same))

    -- whoever gets the message, the thread is where it was
    reached-off : (mine : Sender) (y : ℕ) (rest : List ℕ) → x ≢ y → (wake (deliver_sent (fewer rest) mine y) y).objects x ≡ s.objects x
    reached-off mine y rest other = wake-off (deliver_sent (fewer rest) mine y) y x other ∙ sent-off (fewer rest) mine y x other ∙ fewer-off rest

    send-ends : (badge : ℕ) (grants : Bool) (l : List ℕ) → (endpoint_at s e).receivers ≡ l
        → SendEnds s x e false (sends s e (sender x BySend badge grants) l)
    send-ends badge grants [] nobody =
        let mine = sender x BySend badge grants in
        sent_queued (block-status (joined mine) x (Blocked e))
        (block-registers (joined mine) x (Blocked e) ∙ elsewhere-registers s (joined mine) x (joined-off mine)) q is (sym at_gate ∙ nobody)
    send-ends badge grants (y ∷ rest) first =
        let mine = sender x BySend badge grants in
        let other = others.receivers y rest first in
        let m = wake (deliver_sent (fewer rest) mine y) y in
        sent_passed (passes-status m x ∙ elsewhere-status s m x (reached-off mine y rest other) ∙ own-runs)
        (passes-pc m x ∙ ap (λ (k : ℕ). (k + 4) % 2 ^ 32) (elsewhere-pc s m x (reached-off mine y rest other)))

    call-ends : (badge : ℕ) (grants : Bool) (l : List ℕ) → (endpoint_at s e).receivers ≡ l
        → SendEnds s x e true (sends s e (sender x ByCall badge grants) l)
    call-ends badge grants [] nobody =
        let mine = sender x ByCall badge grants in
        sent_queued (block-status (joined mine) x (Blocked e))
        (block-registers (joined mine) x (Blocked e) ∙ elsewhere-registers s (joined mine) x (joined-off mine)) q is (sym at_gate ∙ nobody)
    call-ends badge true (y ∷ rest) first =
        let mine = sender x ByCall badge true in
        let other = others.receivers y rest first in
        let m = wake (deliver_sent (fewer rest) mine y) y in
        let stopped_ = block m x AwaitsReply in
        sent_awaits y rest
        (elsewhere-status stopped_ (with_caller stopped_ y (Some x)) x (caller-off stopped_ y x (Some x) other) ∙ block-status m x AwaitsReply)
        (elsewhere-registers stopped_ (with_caller stopped_ y (Some x)) x (caller-off stopped_ y x (Some x) other) ∙ block-registers m x AwaitsReply
        ∙ elsewhere-registers s m x (reached-off mine y rest other)) refl first (caller-is stopped_ y (Some x))
    call-ends badge false (y ∷ rest) first =
        let mine = sender x ByCall badge false in
        sent_stopped (block-status (wake (deliver_sent (fewer rest) mine y) y) x Inactive)

    abbrev Refused : SendCall → State
    Refused kind = (refused s x kind InvalidCapability).0

    refused-ends : (kind : SendCall) (is_call : Bool) → SendEnds s x e is_call (Refused kind)
    refused-ends kind is_call =
        sent_passed (answered-status s x kind _ ∙ own-runs) (answered-pc s x kind _)

  -- ---- Recv and ReplyRecv

  module _ (m : State) (ready : IsReadyAs m) (e : ℕ) (q : EndpointState) (is : s.objects e ≡ Some (EndpointObject q)) (others : OthersWait s e x) where
    abbrev dropped : State
    dropped = with_caller m x None

    at_dropped : endpoint_at dropped e ≡ endpoint_at s e
    at_dropped =
        ap (λ (o : Option Object). option_map_or (λ (u : EndpointState). u) (as_endpoint o) new_endpoint)
        (caller-off m x e None others.apart ∙ IsReadyAs.gate ready e q is ∙ sym is)

    abbrev short : List Sender → State
    short rest = with_endpoint dropped e (record (endpoint_at dropped e) { senders = rest })

    short-off : (rest : List Sender) → (short rest).objects x ≡ dropped.objects x
    short-off rest = put-off dropped.objects e x (Some (EndpointObject (record (endpoint_at dropped e) { senders = rest }))) (λ same. others.apart (sym same))

    abbrev waiting : State
    waiting = with_endpoint dropped e (record (endpoint_at dropped e) { receivers = (endpoint_at dropped e).receivers ++ x ∷ [] })

    waiting-off : waiting.objects x ≡ dropped.objects x
    waiting-off = put-off dropped.objects e x (Some (EndpointObject (record (endpoint_at dropped e)
        { receivers = (endpoint_at dropped e).receivers ++ x ∷ [] })))
        (λ same. others.apart (sym same))

    dropped-registers : registers_of dropped x ≡ registers_of s x
    dropped-registers = caller-registers m x None ∙ IsReadyAs.registers ready

    dropped-pc : pc_at dropped x ≡ pc_at s x
    dropped-pc = stays-pc s dropped x dropped-registers

    dropped-runs : status_at dropped x ≡ Runnable
    dropped-runs = caller-status m x None ∙ IsReadyAs.runs ready

    -- the sender, once its message is received, and the thread that receives it
    got-registers : (v : State) (first : Sender) (kind : Sent) → x ≢ first.thread
        → registers_of (received_waiting v first kind x) x ≡ registers_of v x
    got-registers v first BySend other =
        elsewhere-registers v (wake (passes v first.thread) first.thread) x
        (wake-off (passes v first.thread) first.thread x other ∙ passes-off v first.thread x other)
    got-registers v first ByCall other = elim first.grant_reply
        as (λ b. registers_of (if b then with_caller (block v first.thread AwaitsReply) x (Some first.thread) else block v first.thread Inactive) x
        ≡ registers_of v x) [
          | true ↦ caller-registers (block v first.thread AwaitsReply) x (Some first.thread)
              ∙ elsewhere-registers v (block v first.thread AwaitsReply) x (block-off v first.thread x AwaitsReply other)
          | false ↦ elsewhere-registers v (block v first.thread Inactive) x (block-off v first.thread x Inactive other)
        ]
    got-registers v first (ByFault fault) other =
        caller-registers (block v first.thread AwaitsHandler) x (Some first.thread)
        ∙ elsewhere-registers v (block v first.thread AwaitsHandler) x (block-off v first.thread x AwaitsHandler other)

    got-status : (v : State) (first : Sender) (kind : Sent) → x ≢ first.thread → status_at (received_waiting v first kind x) x ≡ status_at v x
    got-status v first BySend other =
        elsewhere-status v (wake (passes v first.thread) first.thread) x
        (wake-off (passes v first.thread) first.thread x other ∙ passes-off v first.thread x other)
    got-status v first ByCall other = elim first.grant_reply
        as (λ b. status_at (if b then with_caller (block v first.thread AwaitsReply) x (Some first.thread) else block v first.thread Inactive) x
        ≡ status_at v x) [
          | true ↦ caller-status (block v first.thread AwaitsReply) x (Some first.thread)
              ∙ elsewhere-status v (block v first.thread AwaitsReply) x (block-off v first.thread x AwaitsReply other)
          | false ↦ elsewhere-status v (block v first.thread Inactive) x (block-off v first.thread x Inactive other)
        ]
    got-status v first (ByFault fault) other =
        caller-status (block v first.thread AwaitsHandler) x (Some first.thread)
        ∙ elsewhere-status v (block v first.thread AwaitsHandler) x (block-off v first.thread x AwaitsHandler other)

    -- the right to reply to one that calls
    got-right : (v : State) (first : Sender) → first.sent ≡ ByCall → first.grant_reply ≡ true
        → (thread_at (received_waiting v first first.sent x) x).caller ≡ Some first.thread
    got-right v first sent grants =
        ap (λ (k : Sent). (thread_at (received_waiting v first k x) x).caller) sent
        ∙ ap (λ (b : Bool). (thread_at (if b then with_caller (block v first.thread AwaitsReply) x (Some first.thread) else
        block v first.thread Inactive) x).caller) grants ∙ caller-is (block v first.thread AwaitsReply) x (Some first.thread)

    -- the sender waits there denied more
    gone-status : (v : State) (first : Sender) (kind : Sent) → x ≢ first.thread → status_at (received_waiting v first kind x) first.thread ≡ Blocked e → ⊥
    gone-status v first BySend other blocked =
        let clash : Runnable ≡ Blocked e = sym (wake-status (passes v first.thread) first.thread) ∙ blocked in absurd cc
    gone-status v first ByCall other blocked_now = (elim first.grant_reply
        as (λ b. status_at (if b then with_caller (block v first.thread AwaitsReply) x (Some first.thread) else block v first.thread Inactive) first.thread
        ≡ Blocked e → ⊥) [
          | true ↦ λ blocked.
              let y = first.thread in
              let w = block v y AwaitsReply in
              let clash : AwaitsReply ≡ Blocked e =
              sym (elsewhere-status w (with_caller w x (Some y)) y (caller-off w x y (Some y) (λ same. other (sym same))) ∙ block-status v y AwaitsReply)
              ∙ blocked in absurd cc
          | false ↦ λ blocked. let clash : Inactive ≡ Blocked e = sym (block-status v first.thread Inactive) ∙ blocked in absurd cc
        ]) blocked_now
    gone-status v first (ByFault fault) other blocked =
        let y = first.thread in
        let w = block v y AwaitsHandler in
        let clash : AwaitsHandler ≡ Blocked e =
        sym (elsewhere-status w (with_caller w x (Some y)) y (caller-off w x y (Some y) (λ same. other (sym same))) ∙ block-status v y AwaitsHandler)
        ∙ blocked in absurd cc

    by-senders : (l : List Sender) → (endpoint_at s e).senders ≡ l → ReceiveEnds s x e (receives dropped e x (waits_to_receive dropped e x) l)
    by-senders [] nobody =
        stays_there (block-status waiting x (Blocked e)) (block-pc waiting x (Blocked e) ∙ elsewhere-pc dropped waiting x waiting-off ∙ dropped-pc) nobody
    by-senders (first ∷ rest) head =
        let other = others.senders first rest head in
        let v = deliver_sent (short rest) first x in
        got_one first rest
        (got-status v first first.sent other ∙ sent-status (short rest) first x ∙ elsewhere-status dropped (short rest) x (short-off rest) ∙ dropped-runs)
        (stays-pc v (received_waiting v first first.sent x) x (got-registers v first first.sent other) ∙ sent-pc (short rest) first x
        ∙ ap (λ (k : ℕ). (k + 4) % 2 ^ 32) (elsewhere-pc dropped (short rest) x (short-off rest) ∙ dropped-pc))
        head (gone-status v first first.sent other) (got-right v first) (message_to (short rest) first first.sent x)
        (got-registers v first first.sent other ∙ sent-registers (short rest) first x
        ∙ ap (λ (r : RegisterFile). advanced (delivered r first.badge (message_to (short rest) first first.sent x)))
        (elsewhere-registers dropped (short rest) x (short-off rest) ∙ dropped-registers))

    receive-ends : ReceiveEnds s x e (receive m e x)
    receive-ends =
        by-senders (endpoint_at dropped e).senders (ap (λ (u : EndpointState). u.senders) (sym at_dropped))

  -- ---- on a notification

  module _ (m : State) (ready : IsReadyAs m) (o : ℕ) (apart : o ≢ x) where
    abbrev queue : State
    queue = with_notification m o (record (notification_at m o) { waiters = (notification_at m o).waiters ++ x ∷ [] })

    queue-off : queue.objects x ≡ m.objects x
    queue-off = put-off m.objects o x (Some (NotificationObject (record (notification_at m o) { waiters = (notification_at m o).waiters ++ x ∷ [] })))
        (λ same. apart (sym same))

    abbrev emptied : State
    emptied = with_notification m o (record (notification_at m o) { word = 0 })

    by-word : (b : Bool) → (notification_at m o).word == 0 ≡ b → TakeEnds s x o (wait m o x)
    by-word true none =
        subst (λ (z : State). TakeEnds s x o z)
        (sym (ap (λ (b : Bool). if b then waits_for_signal m o x else deliver_word emptied x (notification_at m o).word) none))
        (stays_on (block-status queue x (Blocked o))
        (block-pc queue x (Blocked o) ∙ elsewhere-pc m queue x queue-off ∙ stays-pc s m x (IsReadyAs.registers ready)))
    by-word false some = elim (is_runnable (status_at (wait m o x) x)) as (λ b. is_runnable (status_at (wait m o x) x) ≡ b → TakeEnds s x o (wait m o x)) [
      | true ↦ λ runs. got_word runs
          ((waits-on s x own there status address place m o apart runs).pc ∙ ap (λ (k : ℕ). (k + 4) % 2 ^ 32) (stays-pc s m x (IsReadyAs.registers ready)))
      | false ↦ λ rests. absurd (let clash : true ≡ false = sym runs-then ∙ rests in cc)
    ] refl
      where
        runs-then : is_runnable (status_at (wait m o x) x) ≡ true
        runs-then =
            ap (λ (b : Bool). is_runnable (status_at (if b then waits_for_signal m o x else
            deliver_word emptied x (notification_at m o).word) x)) some
            ∙ ap is_runnable (passes_with-status emptied x (write (thread_at emptied x).registers a0 (notification_at m o).word)
            ∙ elsewhere-status m emptied x (put-off m.objects o x (Some (NotificationObject (record (notification_at m o) { word = 0 })))
            (λ same. apart (sym same))) ∙ IsReadyAs.runs ready)

  -- ---- the whole

  either-way : (P : State → Type 0) (test : Bool) (one other : Done) → (NoFault one → P one.0) → (NoFault other → P other.0)
      → NoFault (if test then one else other) → P (if test then one else other).0
  either-way P true one other first second = first
  either-way P false one other first second = second

  one-send : {a b : ℕ} → SendsTo a ≡ SendsTo b → a ≡ b
  one-send both = cc

  one-call : {a b : ℕ} → Calls a ≡ Calls b → a ≡ b
  one-call both = cc

  one-accept : {a b : ℕ} {c d : Bool} → Accepts a c ≡ Accepts b d → a ≡ b
  one-accept both = cc

  one-take : {a b : ℕ} → Takes a ≡ Takes b → a ≡ b
  one-take both = cc

  send-by-ends : (slot e : ℕ) (r : Rights) (badge : ℕ) → OthersWait s e x → (q : EndpointState) → s.objects e ≡ Some (EndpointObject q)
      → NoFault (send_by s x Sending slot (Endpoint e r badge))
      → SendEnds s x e false (send_by s x Sending slot (Endpoint e r badge)).0
  send-by-ends slot e r badge others q is =
      either-way (SendEnds s x e false) (may_write r) (send_on s x Sending e badge (may_grant_reply r)) (refused s x Sending InvalidCapability)
      (λ free. send-ends e others q is badge (may_grant_reply r) (endpoint_at s e).receivers refl) (λ free. refused-ends e others q is Sending false)

  call-by-ends : (slot e : ℕ) (r : Rights) (badge : ℕ) → OthersWait s e x → (q : EndpointState) → s.objects e ≡ Some (EndpointObject q)
      → NoFault (send_by s x Calling slot (Endpoint e r badge))
      → SendEnds s x e true (send_by s x Calling slot (Endpoint e r badge)).0
  call-by-ends slot e r badge others q is =
      either-way (SendEnds s x e true) (may_write r) (send_on s x Calling e badge (may_grant_reply r)) (refused s x Calling InvalidCapability)
      (λ free. call-ends e others q is badge (may_grant_reply r) (endpoint_at s e).receivers refl) (λ free. refused-ends e others q is Calling true)

  accept-by-ends : (m : State) → IsReadyAs m → (e : ℕ) (r : Rights) (badge : ℕ) (q : EndpointState) → s.objects e ≡ Some (EndpointObject q)
      → OthersWait s e x → NoFault (receive_by m x Receiving (Endpoint e r badge)) → ReceiveEnds s x e (receive_by m x Receiving (Endpoint e r badge)).0
  accept-by-ends m ready e r badge q is others =
      either-way (ReceiveEnds s x e) (may_read r) (receive_on_endpoint m x Receiving e) (lacks_capability m x 1 MissingCapability)
      (λ free. receive-ends m ready e q is others) (faulted (lacks_capability m x 1 MissingCapability) refl)

  take-by-ends : (m : State) → IsReadyAs m → (o : ℕ) (r : Rights) (badge : ℕ) → o ≢ x → NoFault (receive_by m x Receiving (Notification o r badge))
      → TakeEnds s x o (receive_by m x Receiving (Notification o r badge)).0
  take-by-ends m ready o r badge apart =
      either-way (TakeEnds s x o) (may_read r) (receive_on_notification m x Receiving o) (lacks_capability m x 1 MissingCapability)
      (λ free. by-word m ready o apart ((notification_at m o).word == 0) refl) (faulted (lacks_capability m x 1 MissingCapability) refl)

  module _ (done : Done) (free : NoFault done) where
    is-send : (asked : Asked) (e : ℕ) → asked ≡ SendsTo e → Does asked done → SendEnds s x e false done.0
    is-send asked e asks (does_fault fault) = faulted done fault free
    is-send asked e asks (does_send Sending slot o r badge named is does_so asked_so) =
        let same : o ≡ e = one-send (sym asked_so ∙ asks) in
        subst (λ (k : ℕ). SendEnds s x k false done.0) same
        (subst (λ (d : Done). SendEnds s x o false d.0) (sym does_so)
        (send-by-ends slot o r badge (doors slot o r badge named is) (gates slot o r badge named is).0 (gates slot o r badge named is).1
        (subst NoFault does_so free)))
    is-send asked e asks (does_send Calling slot o r badge named is does_so asked_so) =
        absurd (let clash : Calls o ≡ SendsTo e = sym asked_so ∙ asks in cc)
    is-send asked e asks (does_send Trying slot o r badge named is does_so asked_so) =
        absurd (let clash : Tries o ≡ SendsTo e = sym asked_so ∙ asks in cc)
    is-send asked e asks (does_accept replies m slot o r badge ready named is does_so asked_so) =
        absurd (let clash : Accepts o replies ≡ SendsTo e = sym asked_so ∙ asks in cc)
    is-send asked e asks (does_take replies m slot o r badge ready named is does_so asked_so) =
        absurd (let clash : Takes o ≡ SendsTo e = sym asked_so ∙ asks in cc)

    is-call : (asked : Asked) (e : ℕ) → asked ≡ Calls e → Does asked done → SendEnds s x e true done.0
    is-call asked e asks (does_fault fault) = faulted done fault free
    is-call asked e asks (does_send Calling slot o r badge named is does_so asked_so) =
        let same : o ≡ e = one-call (sym asked_so ∙ asks) in
        subst (λ (k : ℕ). SendEnds s x k true done.0) same
        (subst (λ (d : Done). SendEnds s x o true d.0) (sym does_so)
        (call-by-ends slot o r badge (doors slot o r badge named is) (gates slot o r badge named is).0 (gates slot o r badge named is).1
        (subst NoFault does_so free)))
    is-call asked e asks (does_send Sending slot o r badge named is does_so asked_so) =
        absurd (let clash : SendsTo o ≡ Calls e = sym asked_so ∙ asks in cc)
    is-call asked e asks (does_send Trying slot o r badge named is does_so asked_so) =
        absurd (let clash : Tries o ≡ Calls e = sym asked_so ∙ asks in cc)
    is-call asked e asks (does_accept replies m slot o r badge ready named is does_so asked_so) =
        absurd (let clash : Accepts o replies ≡ Calls e = sym asked_so ∙ asks in cc)
    is-call asked e asks (does_take replies m slot o r badge ready named is does_so asked_so) =
        absurd (let clash : Takes o ≡ Calls e = sym asked_so ∙ asks in cc)

    no-send : (kind : SendCall) (o e : ℕ) (r : Rights) (badge : ℕ) (replies : Bool) → asked_to_send kind (Endpoint o r badge) ≡ Accepts e replies → ⊥
    no-send Calling o e r badge replies is = let clash : Calls o ≡ Accepts e replies = is in absurd cc
    no-send Sending o e r badge replies is = let clash : SendsTo o ≡ Accepts e replies = is in absurd cc
    no-send Trying o e r badge replies is = let clash : Tries o ≡ Accepts e replies = is in absurd cc

    is-accept : (asked : Asked) (e : ℕ) (replies : Bool) → asked ≡ Accepts e replies → Does asked done → ReceiveEnds s x e done.0
    is-accept asked e replies asks (does_fault fault) = faulted done fault free
    is-accept asked e replies asks (does_send kind slot o r badge named is does_so asked_so) =
        absurd (no-send kind o e r badge replies (sym asked_so ∙ asks))
    is-accept asked e replies asks (does_accept other m slot o r badge ready named is does_so asked_so) =
        let same : o ≡ e = one-accept (sym asked_so ∙ asks) in
        let gate = gates slot o r badge named is in
        subst (λ (k : ℕ). ReceiveEnds s x k done.0) same
        (subst (λ (d : Done). ReceiveEnds s x o d.0) (sym does_so)
        (accept-by-ends m ready o r badge gate.0 gate.1 (doors slot o r badge named is) (subst NoFault does_so free)))
    is-accept asked e replies asks (does_take other m slot o r badge ready named is does_so asked_so) =
        absurd (let clash : Takes o ≡ Accepts e replies = sym asked_so ∙ asks in cc)

    no-send-takes : (kind : SendCall) (o e : ℕ) (r : Rights) (badge : ℕ) → asked_to_send kind (Endpoint o r badge) ≡ Takes e → ⊥
    no-send-takes Calling o e r badge is = let clash : Calls o ≡ Takes e = is in absurd cc
    no-send-takes Sending o e r badge is = let clash : SendsTo o ≡ Takes e = is in absurd cc
    no-send-takes Trying o e r badge is = let clash : Tries o ≡ Takes e = is in absurd cc

    is-take : (asked : Asked) (o : ℕ) → asked ≡ Takes o → Does asked done → TakeEnds s x o done.0
    is-take asked o asks (does_fault fault) = faulted done fault free
    is-take asked o asks (does_send kind slot e r badge named is does_so asked_so) = absurd (no-send-takes kind e o r badge (sym asked_so ∙ asks))
    is-take asked o asks (does_accept replies m slot e r badge ready named is does_so asked_so) =
        absurd (let clash : Accepts e replies ≡ Takes o = sym asked_so ∙ asks in cc)
    is-take asked o asks (does_take replies m slot other r badge ready named is does_so asked_so) =
        let same : other ≡ o = one-take (sym asked_so ∙ asks) in
        subst (λ (k : ℕ). TakeEnds s x k done.0) same
        (subst (λ (d : Done). TakeEnds s x other d.0) (sym does_so)
        (take-by-ends m ready other r badge (bells slot other r badge named is).0 (subst NoFault does_so free)))

  pub sends-so : (e : ℕ) → asked_now s x ≡ SendsTo e → is_fault (Ran address place (system_call s x).1) ≡ false → SendEnds s x e false (system_call s x).0
  sends-so e asks free = is-send (system_call s x) free (asked_now s x) e asks (does (ap may_wait asks))

  pub calls-so : (e : ℕ) → asked_now s x ≡ Calls e → is_fault (Ran address place (system_call s x).1) ≡ false → SendEnds s x e true (system_call s x).0
  calls-so e asks free = is-call (system_call s x) free (asked_now s x) e asks (does (ap may_wait asks))

  pub accepts-so : (e : ℕ) (replies : Bool) → asked_now s x ≡ Accepts e replies → is_fault (Ran address place (system_call s x).1) ≡ false
      → ReceiveEnds s x e (system_call s x).0
  accepts-so e replies asks free = is-accept (system_call s x) free (asked_now s x) e replies asks (does (ap may_wait asks))

  pub takes-so : (o : ℕ) → asked_now s x ≡ Takes o → is_fault (Ran address place (system_call s x).1) ≡ false → TakeEnds s x o (system_call s x).0
  takes-so o asks free = is-take (system_call s x) free (asked_now s x) o asks (does (ap may_wait asks))
