-- Where a thread is after its own system call: at the next instruction, or it waits. What it takes at a notification is gone from there.
use Rattle.std.proofs.Common.{ℕ, ◌≡◌, ◌≢◌, ◌∙◌, ◌==◌, ◌+◌, ◌++◌, ◌%◌, ◌^◌, Bool, true, false, if◌then◌else◌, Option, Some, None, Result, Ok, Err, List, []}
use Rattle.std.proofs.Common.{◌∷◌, refl}
use Rattle.std.proofs.Common.{sym, ap, subst}
use Rattle.std.specs.Prelude.{bit_or, slice_set}
use Rattle.std.specs.Option.{option_map_or}
use Rattle.model.specs.declared.capabilities.Cap.{Cap}
use Rattle.model.specs.declared.capabilities.Cap.TheVariants.{Empty, Untyped, Endpoint, Notification, CNode, Frame, PageTable, Tcb, RootTable, InterruptControl}
use Rattle.model.specs.declared.capabilities.Cap.TheVariants.{InterruptHandler}
use Rattle.model.specs.declared.errors.KError.TheVariants.{InvalidCapability}
use Rattle.model.specs.declared.instructions.Register.{Register}
use Rattle.model.specs.declared.labels.Label.TheVariants.{Ran}
use Rattle.model.specs.declared.lookup_failures.LookupFailure.{LookupFailure}
use Rattle.model.specs.declared.lookup_failures.LookupFailure.TheVariants.{MissingCapability}
use Rattle.model.specs.declared.system_calls.ReceiveCall.{ReceiveCall}
use Rattle.model.specs.declared.system_calls.ReceiveCall.TheVariants.{Receiving, Polling}
use Rattle.model.specs.declared.system_calls.SendCall.{SendCall}
use Rattle.model.specs.declared.system_calls.SendCall.TheVariants.{Calling, Sending, Trying}
use Rattle.model.specs.declared.system_calls.SystemCall.{SystemCall}
use Rattle.model.specs.declared.system_calls.SystemCall.TheVariants.{Sends, Receives, RepliesAndReceives, Replies, Yields, PutsCharacter}
use Rattle.model.specs.Capabilities.Rights.{may_grant_reply, may_read, may_write}
use Rattle.model.specs.declared.rights.Rights.{Rights}
use Rattle.model.specs.Capabilities.Lookup.{called_slot}
use Rattle.model.specs.Capabilities.Slots.{Slots, capability_at}
use Rattle.model.specs.Shared.Labels.{error_number}
use Rattle.model.specs.Kernel.Messages.{Message, a0, a1, a7, bytes_between, deliver_word, info_word, message_between, passes, passes_with}
use Rattle.model.specs.Kernel.Messages.{replied}
use Rattle.model.specs.Kernel.Messages.{reply, resumption, signal, signals, wait, waits_for_signal, with_caller}
use Rattle.model.specs.Kernel.Messages.{with_registers, delivered, poll, bytes_sent, deliver_sent, message_to, received_waiting, receives, tries_to_send}
use Rattle.model.specs.Kernel.Messages.{try_to_receive, word_registers, write_words}
use Rattle.model.specs.Kernel.Scheduling.{block, full_slice, is_runnable, unready, wake, yielded}
use Rattle.model.specs.Kernel.State.{ByCall, ByFault, BySend, EndpointObject, EndpointState, Sender, Sent, as_endpoint, endpoint_at, new_endpoint}
use Rattle.model.specs.Kernel.State.{with_endpoint}
use Rattle.model.specs.Kernel.State.{AwaitsHandler, AwaitsReply, Blocked, Inactive, NotificationObject, NotificationState, Object, Runnable, State, Status}
use Rattle.model.specs.Kernel.State.{ThreadObject, ThreadState, notification_at, thread_at, with_notification}
use Rattle.model.specs.Kernel.State.{cspace_slot}
use Rattle.model.specs.Kernel.Steps.{Done, answered, call_of, calls, calls_known, lacks_capability, named_slot, receive_by, receive_named}
use Rattle.model.specs.Kernel.Steps.{receive_on_endpoint, send_on, sender}
use Rattle.model.specs.Kernel.Steps.{receive_on_notification, refused, registers_of, send_by, send_named, sends_nothing, signal_on, system_call}
use Rattle.model.specs.Kernel.Waits.{is_fault}
use Rattle.model.specs.Machine.Effects.{advanced}
use Rattle.model.specs.Machine.ProgramMemory.{RegisterFile, read, write}
use Rattle.headline.specs.calls.Messages.{IsInvoked}
use Rattle.response.specs.Asking.{asked_by}
use Rattle.response.specs.Asking.{asked_known, asked_to_receive, asked_to_send, capability_found}
use Rattle.response.specs.Weights.{waits_for_no_message}
use Rattle.response.proofs.AskedNow.{NamesAsBefore, asked_now}
use Rattle.response.proofs.Interrupts.{put-at, put-off, thread-of, word-of}

-- ---- where a thread goes on

abbrev pub pc_at : State → ℕ → ℕ
pc_at s thread = (thread_at s thread).registers.pc

pub write-pc : (r : RegisterFile) (x : Register) (value : ℕ) → (write r x value).pc ≡ r.pc
write-pc r x value = elim (x.0 == 0) as (λ b. (if b then r else record r { words = slice_set r.words x.0 value }).pc ≡ r.pc) [ true ↦ refl | false ↦ refl ]

pub passes-pc : (s : State) (x : ℕ) → pc_at (passes s x) x ≡ (pc_at s x + 4) % 2 ^ 32
passes-pc s x = ap (λ (o : Option Object). (thread-of o).registers.pc)
    (put-at s.objects x (Some (ThreadObject (record (thread_at s x) { registers = advanced (thread_at s x).registers }))))

pub passes_with-pc : (s : State) (x : ℕ) (r : RegisterFile) → r.pc ≡ pc_at s x → pc_at (passes_with s x r) x ≡ (pc_at s x + 4) % 2 ^ 32
passes_with-pc s x r same =
    passes-pc (with_registers s x r) x
    ∙ ap (λ (o : Option Object). ((thread-of o).registers.pc + 4) % 2 ^ 32)
    (put-at s.objects x (Some (ThreadObject (record (thread_at s x) { registers = r }))))
    ∙ ap (λ (n : ℕ). (n + 4) % 2 ^ 32) same

pub word-pc : (s : State) (x word : ℕ) → pc_at (deliver_word s x word) x ≡ (pc_at s x + 4) % 2 ^ 32
word-pc s x word = passes_with-pc s x (write (thread_at s x).registers a0 word) (write-pc (thread_at s x).registers a0 word)

pub answered-pc : (s : State) (x : ℕ) (kind : SendCall) (number : ℕ) → pc_at (answered s x kind number) x ≡ (pc_at s x + 4) % 2 ^ 32
answered-pc s x Calling number =
    passes_with-pc s x (write (write (registers_of s x) a0 0) a1 (info_word number 0))
    (write-pc (write (registers_of s x) a0 0) a1 (info_word number 0) ∙ write-pc (registers_of s x) a0 0)
answered-pc s x Sending number = passes-pc s x
answered-pc s x Trying number = passes-pc s x

yielded-pc : (s : State) (x : ℕ) → pc_at (yielded s x) x ≡ pc_at s x
yielded-pc s x = ap (λ (o : Option Object). (thread-of o).registers.pc)
    (put-at s.objects x (Some (ThreadObject (record (thread_at s x) { slice = full_slice }))))

-- ---- the thread's own object while others change

pub elsewhere-pc : (s after : State) (x : ℕ) → after.objects x ≡ s.objects x → pc_at after x ≡ pc_at s x
elsewhere-pc s after x same = ap (λ (o : Option Object). (thread-of o).registers.pc) same

-- whoever is woken by a signal is another one
pub signals-there : (s : State) (n badge x : ℕ) (o : NotificationState) → x ≢ n → (l : List ℕ) → ((w : ℕ) (others : List ℕ) → l ≡ w ∷ others → x ≢ w)
    → (signals s n badge o l).objects x ≡ s.objects x
signals-there s n badge x o apart [] first = put-off s.objects n x (Some (NotificationObject (record o { word = bit_or o.word badge }))) apart
signals-there s n badge x o apart (w ∷ others) first =
    let other = first w others refl in
    let one = with_notification s n (record o { waiters = others }) in
    let two = with_registers one w (write (thread_at one w).registers a0 badge) in
    let three = passes two w in
    put-off three.objects w x (Some (ThreadObject (record (thread_at three w) { status = Runnable; slice = full_slice }))) other
    ∙ put-off two.objects w x (Some (ThreadObject (record (thread_at two w) { registers = advanced (thread_at two w).registers }))) other
    ∙ put-off one.objects w x (Some (ThreadObject (record (thread_at one w) { registers = write (thread_at one w).registers a0 badge }))) other
    ∙ put-off s.objects n x (Some (NotificationObject (record o { waiters = others }))) apart

-- ---- a reply

pub replied-there : (s : State) (x caller y : ℕ) (status : Status) (message : Message) → (status ≡ AwaitsReply → y ≢ caller)
    → (status ≡ AwaitsHandler → y ≢ caller)
    → (replied s x caller status message).objects y ≡ s.objects y
replied-there s x caller y AwaitsReply message other handled =
    let one : State = record s { bytes = bytes_between s x caller message.count } in
    let two = with_registers one caller (delivered (thread_at one caller).registers 0 message) in
    let three = passes two caller in
    let apart = other refl in
    put-off three.objects caller y (Some (ThreadObject (record (thread_at three caller) { status = Runnable; slice = full_slice }))) apart
    ∙ put-off two.objects caller y (Some (ThreadObject (record (thread_at two caller) { registers = advanced (thread_at two caller).registers }))) apart
    ∙ put-off one.objects caller y (Some (ThreadObject (record (thread_at one caller) {
      registers = delivered (thread_at one caller).registers 0 message;
    }))) apart
replied-there s x caller y AwaitsHandler message other handled =
    let apart = handled refl in
    let r = (thread_at s caller).registers in
    let one = with_registers s caller (record r { pc = resumption r.pc message.words }) in
    elim (message.label == 0) as (λ b. (if b then wake one caller else block s caller Inactive).objects y ≡ s.objects y) [
      | true ↦
          put-off one.objects caller y (Some (ThreadObject (record (thread_at one caller) { status = Runnable; slice = full_slice }))) apart
          ∙ put-off s.objects caller y (Some (ThreadObject (record (thread_at s caller) { registers = record r { pc = resumption r.pc message.words } }))) apart
      | false ↦ put-off s.objects caller y (Some (ThreadObject (record (thread_at s caller) { status = Inactive }))) apart
    ]
replied-there s x caller y Inactive message other handled = refl
replied-there s x caller y Runnable message other handled = refl
replied-there s x caller y (Blocked queue) message other handled = refl

pub replied-slots : (s : State) (x caller : ℕ) (status : Status) (message : Message) → (replied s x caller status message).slots ≡ s.slots
replied-slots s x caller AwaitsReply message = refl
replied-slots s x caller AwaitsHandler message =
    let r = (thread_at s caller).registers in
    elim (message.label == 0) as (λ b. (if b then wake (with_registers s caller (record r { pc = resumption r.pc message.words })) caller else
    block s caller Inactive).slots ≡ s.slots) [ true ↦ refl | false ↦ refl ]
replied-slots s x caller Inactive message = refl
replied-slots s x caller Runnable message = refl
replied-slots s x caller (Blocked queue) message = refl

-- ---- the calls of a thread that runs

-- whoever waits at an endpoint is another one
pub record OthersWait (s : State) (e x : ℕ) : Type 0 where
  pub apart : e ≢ x
  pub receivers : (y : ℕ) (others : List ℕ) → (endpoint_at s e).receivers ≡ y ∷ others → x ≢ y
  pub senders : (first : Sender) (others : List Sender) → (endpoint_at s e).senders ≡ first ∷ others → x ≢ first.thread

module _ (s : State) (x : ℕ) (own : ThreadState) (there : s.objects x ≡ Some (ThreadObject own)) (status : own.status ≡ Runnable) (address place : ℕ) where
  at-own : thread_at s x ≡ own
  at-own = ap thread-of there

  -- it is no caller of its own
  pub awaits-none : (caller : ℕ) → (thread_at s caller).status ≡ AwaitsReply → x ≢ caller
  awaits-none caller awaits same =
      let clash : Runnable ≡ AwaitsReply = sym status ∙ sym (ap (λ (u : ThreadState). u.status) at-own) ∙ ap (λ (n : ℕ). (thread_at s n).status) same
      ∙ awaits in
      absurd cc

  pub handles-none : (caller : ℕ) → (thread_at s caller).status ≡ AwaitsHandler → x ≢ caller
  handles-none caller awaits same =
      let clash : Runnable ≡ AwaitsHandler = sym status ∙ sym (ap (λ (u : ThreadState). u.status) at-own) ∙ ap (λ (n : ℕ). (thread_at s n).status) same
      ∙ awaits in
      absurd cc

  abbrev ready : State
  ready = with_caller s x None

  pub ready-own : thread_at ready x ≡ record own { caller = None }
  ready-own = ap thread-of (put-at s.objects x (Some (ThreadObject (record (thread_at s x) { caller = None }))))
      ∙ ap (λ (u : ThreadState). record u { caller = None }) at-own

  -- its registers stay, and what is at a notification
  pub record IsLeft (m : State) : Type 0 where
    pub registers : registers_of m x ≡ own.registers
    pub slots : m.slots ≡ s.slots
    pub notes : (o : ℕ) (n : NotificationState) → s.objects o ≡ Some (NotificationObject n) → m.objects o ≡ Some (NotificationObject n)

  note-apart : (o : ℕ) (n : NotificationState) → s.objects o ≡ Some (NotificationObject n) → o ≢ x
  note-apart o n is same =
      let clash : Some (NotificationObject n) ≡ Some (ThreadObject own) = sym is ∙ ap s.objects same ∙ there in
      absurd cc

  note-awaits : (o caller : ℕ) (n : NotificationState) (some : Status) → s.objects o ≡ Some (NotificationObject n) → (thread_at s caller).status ≡ some
      → (Inactive ≡ some → ⊥) → o ≢ caller
  note-awaits o caller n some is awaits other same =
      other (sym (ap (λ (object : Option Object). (thread-of object).status) is) ∙ ap (λ (k : ℕ). (thread_at s k).status) same ∙ awaits)

  note-ready : (o : ℕ) (n : NotificationState) → s.objects o ≡ Some (NotificationObject n) → ready.objects o ≡ Some (NotificationObject n)
  note-ready o n is = put-off s.objects x o (Some (ThreadObject (record (thread_at s x) { caller = None }))) (note-apart o n is) ∙ is

  by-caller : (caller : Option ℕ) → IsLeft (option_map_or (λ c. replied ready x c (thread_at s c).status (message_between s x c)) caller s)
  by-caller None = record {
    registers = ap (λ (u : ThreadState). u.registers) at-own;
    slots = refl;
    notes = λ o n is. is;
  }
  by-caller (Some caller) = record {
    registers = ap (λ (o : Option Object). (thread-of o).registers)
        (replied-there ready x caller x (thread_at s caller).status (message_between s x caller) (awaits-none caller) (handles-none caller))
        ∙ ap (λ (u : ThreadState). u.registers) ready-own;
    slots = replied-slots ready x caller (thread_at s caller).status (message_between s x caller);
    notes = λ o n is.
        replied-there ready x caller o (thread_at s caller).status (message_between s x caller)
        (λ awaits. note-awaits o caller n AwaitsReply is awaits (λ clash. absurd cc))
        (λ awaits. note-awaits o caller n AwaitsHandler is awaits (λ clash. absurd cc)) ∙ note-ready o n is;
  }

  pub reply-left : IsLeft (reply s x)
  reply-left = by-caller (thread_at s x).caller

  pub same-names : NamesAsBefore s (reply s x) x
  same-names = record {
    named = λ i. called_slot (reply-left.slots i) (capability_at (reply-left.slots i) (cspace_slot x)) (read (same-registers i) a0);
    slots = reply-left.slots;
  }
    where
      same-registers : registers_of (reply s x) x ≡ registers_of s x
      same-registers = reply-left.registers ∙ sym (ap (λ (u : ThreadState). u.registers) at-own)

  -- ---- calls at a notification

  -- it is at the next instruction, if it runs
  abbrev GoesOn : State → Type 0
  GoesOn after = is_runnable (thread_at after x).status ≡ true → pc_at after x ≡ (pc_at s x + 4) % 2 ^ 32

  -- and the call was no fault
  abbrev Fine : Done → Type 0
  Fine done = is_fault (Ran address place done.1) ≡ false → GoesOn done.0

  -- what was there is taken
  pub record TakesAt (o : ℕ) (m after : State) : Type 0 where
    pub pc : pc_at after x ≡ (pc_at m x + 4) % 2 ^ 32
    pub some : (notification_at m o).word == 0 ≡ false
    pub none : word-of (after.objects o) ≡ 0

  module _ (m : State) (o : ℕ) (apart : o ≢ x) where
    abbrev n : NotificationState
    n = notification_at m o

    abbrev emptied : State
    emptied = with_notification m o (record n { word = 0 })

    abbrev taken : State
    taken = deliver_word emptied x n.word

    taken-pc : pc_at taken x ≡ (pc_at m x + 4) % 2 ^ 32
    taken-pc =
        word-pc emptied x n.word
        ∙ ap (λ (object : Option Object). ((thread-of object).registers.pc + 4) % 2 ^ 32)
        (put-off m.objects o x (Some (NotificationObject (record n { word = 0 }))) (λ same. apart (sym same)))

    taken-word : word-of (taken.objects o) ≡ 0
    taken-word =
        let r = write (thread_at emptied x).registers a0 n.word in
        let one = with_registers emptied x r in
        ap word-of
        (put-off one.objects x o (Some (ThreadObject (record (thread_at one x) { registers = advanced (thread_at one x).registers }))) apart
        ∙ put-off emptied.objects x o (Some (ThreadObject (record (thread_at emptied x) { registers = r }))) apart
        ∙ put-at m.objects o (Some (NotificationObject (record n { word = 0 }))))

    waiting : State
    waiting = waits_for_signal m o x

    waiting-rests : is_runnable (thread_at (waits_for_signal m o x) x).status ≡ true → ⊥
    waiting-rests runs =
        let queued = unready (with_notification m o (record n { waiters = n.waiters ++ x ∷ [] })) x in
        let clash : false ≡ true =
        sym (ap (λ (object : Option Object). is_runnable (thread-of object).status)
        (put-at queued.objects x (Some (ThreadObject (record (thread_at queued x) { status = Blocked o }))))) ∙ runs in
        absurd cc

    pub waits-on : is_runnable (thread_at (wait m o x) x).status ≡ true → TakesAt o m (wait m o x)
    waits-on = elim (n.word == 0) as (λ b. n.word == 0 ≡ b → is_runnable (thread_at (if b then waits_for_signal m o x else taken) x).status ≡ true
        → TakesAt o m (if b then waits_for_signal m o x else taken)) [
          | true ↦ λ _ runs. absurd (waiting-rests runs)
          | false ↦ λ some runs. record { pc = taken-pc; some = some; none = taken-word }
        ] refl

    pub polls-on : pc_at (poll m o x) x ≡ (pc_at m x + 4) % 2 ^ 32
    polls-on = elim (n.word == 0) as (λ b. pc_at (if b then deliver_word m x 0 else taken) x ≡ (pc_at m x + 4) % 2 ^ 32) [
      | true ↦ word-pc m x 0
      | false ↦ taken-pc
    ]

  -- ---- calls at an endpoint that do not wait

  -- a delivery leaves the pc
  words-pc : (r : RegisterFile) (registers : List Register) (words : List ℕ) → (write_words r registers words).pc ≡ r.pc
  words-pc r registers [] = refl
  words-pc r [] (word ∷ words) = refl
  words-pc r (y ∷ registers) (word ∷ words) = words-pc (write r y word) registers words ∙ write-pc r y word

  delivered-pc : (r : RegisterFile) (badge : ℕ) (message : Message) → (delivered r badge message).pc ≡ r.pc
  delivered-pc r badge message =
      let info = info_word message.label message.count in
      words-pc (write (write r a0 badge) a1 info) word_registers message.words ∙ write-pc (write r a0 badge) a1 info ∙ write-pc r a0 badge

  module _ (e : ℕ) (apart : e ≢ x) where
    -- NBSend: whoever receives is another one
    tries : (badge : ℕ) (grants : Bool) (l : List ℕ) → ((y : ℕ) (others : List ℕ) → l ≡ y ∷ others → x ≢ y)
        → pc_at (tries_to_send s e (sender x BySend badge grants) l) x ≡ (pc_at s x + 4) % 2 ^ 32
    tries badge grants [] first = passes-pc s x
    tries badge grants (y ∷ others) first =
        let other = first y others refl in
        let mine = sender x BySend badge grants in
        let fewer = with_endpoint s e (record (endpoint_at s e) { receivers = others }) in
        let one : State = record fewer { bytes = bytes_sent fewer mine BySend y } in
        let message = message_to fewer mine BySend y in
        let two = with_registers one y (delivered (thread_at one y).registers badge message) in
        let three = passes two y in
        passes-pc (wake three y) x
        ∙ ap (λ (k : ℕ). (k + 4) % 2 ^ 32) (elsewhere-pc s (wake three y) x
        (put-off three.objects y x (Some (ThreadObject (record (thread_at three y) { status = Runnable; slice = full_slice }))) other
        ∙ put-off two.objects y x (Some (ThreadObject (record (thread_at two y) { registers = advanced (thread_at two y).registers }))) other
        ∙ put-off one.objects y x (Some (ThreadObject (record (thread_at one y) { registers = delivered (thread_at one y).registers badge message }))) other
        ∙ put-off s.objects e x (Some (EndpointObject (record (endpoint_at s e) { receivers = others }))) (λ same. apart (sym same))))

    -- NBRecv: whoever sends is another one
    blocks-pc : (m : State) (y : ℕ) (some : Status) → x ≢ y → pc_at (block m y some) x ≡ pc_at m x
    blocks-pc m y some other = elsewhere-pc m (block m y some) x (put-off m.objects y x (Some (ThreadObject (record (thread_at m y) { status = some }))) other)

    caller-pc : (m : State) (caller : Option ℕ) → pc_at (with_caller m x caller) x ≡ pc_at m x
    caller-pc m caller = ap (λ (o : Option Object). (thread-of o).registers.pc)
        (put-at m.objects x (Some (ThreadObject (record (thread_at m x) { caller = caller }))))

    received-pc : (m : State) (first : Sender) (kind : Sent) → x ≢ first.thread → pc_at (received_waiting m first kind x) x ≡ pc_at m x
    received-pc m first BySend other =
        let y = first.thread in
        let one = passes m y in
        elsewhere-pc m (wake one y) x
        (put-off one.objects y x (Some (ThreadObject (record (thread_at one y) { status = Runnable; slice = full_slice }))) other
        ∙ put-off m.objects y x (Some (ThreadObject (record (thread_at m y) { registers = advanced (thread_at m y).registers }))) other)
    received-pc m first ByCall other = elim first.grant_reply
        as (λ b. pc_at (if b then with_caller (block m first.thread AwaitsReply) x (Some first.thread) else block m first.thread Inactive) x ≡ pc_at m x) [
          | true ↦ caller-pc (block m first.thread AwaitsReply) (Some first.thread) ∙ blocks-pc m first.thread AwaitsReply other
          | false ↦ blocks-pc m first.thread Inactive other
        ]
    received-pc m first (ByFault fault) other =
        caller-pc (block m first.thread AwaitsHandler) (Some first.thread) ∙ blocks-pc m first.thread AwaitsHandler other

    looks : (l : List Sender) → ((first : Sender) (others : List Sender) → l ≡ first ∷ others → x ≢ first.thread)
        → pc_at (receives ready e x (deliver_word ready x 0) l) x ≡ (pc_at s x + 4) % 2 ^ 32
    looks [] sends = word-pc ready x 0 ∙ ap (λ (k : ℕ). (k + 4) % 2 ^ 32) (caller-pc s None)
    looks (first ∷ others) sends =
        let fewer = with_endpoint ready e (record (endpoint_at ready e) { senders = others }) in
        let one : State = record fewer { bytes = bytes_sent fewer first first.sent x } in
        let message = message_to fewer first first.sent x in
        received-pc (deliver_sent fewer first x) first first.sent (sends first others refl)
        ∙ passes_with-pc one x (delivered (thread_at one x).registers first.badge message) (delivered-pc (thread_at one x).registers first.badge message)
        ∙ ap (λ (k : ℕ). (k + 4) % 2 ^ 32)
        (elsewhere-pc ready fewer x
        (put-off ready.objects e x (Some (EndpointObject (record (endpoint_at ready e) { senders = others }))) (λ same. apart (sym same)))
        ∙ caller-pc s None)

    -- its own right to reply is in no endpoint
    same-senders : (endpoint_at ready e).senders ≡ (endpoint_at s e).senders
    same-senders = ap (λ (o : Option Object). (option_map_or (λ (u : EndpointState). u) (as_endpoint o) new_endpoint).senders)
        (put-off s.objects x e (Some (ThreadObject (record (thread_at s x) { caller = None }))) apart)

    pub looks-on : ((first : Sender) (others : List Sender) → (endpoint_at s e).senders ≡ first ∷ others → x ≢ first.thread)
        → pc_at (try_to_receive s e x) x ≡ (pc_at s x + 4) % 2 ^ 32
    looks-on sends = looks (endpoint_at ready e).senders (λ first others is. sends first others (sym same-senders ∙ is))

  -- ---- whatever it names

  faulted : (done : Done) → is_fault (Ran address place done.1) ≡ true → Fine done
  faulted done is free = let clash : true ≡ false = sym is ∙ free in absurd cc

  either-fine : (test : Bool) (one other : Done) → Fine one → Fine other → Fine (if test then one else other)
  either-fine true one other first second = first
  either-fine false one other first second = second

  module _ (bells : (slot o : ℕ) (r : Rights) (badge : ℕ) → named_slot s x ≡ Ok slot → capability_at s.slots slot ≡ Notification o r badge
      → (o ≢ x) × ((w : ℕ) (others : List ℕ) → (notification_at s o).waiters ≡ w ∷ others → x ≢ w))
      (doors : (slot e : ℕ) (r : Rights) (badge : ℕ) → named_slot s x ≡ Ok slot → capability_at s.slots slot ≡ Endpoint e r badge → OthersWait s e x) where
    signalled : (kind : SendCall) (slot o : ℕ) (r : Rights) (badge : ℕ) → named_slot s x ≡ Ok slot → capability_at s.slots slot ≡ Notification o r badge
        → Fine (send_by s x kind slot (Notification o r badge))
    signalled kind slot o r badge named is =
        let bell = bells slot o r badge named is in
        let other : x ≢ o = λ same. bell.0 (sym same) in
        either-fine (may_write r) (signal_on s x kind o badge) (refused s x kind InvalidCapability)
        (λ free runs. answered-pc (signal s o badge) x kind 0
        ∙ ap (λ (k : ℕ). (k + 4) % 2 ^ 32)
        (elsewhere-pc s (signal s o badge) x (signals-there s o badge x (notification_at s o) other (notification_at s o).waiters bell.1)))
        (λ free runs. answered-pc s x kind (error_number InvalidCapability))

    sent-fine : (kind : SendCall) (slot : ℕ) (c : Cap) → named_slot s x ≡ Ok slot → capability_at s.slots slot ≡ c
        → waits_for_no_message (asked_to_send kind c) ≡ true → (IsInvoked c → ⊥) → Fine (send_by s x kind slot c)
    sent-fine Calling slot (Endpoint o r badge) named is none quiet = let clash : false ≡ true = none in absurd cc
    sent-fine Sending slot (Endpoint o r badge) named is none quiet = let clash : false ≡ true = none in absurd cc
    sent-fine Trying slot (Endpoint e r badge) named is none quiet =
        let others = doors slot e r badge named is in
        either-fine (may_write r) (send_on s x Trying e badge (may_grant_reply r)) (refused s x Trying InvalidCapability)
        (λ free runs. tries e others.apart badge (may_grant_reply r) (endpoint_at s e).receivers others.receivers)
        (λ free runs. answered-pc s x Trying (error_number InvalidCapability))
    sent-fine kind slot (Notification o r badge) named is none quiet = signalled kind slot o r badge named is
    sent-fine kind slot Empty named is none quiet = absurd (quiet tt)
    sent-fine kind slot (Untyped offset bits watermark) named is none quiet = absurd (quiet tt)
    sent-fine kind slot (CNode offset radix guard) named is none quiet = absurd (quiet tt)
    sent-fine kind slot (Frame offset r mapping) named is none quiet = absurd (quiet tt)
    sent-fine kind slot (PageTable offset mapping) named is none quiet = absurd (quiet tt)
    sent-fine kind slot (Tcb offset) named is none quiet = absurd (quiet tt)
    sent-fine kind slot (RootTable offset) named is none quiet = absurd (quiet tt)
    sent-fine kind slot InterruptControl named is none quiet = absurd (quiet tt)
    sent-fine kind slot (InterruptHandler irq_line) named is none quiet = absurd (quiet tt)

    by-slot : (kind : SendCall) (r : Result ℕ LookupFailure) → named_slot s x ≡ r
        → waits_for_no_message (asked_to_send kind (capability_found s.slots r)) ≡ true
        → ((slot : ℕ) → named_slot s x ≡ Ok slot → IsInvoked (capability_at s.slots slot) → ⊥) → Fine (send_named s x kind r)
    by-slot kind (Ok slot) named none quiet = sent-fine kind slot (capability_at s.slots slot) named refl none (quiet slot named)
    by-slot Calling (Err failure) named none quiet = faulted (sends_nothing s x Calling failure) refl
    by-slot Sending (Err failure) named none quiet = faulted (sends_nothing s x Sending failure) refl
    by-slot Trying (Err failure) named none quiet = λ free runs. passes-pc s x

    -- Recv and ReplyRecv, of a state in which the thread and notifications are as before
    module _ (m : State) (same : pc_at m x ≡ pc_at s x) (slots : m.slots ≡ s.slots) where
      by-kind : (kind : ReceiveCall) (o : ℕ) → o ≢ x → GoesOn (receive_on_notification m x kind o).0
      by-kind Receiving o apart runs = TakesAt.pc (waits-on m o apart runs) ∙ ap (λ (k : ℕ). (k + 4) % 2 ^ 32) same
      by-kind Polling o apart runs = polls-on m o apart ∙ ap (λ (k : ℕ). (k + 4) % 2 ^ 32) same

      received-fine : (replies : Bool) (kind : ReceiveCall) → (kind ≡ Polling → m ≡ s) → (slot : ℕ) (c : Cap) → named_slot s x ≡ Ok slot
          → capability_at s.slots slot ≡ c
          → waits_for_no_message (asked_to_receive replies kind c) ≡ true → Fine (receive_by m x kind c)
      received-fine replies Receiving polls slot (Endpoint o r badge) named is none = let clash : false ≡ true = none in absurd cc
      received-fine replies Polling polls slot (Endpoint e r badge) named is none =
          let others = doors slot e r badge named is in
          subst (λ (z : State). Fine (receive_by z x Polling (Endpoint e r badge))) (sym (polls refl))
          (either-fine (may_read r) (receive_on_endpoint s x Polling e) (lacks_capability s x 1 MissingCapability)
          (λ free runs. looks-on e others.apart others.senders) (faulted (lacks_capability s x 1 MissingCapability) refl))
      received-fine replies kind polls slot (Notification o r badge) named is none =
          either-fine (may_read r) (receive_on_notification m x kind o) (lacks_capability m x 1 MissingCapability)
          (λ free. by-kind kind o (bells slot o r badge named is).0) (faulted (lacks_capability m x 1 MissingCapability) refl)
      received-fine replies kind polls slot Empty named is none = faulted (lacks_capability m x 1 MissingCapability) refl
      received-fine replies kind polls slot (Untyped offset bits watermark) named is none = faulted (lacks_capability m x 1 MissingCapability) refl
      received-fine replies kind polls slot (CNode offset radix guard) named is none = faulted (lacks_capability m x 1 MissingCapability) refl
      received-fine replies kind polls slot (Frame offset r mapping) named is none = faulted (lacks_capability m x 1 MissingCapability) refl
      received-fine replies kind polls slot (PageTable offset mapping) named is none = faulted (lacks_capability m x 1 MissingCapability) refl
      received-fine replies kind polls slot (Tcb offset) named is none = faulted (lacks_capability m x 1 MissingCapability) refl
      received-fine replies kind polls slot (RootTable offset) named is none = faulted (lacks_capability m x 1 MissingCapability) refl
      received-fine replies kind polls slot InterruptControl named is none = faulted (lacks_capability m x 1 MissingCapability) refl
      received-fine replies kind polls slot (InterruptHandler irq_line) named is none = faulted (lacks_capability m x 1 MissingCapability) refl

      received-by : (replies : Bool) (kind : ReceiveCall) → (kind ≡ Polling → m ≡ s) → (r : Result ℕ LookupFailure) → named_slot s x ≡ r
          → waits_for_no_message (asked_to_receive replies kind (capability_found s.slots r)) ≡ true → Fine (receive_named m x kind r)
      received-by replies kind polls (Ok slot) named none =
          subst (λ (c : Cap). Fine (receive_by m x kind c)) (ap (λ (all : Slots). capability_at all slot) (sym slots))
          (received-fine replies kind polls slot (capability_at s.slots slot) named refl none)
      received-by replies kind polls (Err failure) named none = faulted (lacks_capability m x 1 failure) refl

    replied-pc : pc_at (reply s x) x ≡ pc_at s x
    replied-pc = ap (λ (r : RegisterFile). r.pc) (reply-left.registers ∙ sym (ap (λ (u : ThreadState). u.registers) at-own))

    called-fine : (call : SystemCall) → waits_for_no_message (asked_by call (capability_found s.slots (named_slot s x))) ≡ true
        → ((kind : SendCall) (slot : ℕ) → call ≡ Sends kind → named_slot s x ≡ Ok slot → IsInvoked (capability_at s.slots slot) → ⊥) → Fine (calls s x call)
    called-fine (Sends kind) none quiet = by-slot kind (named_slot s x) refl none (λ slot. quiet kind slot refl)
    called-fine (Receives kind) none quiet = received-by s refl refl false kind (λ _. refl) (named_slot s x) refl none
    called-fine RepliesAndReceives none quiet =
        subst (λ (r : Result ℕ LookupFailure). Fine (receive_named (reply s x) x Receiving r)) (sym same-names.named)
        (received-by (reply s x) replied-pc reply-left.slots true Receiving (λ clash. absurd cc) (named_slot s x) refl none)
    called-fine Replies none quiet = λ free runs. passes-pc (reply s x) x ∙ ap (λ (k : ℕ). (k + 4) % 2 ^ 32) replied-pc
    called-fine Yields none quiet = λ free runs. yielded-pc (passes s x) x ∙ passes-pc s x
    called-fine PutsCharacter none quiet = λ free runs. passes-pc s x

    by-number : (number : ℕ) (call : Option SystemCall) → waits_for_no_message (asked_known call (capability_found s.slots (named_slot s x))) ≡ true
        → ((kind : SendCall) (slot : ℕ) → call ≡ Some (Sends kind) → named_slot s x ≡ Ok slot → IsInvoked (capability_at s.slots slot) → ⊥)
        → Fine (calls_known s x number call)
    by-number number (Some call) none quiet = called-fine call none (λ kind slot is. quiet kind slot (ap Some is))
    by-number number None none quiet = faulted (calls_known s x number None) refl

    -- after a call that invokes nothing
    pub call-goes-on : waits_for_no_message (asked_now s x) ≡ true
        → ((kind : SendCall) (slot : ℕ) → call_of (read (registers_of s x) a7) ≡ Some (Sends kind) → named_slot s x ≡ Ok slot
        → IsInvoked (capability_at s.slots slot) → ⊥) → is_fault (Ran address place (system_call s x).1) ≡ false
        → is_runnable (thread_at (system_call s x).0 x).status ≡ true → pc_at (system_call s x).0 x ≡ (pc_at s x + 4) % 2 ^ 32
    unfolding system_call
    call-goes-on none quiet = by-number (read (registers_of s x) a7) (call_of (read (registers_of s x) a7)) none quiet
