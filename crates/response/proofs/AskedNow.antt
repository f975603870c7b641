-- What a thread asks by the system call that it makes now: only a call that may wait has the label of a wait.
use Rattle.std.proofs.Common.{ℕ, ◌≡◌, ◌∙◌, Bool, true, false, if◌then◌else◌, Option, Some, None, Result, Ok, Err, refl, ap}
use Rattle.model.specs.declared.capabilities.Cap.{Cap}
use Rattle.model.specs.declared.capabilities.Cap.TheVariants.{Empty, Untyped, Endpoint, Notification, CNode, Frame, PageTable, Tcb, RootTable, InterruptControl}
use Rattle.model.specs.declared.capabilities.Cap.TheVariants.{InterruptHandler}
use Rattle.model.specs.declared.errors.KError.{KError}
use Rattle.model.specs.declared.errors.KError.TheVariants.{InvalidCapability}
use Rattle.model.specs.declared.lookup_failures.LookupFailure.{LookupFailure}
use Rattle.model.specs.declared.lookup_failures.LookupFailure.TheVariants.{MissingCapability}
use Rattle.model.specs.declared.system_calls.ReceiveCall.{ReceiveCall}
use Rattle.model.specs.declared.system_calls.ReceiveCall.TheVariants.{Receiving, Polling}
use Rattle.model.specs.declared.system_calls.SendCall.{SendCall}
use Rattle.model.specs.declared.system_calls.SendCall.TheVariants.{Calling, Sending, Trying}
use Rattle.model.specs.declared.system_calls.SystemCall.{SystemCall}
use Rattle.model.specs.declared.system_calls.SystemCall.TheVariants.{Sends, Receives, RepliesAndReceives, Replies, Yields, PutsCharacter}
use Rattle.model.specs.Capabilities.Rights.{may_grant_reply, may_read, may_write}
use Rattle.model.specs.Capabilities.Slots.{capability_at}
use Rattle.model.specs.Kernel.Messages.{a7, reply}
use Rattle.model.specs.Kernel.State.{State}
use Rattle.model.specs.Kernel.Steps.{Done, after_invocation, call_of, calls, calls_known, invokes, lacks_capability, named_slot, receive_by, receive_named}
use Rattle.model.specs.Kernel.Steps.{receive_on_endpoint, receive_on_notification, refused, registers_of, send_by, send_named, send_on, signal_on, system_call}
use Rattle.model.specs.Kernel.Waits.{is_waited}
use Rattle.model.specs.Machine.ProgramMemory.{read}
use Rattle.response.specs.Asking.{Asked, Takes, Accepts, SendsTo, Calls, asked_by}
use Rattle.response.specs.Asking.{asked_known, asked_to_receive, asked_to_send, capability_found}

-- what the thread asks, by its registers and its slots
abbrev pub asked_now : State → ℕ → Asked
asked_now s thread = asked_known (call_of (read (registers_of s thread) a7)) (capability_found s.slots (named_slot s thread))

-- a call that begins a stretch
abbrev pub may_wait : Asked → Bool
may_wait (Takes o) = true
may_wait (Accepts o replies) = true
may_wait (SendsTo o) = true
may_wait (Calls o) = true
may_wait _ = false

abbrev Goes : Done → Type 0
Goes done = is_waited done.1 ≡ false

either-way : (test : Bool) (one other : Done) → Goes one → Goes other → Goes (if test then one else other)
either-way true one other first second = first
either-way false one other first second = second

-- ---- Call, Send and NBSend

performed : (s : State) (thread : ℕ) (kind : SendCall) (result : Result State KError) → Goes (after_invocation s thread kind result)
performed s thread kind (Ok after) = refl
performed s thread kind (Err error) = refl

invoked : (s : State) (thread : ℕ) (kind : SendCall) (slot : ℕ) (c : Cap) → Goes (invokes s thread kind slot c)
invoked s thread kind slot c = performed s thread kind _

sent : (s : State) (thread : ℕ) (kind : SendCall) (slot : ℕ) (c : Cap) → may_wait (asked_to_send kind c) ≡ false → Goes (send_by s thread kind slot c)
sent s thread Calling slot (Endpoint offset r badge) none = absurd (let clash : true ≡ false = none in cc)
sent s thread Sending slot (Endpoint offset r badge) none = absurd (let clash : true ≡ false = none in cc)
sent s thread Trying slot (Endpoint offset r badge) none =
    either-way (may_write r) (send_on s thread Trying offset badge (may_grant_reply r)) (refused s thread Trying InvalidCapability) refl refl
sent s thread kind slot (Notification offset r badge) none =
    either-way (may_write r) (signal_on s thread kind offset badge) (refused s thread kind InvalidCapability) refl refl
sent s thread kind slot Empty none = invoked s thread kind slot Empty
sent s thread kind slot (Untyped offset bits watermark) none = invoked s thread kind slot (Untyped offset bits watermark)
sent s thread kind slot (CNode offset radix guard) none = invoked s thread kind slot (CNode offset radix guard)
sent s thread kind slot (Frame offset r mapping) none = invoked s thread kind slot (Frame offset r mapping)
sent s thread kind slot (PageTable offset mapping) none = invoked s thread kind slot (PageTable offset mapping)
sent s thread kind slot (Tcb offset) none = invoked s thread kind slot (Tcb offset)
sent s thread kind slot (RootTable offset) none = invoked s thread kind slot (RootTable offset)
sent s thread kind slot InterruptControl none = invoked s thread kind slot InterruptControl
sent s thread kind slot (InterruptHandler irq_line) none = invoked s thread kind slot (InterruptHandler irq_line)

sent-named : (s : State) (thread : ℕ) (kind : SendCall) (r : Result ℕ LookupFailure) → may_wait (asked_to_send kind (capability_found s.slots r)) ≡ false
    → Goes (send_named s thread kind r)
sent-named s thread kind (Ok slot) none = sent s thread kind slot (capability_at s.slots slot) none
sent-named s thread Calling (Err failure) none = refl
sent-named s thread Sending (Err failure) none = refl
sent-named s thread Trying (Err failure) none = refl

-- ---- Recv, NBRecv and ReplyRecv

received : (s : State) (thread : ℕ) (replies : Bool) (kind : ReceiveCall) (c : Cap) → may_wait (asked_to_receive replies kind c) ≡ false
    → Goes (receive_by s thread kind c)
received s thread replies Receiving (Endpoint offset r badge) none = absurd (let clash : true ≡ false = none in cc)
received s thread replies Polling (Endpoint offset r badge) none =
    either-way (may_read r) (receive_on_endpoint s thread Polling offset) (lacks_capability s thread 1 MissingCapability) refl refl
received s thread replies Receiving (Notification offset r badge) none = absurd (let clash : true ≡ false = none in cc)
received s thread replies Polling (Notification offset r badge) none =
    either-way (may_read r) (receive_on_notification s thread Polling offset) (lacks_capability s thread 1 MissingCapability) refl refl
received s thread replies kind Empty none = refl
received s thread replies kind (Untyped offset bits watermark) none = refl
received s thread replies kind (CNode offset radix guard) none = refl
received s thread replies kind (Frame offset r mapping) none = refl
received s thread replies kind (PageTable offset mapping) none = refl
received s thread replies kind (Tcb offset) none = refl
received s thread replies kind (RootTable offset) none = refl
received s thread replies kind InterruptControl none = refl
received s thread replies kind (InterruptHandler irq_line) none = refl

received-named : (s : State) (thread : ℕ) (replies : Bool) (kind : ReceiveCall) (r : Result ℕ LookupFailure)
    → may_wait (asked_to_receive replies kind (capability_found s.slots r)) ≡ false → Goes (receive_named s thread kind r)
received-named s thread replies kind (Ok slot) none = received s thread replies kind (capability_at s.slots slot) none
received-named s thread replies kind (Err failure) none = refl

-- ---- all system calls

-- after the reply the thread names what it named
pub record NamesAsBefore (s m : State) (thread : ℕ) : Type 0 where
  pub named : named_slot m thread ≡ named_slot s thread
  pub slots : m.slots ≡ s.slots

called : (s : State) (thread : ℕ) → NamesAsBefore s (reply s thread) thread → (call : SystemCall)
    → may_wait (asked_by call (capability_found s.slots (named_slot s thread))) ≡ false → Goes (calls s thread call)
called s thread same (Sends kind) none = sent-named s thread kind (named_slot s thread) none
called s thread same (Receives kind) none = received-named s thread false kind (named_slot s thread) none
called s thread same RepliesAndReceives none =
    received-named (reply s thread) thread true Receiving (named_slot (reply s thread) thread)
    (ap (λ (r : Result ℕ LookupFailure). may_wait (asked_to_receive true Receiving (capability_found (reply s thread).slots r))) same.named
    ∙ (λ i. may_wait (asked_to_receive true Receiving (capability_found (same.slots i) (named_slot s thread)))) ∙ none)
called s thread same Replies none = refl
called s thread same Yields none = refl
called s thread same PutsCharacter none = refl

known : (s : State) (thread number : ℕ) → NamesAsBefore s (reply s thread) thread → (call : Option SystemCall)
    → may_wait (asked_known call (capability_found s.slots (named_slot s thread))) ≡ false → Goes (calls_known s thread number call)
known s thread number same (Some call) none = called s thread same call none
known s thread number same None none = refl

pub waits-none : (s : State) (thread : ℕ) → NamesAsBefore s (reply s thread) thread → may_wait (asked_now s thread) ≡ false
    → is_waited (system_call s thread).1 ≡ false
unfolding system_call
waits-none s thread same none = known s thread (read (registers_of s thread) a7) same (call_of (read (registers_of s thread) a7)) none
