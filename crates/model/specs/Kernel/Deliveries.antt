-- What a step of one thread makes of another, and why: each change is named by the reason for it, and tied to the message, the
-- badge and the queue of that reason.
-- seL4 Reference Manual, "Message Passing (IPC)" and "Notifications". The threads of accepted images have no faults, so
-- no fault is reported to another thread here.
use Rattle.std.specs.Prelude.{ℕ, ◌+◌, ◌*◌, ◌<◌, ◌≤◌, ◌≡◌, ◌≢◌, ◌==◌, if◌then◌else◌, Bool, true, false, IsTrue, Option, Some, None, ◌∷◌}
use Rattle.model.specs.declared.capabilities.Cap.{Cap}
use Rattle.model.specs.declared.capabilities.Cap.TheVariants.{Endpoint, Notification, InterruptHandler}
use Rattle.model.specs.declared.rights.Rights.{Rights}
use Rattle.model.specs.declared.system_calls.SendCall.{SendCall}
use Rattle.model.specs.declared.system_calls.SendCall.TheVariants.{Calling, Sending, Trying}
use Rattle.model.specs.declared.system_calls.SystemCall.{SystemCall}
use Rattle.model.specs.declared.system_calls.SystemCall.TheVariants.{Sends, Receives, RepliesAndReceives, Replies, Yields, PutsCharacter}
use Rattle.model.specs.Capabilities.Rights.{may_grant_reply, may_read, may_write}
use Rattle.model.specs.Kernel.Interrupts.{binding}
use Rattle.model.specs.Kernel.Kinds.{kind_at}
use Rattle.model.specs.Kernel.Messages.{a0, buffer_of, delivered, length_between, message_between, message_of, register_words, resumption}
use Rattle.model.specs.Kernel.Retype.{NewEndpoint, NewNotification}
use Rattle.model.specs.Kernel.Scheduling.{full_slice}
use Rattle.model.specs.Kernel.State.{State, Inactive, Runnable, Blocked, AwaitsReply, AwaitsHandler, Sender, Sent, BySend, ByCall, ByFault, ThreadState}
use Rattle.model.specs.Kernel.State.{endpoint_at, notification_at, thread_at}
use Rattle.model.specs.Machine.Effects.{advanced}
use Rattle.model.specs.Machine.ProgramMemory.{RegisterFile, write}

-- a thread that is made runnable with these registers
abbrev pub woken : ThreadState → RegisterFile → ThreadState
woken t registers = record t { registers = registers; slice = full_slice; status = Runnable }

-- ---- which calls

-- Call, Send and NBSend
abbrev pub is_send : SystemCall → Bool
is_send (Sends kind) = true
is_send (Receives kind) = false
is_send RepliesAndReceives = false
is_send Replies = false
is_send Yields = false
is_send PutsCharacter = false

-- Recv, NBRecv and ReplyRecv
abbrev pub is_receive : SystemCall → Bool
is_receive (Sends kind) = false
is_receive (Receives kind) = true
is_receive RepliesAndReceives = true
is_receive Replies = false
is_receive Yields = false
is_receive PutsCharacter = false

-- what such a call makes of a thread that waits to send
abbrev pub sent_by : SendCall → Sent
sent_by Calling = ByCall
sent_by Sending = BySend
sent_by Trying = BySend

-- ---- who may deliver

-- a call and a capability by which a thread sends to an endpoint, with this badge
pub record SendsTo (endpoint badge : ℕ) (call : SystemCall) (capability : Cap) : Type 0 where
  pub sends : is_send call ≡ true
  pub allowed : Rights
  pub is : capability ≡ Endpoint endpoint allowed badge
  pub writes : IsTrue (may_write allowed)

-- a call and a capability by which a thread calls at an endpoint, with this badge: it sends, and lets the receiver reply
pub record CallsTo (endpoint badge : ℕ) (call : SystemCall) (capability : Cap) : Type 0 where
  pub calls : call ≡ Sends Calling
  pub allowed : Rights
  pub is : capability ≡ Endpoint endpoint allowed badge
  pub writes : IsTrue (may_write allowed)
  pub replies : IsTrue (may_grant_reply allowed)

-- a call and a capability by which a thread receives from an endpoint
pub record ReceivesFrom (endpoint : ℕ) (call : SystemCall) (capability : Cap) : Type 0 where
  pub receives : is_receive call ≡ true
  pub allowed : Rights
  pub badge : ℕ
  pub is : capability ≡ Endpoint endpoint allowed badge
  pub reads : IsTrue (may_read allowed)

-- a call and a capability by which a thread signals a notification, with this badge
pub data Signals (s after : State) (notification badge : ℕ) (call : SystemCall) (capability : Cap) : Type 0 where
  by_right : (allowed : Rights) → is_send call ≡ true → capability ≡ Notification notification allowed badge → IsTrue (may_write allowed)
      → Signals s after notification badge call capability
  -- the acknowledgement of a line that is bound to it takes the interrupt that is pending
  by_line : (number : ℕ) → is_send call ≡ true → capability ≡ InterruptHandler number
      → binding s number ≡ Some (record { notification = notification; badge = badge }) → s.pending number ≡ true → after.pending number ≡ false
      → Signals s after notification badge call capability

-- ---- queues that lose their first

-- the first receiver of an endpoint leaves its queue; there is an endpoint before and after
pub record TakesReceiver (s after : State) (endpoint first : ℕ) : Type 0 where
  pub was : kind_at s endpoint ≡ Some NewEndpoint
  pub is : kind_at after endpoint ≡ Some NewEndpoint
  pub leaves : (endpoint_at s endpoint).receivers ≡ first ∷ (endpoint_at after endpoint).receivers

-- the first sender
pub record TakesSender (s after : State) (endpoint : ℕ) (first : Sender) : Type 0 where
  pub was : kind_at s endpoint ≡ Some NewEndpoint
  pub is : kind_at after endpoint ≡ Some NewEndpoint
  pub leaves : (endpoint_at s endpoint).senders ≡ first ∷ (endpoint_at after endpoint).senders

-- the first that waits for a notification
pub record TakesWaiter (s after : State) (notification first : ℕ) : Type 0 where
  pub was : kind_at s notification ≡ Some NewNotification
  pub is : kind_at after notification ≡ Some NewNotification
  pub leaves : (notification_at s notification).waiters ≡ first ∷ (notification_at after notification).waiters

-- ---- what becomes of the other thread

-- The receiver of a call that may be replied to has the right to do so, and the caller waits for that from then on; one of a message keeps
-- what it has.
pub data MayReply (after : State) (sender : ℕ) (Named : (SystemCall → Cap → Type 0) → Type 0) (endpoint badge : ℕ) (before caller : Option ℕ) : Type 0 where
  as_before : caller ≡ before → MayReply after sender Named endpoint badge before caller
  to_sender : Named (CallsTo endpoint badge) → caller ≡ Some sender → (thread_at after sender).status ≡ AwaitsReply
      → MayReply after sender Named endpoint badge before caller

-- a sender whose message was received: one that sent runs again, one that called waits for the reply or stops
abbrev pub once_received : Sender → Sent → ThreadState → ThreadState
once_received sender BySend t = woken t (advanced t.registers)
once_received sender ByCall t = record t { status = if sender.grant_reply then AwaitsReply else Inactive }
once_received sender (ByFault fault) t = record t { status = AwaitsHandler }

-- a thread that waited for what its handler replies: label 0 resumes it, another stops it
abbrev pub once_handled : ThreadState → ThreadState → ThreadState
once_handled handler t =
    let message = message_of handler in
    if message.label == 0
    then woken t (record t.registers { pc = resumption t.registers.pc message.words })
    else record t { status = Inactive }

-- All words of a message that no register holds come: in the buffer of who gets it they are what the sender's buffer held.
abbrev pub Arrives : State → State → ℕ → ℕ → Type 0
Arrives s after from to =
    (source target index : ℕ) → buffer_of s from ≡ Some source → buffer_of s to ≡ Some target → 4 * register_words ≤ index
    → index < 4 * length_between s from to → after.bytes (target + index) ≡ s.bytes (source + index)

-- who says a message, and no fault
abbrev pub is_message : Sent → Bool
is_message BySend = true
is_message ByCall = true
is_message (ByFault fault) = false

-- Why a step of the thread `self`, whose system call names such a capability, changed another thread from one state to another. Who waited
-- in a queue was the first there, and is there no more.
pub data Reason (s after : State) (self : ℕ) (Named : (SystemCall → Cap → Type 0) → Type 0) (other : ℕ) (before changed : ThreadState) : Type 0 where
  -- the first receiver of an endpoint got the message of this thread
  receiver : (endpoint badge : ℕ) (caller : Option ℕ)
      → TakesReceiver s after endpoint other → before.status ≡ Blocked endpoint
      → Named (SendsTo endpoint badge) → MayReply after self Named endpoint badge before.caller caller
      → changed ≡ record (woken before (advanced (delivered before.registers badge (message_between s self other)))) { caller = caller }
      → Arrives s after self other
      → Reason s after self Named other before changed
  -- this thread received the message of the first sender
  sender : (endpoint : ℕ) (first : Sender)
      → TakesSender s after endpoint first → first.thread ≡ other → before.status ≡ Blocked endpoint
      → Named (ReceivesFrom endpoint) → changed ≡ once_received first first.sent before
      → (is_message first.sent ≡ true → Arrives s after other self)
      → Reason s after self Named other before changed
  -- the first waiter of a notification got the badge of a signal
  waiter : (notification badge : ℕ)
      → TakesWaiter s after notification other → before.status ≡ Blocked notification
      → Named (Signals s after notification badge) → changed ≡ woken before (advanced (write before.registers a0 badge))
      → Reason s after self Named other before changed
  -- this thread replied to its caller
  caller : (thread_at s self).caller ≡ Some other → before.status ≡ AwaitsReply
      → changed ≡ woken before (advanced (delivered before.registers 0 (message_between s self other))) → Arrives s after self other
      → Reason s after self Named other before changed
  -- or to one whose fault it handles
  faulted : (thread_at s self).caller ≡ Some other → before.status ≡ AwaitsHandler → changed ≡ once_handled (thread_at s self) before
      → Reason s after self Named other before changed
  -- what it waited on ended, and it is at its call again
  set_back : (queue : ℕ) → before.status ≡ Blocked queue → s.objects queue ≢ None → after.objects queue ≡ None
      → changed ≡ woken before before.registers
      → Reason s after self Named other before changed
