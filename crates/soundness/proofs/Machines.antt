-- Messages, events, registers and stores change neither the size of memory nor the boot CNode nor slots.
use Rattle.std.proofs.Common.{ℕ, ◌∙◌, ◌==◌, ◌-◌, Bool, true, false, nat_le, nat_lt, if◌then◌else◌, List, [], ◌∷◌, Option, Some, None, refl}
use Rattle.std.specs.Option.{option_map_or}
use Rattle.model.specs.Kernel.AddressSpaces.{with_content}
use Rattle.model.specs.Kernel.Faults.{fault, handler, tell}
use Rattle.model.specs.Kernel.Interrupts.{Signal, acknowledge, binding, interrupt, raise, with_pending}
use Rattle.model.specs.Kernel.Messages.{Message, deliver_sent, deliver_word, message_between, passes, passes_with, poll, receive, received}
use Rattle.model.specs.Kernel.Messages.{received_waiting, receives, replied, reply, resumption, send, sends, signal, signals, takes_word, tries_to_send}
use Rattle.model.specs.Kernel.Messages.{try_to_receive, try_to_send, wait, waits_for_signal, waits_to_receive, with_caller, with_registers}
use Rattle.model.specs.Kernel.Scheduling.{at_tail, block, current, is_runnable, leaves, tick, ticked, unready, wake, yielded}
use Rattle.model.specs.Kernel.State.{State, Status, Inactive, Runnable, Blocked, AwaitsReply, AwaitsHandler, FaultMessage, NotificationState, Sender, Sent}
use Rattle.model.specs.Kernel.State.{BySend, ByCall, ByFault, ThreadState, endpoint_at, notification_at, put, thread_at, with_endpoint, with_notification}
use Rattle.model.specs.Kernel.State.{with_thread}
use Rattle.model.specs.Kernel.Steps.{answered}
use Rattle.model.specs.declared.system_calls.SendCall.{SendCall}
use Rattle.model.specs.declared.system_calls.SendCall.TheVariants.{Calling, Sending, Trying}
use Rattle.model.specs.Kernel.ThreadCalls.{resume, suspend, with_priority, with_register}
use Rattle.model.specs.Machine.ProgramMemory.{Content, RegisterFile}
use Rattle.soundness.specs.Machines.{SameBase}

-- ---- steps put together

-- one change after another
pub then-machine : (s t u : State) → SameBase s t → SameBase t u → SameBase s u
then-machine s t u first second = record {
  memory_bits = second.memory_bits ∙ first.memory_bits;
  boot_radix = second.boot_radix ∙ first.boot_radix;
  slots = second.slots ∙ first.slots;
}

-- one of two states
either-machine : (s t u : State) (test : Bool) → SameBase s t → SameBase s u → SameBase s (if test then t else u)
either-machine s t u true one other = one
either-machine s t u false one other = other

-- a step with what there may be, or another state
option-machine : {A : Type 0} (s u : State) (step : A → State) (o : Option A) → ((x : A) → SameBase s (step x)) → SameBase s u
    → SameBase s (option_map_or step o u)
option-machine s u step None each other = other
option-machine s u step (Some x) each other = each x

-- ---- sending

received-machine : (s : State) (sender : Sender) (sent : Sent) (receiver : ℕ) → SameBase s (received s sender sent receiver)
received-machine s sender BySend receiver = record { memory_bits = refl; boot_radix = refl; slots = refl }
received-machine s sender ByCall receiver =
    either-machine s (with_caller (block s sender.thread AwaitsReply) receiver (Some sender.thread)) (block s sender.thread Inactive) sender.grant_reply
    (record { memory_bits = refl; boot_radix = refl; slots = refl }) (record { memory_bits = refl; boot_radix = refl; slots = refl })
received-machine s sender (ByFault fault) receiver = record { memory_bits = refl; boot_radix = refl; slots = refl }

received_waiting-machine : (s : State) (sender : Sender) (sent : Sent) (receiver : ℕ) → SameBase s (received_waiting s sender sent receiver)
received_waiting-machine s sender BySend receiver = record { memory_bits = refl; boot_radix = refl; slots = refl }
received_waiting-machine s sender ByCall receiver = received-machine s sender ByCall receiver
received_waiting-machine s sender (ByFault fault) receiver = received-machine s sender (ByFault fault) receiver

sends-machine : (s : State) (endpoint : ℕ) (sender : Sender) (receivers : List ℕ) → SameBase s (sends s endpoint sender receivers)
sends-machine s endpoint sender [] = record { memory_bits = refl; boot_radix = refl; slots = refl }
sends-machine s endpoint sender (receiver ∷ others) =
    let one = with_endpoint s endpoint (record (endpoint_at s endpoint) { receivers = others }) in
    let two = wake (deliver_sent one sender receiver) receiver in
    then-machine s two (received two sender sender.sent receiver) (record { memory_bits = refl; boot_radix = refl; slots = refl })
    (received-machine two sender sender.sent receiver)

tries_to_send-machine : (s : State) (endpoint : ℕ) (sender : Sender) (receivers : List ℕ)
    → SameBase s (tries_to_send s endpoint sender receivers)
tries_to_send-machine s endpoint sender [] = record { memory_bits = refl; boot_radix = refl; slots = refl }
tries_to_send-machine s endpoint sender (receiver ∷ others) = sends-machine s endpoint sender (receiver ∷ others)

pub send-machine : (s : State) (endpoint : ℕ) (sender : Sender) → SameBase s (send s endpoint sender)
send-machine s endpoint sender = sends-machine s endpoint sender (endpoint_at s endpoint).receivers

pub try_to_send-machine : (s : State) (endpoint : ℕ) (sender : Sender) → SameBase s (try_to_send s endpoint sender)
try_to_send-machine s endpoint sender = tries_to_send-machine s endpoint sender (endpoint_at s endpoint).receivers

-- ---- receiving

receives-machine : (s t : State) (endpoint receiver : ℕ) (otherwise : State) (senders : List Sender) → SameBase s t → SameBase s otherwise
    → SameBase s (receives t endpoint receiver otherwise senders)
receives-machine s t endpoint receiver otherwise [] same other = other
receives-machine s t endpoint receiver otherwise (sender ∷ others) same other =
    let one = with_endpoint t endpoint (record (endpoint_at t endpoint) { senders = others }) in
    let two = deliver_sent one sender receiver in
    then-machine s two (received_waiting two sender sender.sent receiver)
    (record { memory_bits = same.memory_bits; boot_radix = same.boot_radix; slots = same.slots })
    (received_waiting-machine two sender sender.sent receiver)

pub receive-machine : (s : State) (endpoint receiver : ℕ) → SameBase s (receive s endpoint receiver)
receive-machine s endpoint receiver =
    let ready = with_caller s receiver None in
    receives-machine s ready endpoint receiver (waits_to_receive ready endpoint receiver) (endpoint_at ready endpoint).senders
    (record { memory_bits = refl; boot_radix = refl; slots = refl }) (record { memory_bits = refl; boot_radix = refl; slots = refl })

pub try_to_receive-machine : (s : State) (endpoint receiver : ℕ) → SameBase s (try_to_receive s endpoint receiver)
try_to_receive-machine s endpoint receiver =
    let ready = with_caller s receiver None in
    receives-machine s ready endpoint receiver (deliver_word ready receiver 0) (endpoint_at ready endpoint).senders
    (record { memory_bits = refl; boot_radix = refl; slots = refl }) (record { memory_bits = refl; boot_radix = refl; slots = refl })

-- ---- replies

replied-machine : (s : State) (thread caller : ℕ) (status : Status) (message : Message) → SameBase s (replied s thread caller status message)
replied-machine s thread caller AwaitsReply message = record { memory_bits = refl; boot_radix = refl; slots = refl }
replied-machine s thread caller AwaitsHandler message =
    let r = (thread_at s caller).registers in
    let resumed : RegisterFile = record r { pc = resumption r.pc message.words } in
    either-machine s (wake (with_registers s caller resumed) caller) (block s caller Inactive) (message.label == 0)
    (record { memory_bits = refl; boot_radix = refl; slots = refl }) (record { memory_bits = refl; boot_radix = refl; slots = refl })
replied-machine s thread caller Inactive message = record { memory_bits = refl; boot_radix = refl; slots = refl }
replied-machine s thread caller Runnable message = record { memory_bits = refl; boot_radix = refl; slots = refl }
replied-machine s thread caller (Blocked queue) message = record { memory_bits = refl; boot_radix = refl; slots = refl }

pub reply-machine : (s : State) (thread : ℕ) → SameBase s (reply s thread)
reply-machine s thread =
    let one = with_caller s thread None in
    option-machine s s (λ caller. replied one thread caller (thread_at s caller).status (message_between s thread caller)) (thread_at s thread).caller
    (λ caller. then-machine s one (replied one thread caller (thread_at s caller).status (message_between s thread caller))
    (record { memory_bits = refl; boot_radix = refl; slots = refl })
    (replied-machine one thread caller (thread_at s caller).status (message_between s thread caller)))
    (record { memory_bits = refl; boot_radix = refl; slots = refl })

-- ---- notifications

signals-machine : (s : State) (notification badge : ℕ) (n : NotificationState) (waiters : List ℕ)
    → SameBase s (signals s notification badge n waiters)
signals-machine s notification badge n [] = record { memory_bits = refl; boot_radix = refl; slots = refl }
signals-machine s notification badge n (waiter ∷ others) = record { memory_bits = refl; boot_radix = refl; slots = refl }

pub signal-machine : (s : State) (notification badge : ℕ) → SameBase s (signal s notification badge)
signal-machine s notification badge =
    let n = notification_at s notification in signals-machine s notification badge n n.waiters

takes_word-machine : (s : State) (notification thread : ℕ) (otherwise : State) → SameBase s otherwise
    → SameBase s (takes_word s notification thread otherwise)
takes_word-machine s notification thread otherwise other =
    let n = notification_at s notification in
    either-machine s otherwise (deliver_word (with_notification s notification (record n { word = 0 })) thread n.word) (n.word == 0) other
    (record { memory_bits = refl; boot_radix = refl; slots = refl })

pub wait-machine : (s : State) (notification thread : ℕ) → SameBase s (wait s notification thread)
wait-machine s notification thread =
    takes_word-machine s notification thread (waits_for_signal s notification thread) (record { memory_bits = refl; boot_radix = refl; slots = refl })

pub poll-machine : (s : State) (notification thread : ℕ) → SameBase s (poll s notification thread)
poll-machine s notification thread =
    takes_word-machine s notification thread (deliver_word s thread 0) (record { memory_bits = refl; boot_radix = refl; slots = refl })

-- ---- faults

pub fault-machine : (s : State) (thread : ℕ) (message : FaultMessage) → SameBase s (fault s thread message)
fault-machine s thread message =
    option-machine s (block s thread Inactive) (tell s thread message) (handler s thread)
    (λ to. send-machine s to.endpoint (record { thread = thread; sent = ByFault message; badge = to.badge; grant_reply = true }))
    (record { memory_bits = refl; boot_radix = refl; slots = refl })

-- ---- a thread that goes on

pub passes-machine : (s : State) (thread : ℕ) → SameBase s (passes s thread)
passes-machine s thread = record { memory_bits = refl; boot_radix = refl; slots = refl }

pub passes_with-machine : (s : State) (thread : ℕ) (registers : RegisterFile) → SameBase s (passes_with s thread registers)
passes_with-machine s thread registers = record { memory_bits = refl; boot_radix = refl; slots = refl }

pub with_content-machine : (s : State) (content : Content) → SameBase s (with_content s content)
with_content-machine s content = record { memory_bits = refl; boot_radix = refl; slots = refl }

pub answered-machine : (s : State) (thread : ℕ) (kind : SendCall) (number : ℕ) → SameBase s (answered s thread kind number)
answered-machine s thread Calling number = record { memory_bits = refl; boot_radix = refl; slots = refl }
answered-machine s thread Sending number = record { memory_bits = refl; boot_radix = refl; slots = refl }
answered-machine s thread Trying number = record { memory_bits = refl; boot_radix = refl; slots = refl }

-- ---- ticks

pub yielded-machine : (s : State) (thread : ℕ) → SameBase s (yielded s thread)
yielded-machine s thread = record { memory_bits = refl; boot_radix = refl; slots = refl }

ticked-machine : (s : State) (thread : ℕ) → SameBase s (ticked s thread)
ticked-machine s thread =
    let slice = (thread_at s thread).slice in
    either-machine s (yielded s thread) (with_thread s thread (record (thread_at s thread) { slice = slice - 1 })) (nat_le slice 1)
    (yielded-machine s thread) (record { memory_bits = refl; boot_radix = refl; slots = refl })

pub tick-machine : (s : State) → SameBase s (tick s)
tick-machine s = option-machine s s (ticked s) (current s) (ticked-machine s) (record { memory_bits = refl; boot_radix = refl; slots = refl })

-- ---- interrupts

interrupt-machine : (s : State) (line : ℕ) (bound : Signal) → SameBase s (interrupt s line bound)
interrupt-machine s line bound =
    let same = signal-machine s bound.notification bound.badge in
    record { memory_bits = same.memory_bits; boot_radix = same.boot_radix; slots = same.slots }

pub raise-machine : (s : State) (line : ℕ) → SameBase s (raise s line)
raise-machine s line =
    let pends = with_pending s line true in
    let delivers = option_map_or (interrupt s line) (binding s line) pends in
    let pending : SameBase s pends = record { memory_bits = refl; boot_radix = refl; slots = refl } in
    either-machine s s (if s.masked line then pends else delivers) (nat_lt 63 line) (record { memory_bits = refl; boot_radix = refl; slots = refl })
    (either-machine s pends delivers (s.masked line) pending
    (option-machine s pends (interrupt s line) (binding s line) (interrupt-machine s line) pending))

pub acknowledge-machine : (s : State) (line : ℕ) → SameBase s (acknowledge s line)
acknowledge-machine s line =
    let unmasked : State = record s { masked = put s.masked line false } in
    let clear = with_pending unmasked line false in
    let opened : SameBase s unmasked = record { memory_bits = refl; boot_radix = refl; slots = refl } in
    either-machine s (option_map_or (interrupt clear line) (binding s line) unmasked) unmasked (s.pending line)
    (option-machine s unmasked (interrupt clear line) (binding s line)
    (λ bound. then-machine s clear (interrupt clear line bound) (record { memory_bits = refl; boot_radix = refl; slots = refl })
    (interrupt-machine clear line bound))
    opened)
    opened

-- ---- calls on threads

pub resume-machine : (s : State) (thread : ℕ) → SameBase s (resume s thread)
resume-machine s thread =
    either-machine s s (wake (leaves s thread) thread) (is_runnable (thread_at s thread).status)
    (record { memory_bits = refl; boot_radix = refl; slots = refl }) (record { memory_bits = refl; boot_radix = refl; slots = refl })

pub suspend-machine : (s : State) (thread : ℕ) → SameBase s (suspend s thread)
suspend-machine s thread = record { memory_bits = refl; boot_radix = refl; slots = refl }

pub with_priority-machine : (s : State) (thread priority : ℕ) → SameBase s (with_priority s thread priority)
with_priority-machine s thread priority =
    let t : ThreadState = record (thread_at s thread) { priority = priority } in
    either-machine s (at_tail (with_thread (unready s thread) thread t) thread) (with_thread s thread t) (is_runnable t.status)
    (record { memory_bits = refl; boot_radix = refl; slots = refl }) (record { memory_bits = refl; boot_radix = refl; slots = refl })

pub with_register-machine : (s : State) (thread index value : ℕ) → SameBase s (with_register s thread index value)
with_register-machine s thread index value = record { memory_bits = refl; boot_radix = refl; slots = refl }
