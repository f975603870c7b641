-- Messages between threads: endpoints, replies and notifications.
-- seL4 Reference Manual, "Message Passing (IPC)" and "Notifications"; ours keeps the right to reply in the thread that
-- received a call, and sends no capabilities.
use Rattle.std.specs.Prelude.{ℕ, ◌==◌, ◌+◌, ◌-◌, ◌*◌, ◌/◌, ◌%◌, ◌^◌, min, is_some, bit_or, if◌then◌else◌, Option, Some, None, List, [], ◌∷◌, ◌++◌, length, take}
use Rattle.std.specs.Prelude.{map}
use Rattle.std.specs.Option.{option_map_or}
use Rattle.model.specs.declared.instructions.Register.{Register}
use Rattle.model.specs.Capabilities.CapabilityKinds.{frame_of}
use Rattle.model.specs.Capabilities.Slots.{capability_at, is_within}
use Rattle.model.specs.Machine.ProgramMemory.{RegisterFile, read, write}
use Rattle.model.specs.Machine.Effects.{advanced}
use Rattle.model.specs.Shared.Labels.{fault_number}
use Rattle.model.specs.Kernel.State.{State, Status, Inactive, Runnable, Blocked, AwaitsReply, AwaitsHandler, FaultMessage, ThreadState, Sender, Sent}
use Rattle.model.specs.Kernel.State.{BySend, ByCall, ByFault, NotificationState, buffer_slot, thread_at, with_thread, endpoint_at, with_endpoint}
use Rattle.model.specs.Kernel.State.{notification_at, with_notification}
use Rattle.model.specs.Kernel.Scheduling.{block, wake}

-- ---- registers of a call, in the names of the RISC-V calling convention

abbrev pub register : ℕ → Register
register number = record { 0 = number }

-- the capability, or the byte; what a receiver gets as the sender's badge
abbrev pub a0 : Register
a0 = register 10

-- the info word
abbrev pub a1 : Register
a1 = register 11

-- the number of the system call
abbrev pub a7 : Register
a7 = register 17

-- a2 to a5 and s2 to s5 hold the words
unfoldable pub word_registers : List Register
word_registers =
    register 12 ∷ register 13 ∷ register 14 ∷ register 15 ∷ register 18 ∷ register 19 ∷ register 20 ∷ register 21 ∷ []

-- ---- the info word: length in bits 0 to 6, extra capabilities in 7 to 8, the label in 12 to 31

-- so many words go by registers
abbrev pub register_words : ℕ
register_words = 8

-- how many words the registers of a message hold: a length above 8 counts as 8
abbrev pub length_of : ℕ → ℕ
length_of info = min register_words (info % 2 ^ 7)

abbrev pub extra_capabilities_of : ℕ → ℕ
extra_capabilities_of info = info / 2 ^ 7 % 2 ^ 2

abbrev pub label_of : ℕ → ℕ
label_of info = info / 2 ^ 12

-- the info word of a label and a length, with all else 0
abbrev pub info_word : ℕ → ℕ → ℕ
info_word label count = 2 ^ 12 * label + count

-- ---- messages in registers

-- a message: how many words it has, and those of them that registers hold
pub record Message : Type 0 where
  pub label : ℕ
  pub count : ℕ
  pub words : List ℕ

-- the message in a thread's registers
abbrev pub message_of : ThreadState → Message
message_of t =
    let info = read t.registers a1 in
    record { label = label_of info; count = length_of info; words = map (read t.registers) (take (length_of info) word_registers) }

-- the message that a fault is
abbrev pub fault_message : FaultMessage → Message
fault_message fault = record { label = fault_number fault.kind; count = length fault.words; words = fault.words }

-- what a sender says, as far as registers hold it
abbrev pub message_sent : State → Sender → Sent → Message
message_sent s sender BySend = message_of (thread_at s sender.thread)
message_sent s sender ByCall = message_of (thread_at s sender.thread)
message_sent s sender (ByFault fault) = fault_message fault

-- ---- message buffers

-- the frame of a thread's buffer, if it has one
abbrev pub buffer_of : State → ℕ → Option ℕ
buffer_of s thread = frame_of (capability_at s.slots (buffer_slot thread))

-- how many words the messages of a thread have at most
abbrev pub greatest_length : State → ℕ → ℕ
greatest_length s thread = if is_some (buffer_of s thread) then 120 else register_words

-- how many words a message has from one thread to another
abbrev pub length_between : State → ℕ → ℕ → ℕ
length_between s from to =
    min (read (thread_at s from).registers a1 % 2 ^ 7) (min (greatest_length s from) (greatest_length s to))

abbrev pub message_between : State → ℕ → ℕ → Message
message_between s from to = record (message_of (thread_at s from)) { count = length_between s from to }

-- what a sender's message is at its delivery to a thread
abbrev pub message_to : State → Sender → Sent → ℕ → Message
message_to s sender BySend receiver = message_between s sender.thread receiver
message_to s sender ByCall receiver = message_between s sender.thread receiver
message_to s sender (ByFault fault) receiver = fault_message fault

-- the bytes with so many words after those of the registers copied from one frame to another, as they are: word i is at byte 4 * i
abbrev pub with_copied : (ℕ → Option ℕ) → ℕ → ℕ → ℕ → ℕ → Option ℕ
with_copied bytes source target count place =
    if is_within (target + 4 * register_words) (4 * count) place then bytes (source + (place - target)) else bytes place

-- the bytes after a delivery of so many words: where both threads have buffers, those that no register holds are copied
abbrev pub bytes_between : State → ℕ → ℕ → ℕ → ℕ → Option ℕ
bytes_between s from to count =
    option_map_or (λ source. option_map_or (λ target. with_copied s.bytes source target (count - register_words)) (buffer_of s to) s.bytes)
    (buffer_of s from) s.bytes

-- the same for what a sender says; a fault is in registers alone
abbrev pub bytes_sent : State → Sender → Sent → ℕ → ℕ → Option ℕ
bytes_sent s sender BySend receiver = bytes_between s sender.thread receiver (length_between s sender.thread receiver)
bytes_sent s sender ByCall receiver = bytes_between s sender.thread receiver (length_between s sender.thread receiver)
bytes_sent s sender (ByFault fault) receiver = s.bytes

-- ---- deliveries

-- words written into registers, one after another
abbrev pub write_words : RegisterFile → List Register → List ℕ → RegisterFile
write_words r registers [] = r
write_words r [] (word ∷ words) = r
write_words r (x ∷ registers) (word ∷ words) = write_words (write r x word) registers words

-- the registers of a thread that is delivered a message: badge, info and words, and no other
abbrev pub delivered : RegisterFile → ℕ → Message → RegisterFile
delivered r badge message =
    write_words (write (write r a0 badge) a1 (info_word message.label message.count)) word_registers message.words

abbrev pub with_registers : State → ℕ → RegisterFile → State
with_registers s thread registers = with_thread s thread (record (thread_at s thread) { registers = registers })

-- the thread goes on after its ECALL
abbrev pub passes : State → ℕ → State
passes s thread = with_registers s thread (advanced (thread_at s thread).registers)

-- the thread goes on after its ECALL with these registers
abbrev pub passes_with : State → ℕ → RegisterFile → State
passes_with s thread registers = passes (with_registers s thread registers) thread

-- the thread gets a message in its registers, and goes on
abbrev pub deliver : State → ℕ → ℕ → Message → State
deliver s thread badge message = passes_with s thread (delivered (thread_at s thread).registers badge message)

-- the same, with these bytes
abbrev pub deliver_with : State → (ℕ → Option ℕ) → ℕ → ℕ → Message → State
deliver_with s bytes thread badge message = deliver (record s { bytes = bytes }) thread badge message

-- the thread gets what a sender says, in its registers and its buffer, and goes on
abbrev pub deliver_sent : State → Sender → ℕ → State
deliver_sent s sender receiver =
    deliver_with s (bytes_sent s sender sender.sent receiver) receiver sender.badge (message_to s sender sender.sent receiver)

-- the thread gets a word in a0 alone, and goes on
abbrev pub deliver_word : State → ℕ → ℕ → State
deliver_word s thread word = passes_with s thread (write (thread_at s thread).registers a0 word)

-- ---- endpoints

-- the thread has the right to reply to this one, or no such right
abbrev pub with_caller : State → ℕ → Option ℕ → State
with_caller s thread caller = with_thread s thread (record (thread_at s thread) { caller = caller })

-- A sender whose message was received waits for a reply, which the receiver has the one right to. One that sends passes.
-- One that calls without the right to get a reply stops at its ECALL.
abbrev pub received : State → Sender → Sent → ℕ → State
received s sender BySend receiver = passes s sender.thread
received s sender ByCall receiver =
    if sender.grant_reply
    then with_caller (block s sender.thread AwaitsReply) receiver (Some sender.thread)
    else block s sender.thread Inactive
received s sender (ByFault fault) receiver = with_caller (block s sender.thread AwaitsHandler) receiver (Some sender.thread)

-- the same for one that waited: one that sends runs again
abbrev pub received_waiting : State → Sender → Sent → ℕ → State
received_waiting s sender BySend receiver = wake (passes s sender.thread) sender.thread
received_waiting s sender ByCall receiver = received s sender ByCall receiver
received_waiting s sender (ByFault fault) receiver = received s sender (ByFault fault) receiver

abbrev pub waits_to_send : State → ℕ → Sender → State
waits_to_send s endpoint sender =
    let e = endpoint_at s endpoint in
    block (with_endpoint s endpoint (record e { senders = e.senders ++ sender ∷ [] })) sender.thread (Blocked endpoint)

-- a thread that runs sends to a receiver that waits
abbrev pub send_to : State → Sender → ℕ → State
send_to s sender receiver =
    received (wake (deliver_sent s sender receiver) receiver) sender sender.sent receiver

-- a thread that runs sends: the first receiver gets the message, or the sender waits
abbrev pub sends : State → ℕ → Sender → List ℕ → State
sends s endpoint sender [] = waits_to_send s endpoint sender
sends s endpoint sender (receiver ∷ others) =
    send_to (with_endpoint s endpoint (record (endpoint_at s endpoint) { receivers = others })) sender receiver

abbrev pub send : State → ℕ → Sender → State
send s endpoint sender = sends s endpoint sender (endpoint_at s endpoint).receivers

-- the same where nothing waits: the message is dropped
abbrev pub tries_to_send : State → ℕ → Sender → List ℕ → State
tries_to_send s endpoint sender [] = passes s sender.thread
tries_to_send s endpoint sender (receiver ∷ others) = sends s endpoint sender (receiver ∷ others)

abbrev pub try_to_send : State → ℕ → Sender → State
try_to_send s endpoint sender = tries_to_send s endpoint sender (endpoint_at s endpoint).receivers

abbrev pub waits_to_receive : State → ℕ → ℕ → State
waits_to_receive s endpoint receiver =
    let e = endpoint_at s endpoint in
    block (with_endpoint s endpoint (record e { receivers = e.receivers ++ receiver ∷ [] })) receiver (Blocked endpoint)

abbrev pub receive_from : State → Sender → ℕ → State
receive_from s sender receiver =
    received_waiting (deliver_sent s sender receiver) sender sender.sent receiver

-- a thread that runs receives from the first sender, or does what it does where none is
abbrev pub receives : State → ℕ → ℕ → State → List Sender → State
receives s endpoint receiver otherwise [] = otherwise
receives s endpoint receiver otherwise (sender ∷ others) =
    receive_from (with_endpoint s endpoint (record (endpoint_at s endpoint) { senders = others })) sender receiver

-- A receive first drops the right to reply that the thread has; that caller waits on.
abbrev pub receive : State → ℕ → ℕ → State
receive s endpoint receiver =
    let ready = with_caller s receiver None in
    receives ready endpoint receiver (waits_to_receive ready endpoint receiver) (endpoint_at ready endpoint).senders

-- the same without waiting: with nothing there a0 becomes 0
abbrev pub try_to_receive : State → ℕ → ℕ → State
try_to_receive s endpoint receiver =
    let ready = with_caller s receiver None in
    receives ready endpoint receiver (deliver_word ready receiver 0) (endpoint_at ready endpoint).senders

-- ---- replies

-- a caller gets the reply of a thread as a message with badge 0
abbrev pub reply_to_call : State → ℕ → ℕ → Message → State
reply_to_call s thread caller message = wake (deliver_with s (bytes_between s thread caller message.count) caller 0 message) caller

-- where a thread goes on that its handler resumes: at word 0 with its low two bits cleared, or where it was
abbrev pub resumption : ℕ → List ℕ → ℕ
resumption pc [] = pc
resumption pc (word ∷ words) = word - word % 4

-- a reply with label 0 resumes a thread that faulted, and any other stops it; no register changes
abbrev pub reply_to_fault : State → ℕ → Message → State
reply_to_fault s thread message =
    let r = (thread_at s thread).registers in
    if message.label == 0
    then wake (with_registers s thread (record r { pc = resumption r.pc message.words })) thread
    else block s thread Inactive

-- a thread replies with this message to another one that has this status
abbrev pub replied : State → ℕ → ℕ → Status → Message → State
replied s thread caller AwaitsReply message = reply_to_call s thread caller message
replied s thread caller AwaitsHandler message = reply_to_fault s caller message
replied s thread caller Inactive message = s
replied s thread caller Runnable message = s
replied s thread caller (Blocked queue) message = s

-- the thread answers its caller, if it has one, and gives the right away
abbrev pub reply : State → ℕ → State
reply s thread =
    option_map_or (λ caller. replied (with_caller s thread None) thread caller (thread_at s caller).status (message_between s thread caller))
    (thread_at s thread).caller s

-- ---- notifications

-- A signal wakes the first waiter with the badge, or joins the badge to the word.
abbrev pub signals : State → ℕ → ℕ → NotificationState → List ℕ → State
signals s notification badge n [] = with_notification s notification (record n { word = bit_or n.word badge })
signals s notification badge n (waiter ∷ others) =
    wake (deliver_word (with_notification s notification (record n { waiters = others })) waiter badge) waiter

abbrev pub signal : State → ℕ → ℕ → State
signal s notification badge =
    let n = notification_at s notification in signals s notification badge n n.waiters

abbrev pub waits_for_signal : State → ℕ → ℕ → State
waits_for_signal s notification thread =
    let n = notification_at s notification in
    block (with_notification s notification (record n { waiters = n.waiters ++ thread ∷ [] })) thread (Blocked notification)

-- a thread takes a word that is not 0 and clears it, or does what it does where it is 0
abbrev pub takes_word : State → ℕ → ℕ → State → State
takes_word s notification thread otherwise =
    let n = notification_at s notification in
    if n.word == 0
    then otherwise
    else deliver_word (with_notification s notification (record n { word = 0 })) thread n.word

abbrev pub wait : State → ℕ → ℕ → State
wait s notification thread = takes_word s notification thread (waits_for_signal s notification thread)

-- the same without waiting: with nothing there a0 becomes 0
abbrev pub poll : State → ℕ → ℕ → State
poll s notification thread = takes_word s notification thread (deliver_word s thread 0)
