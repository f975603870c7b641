-- Steps of the machine: what each event does, and the label that it gives. One event after another makes the trace.
-- seL4 Reference Manual, "System Calls", for the calls; numbers and labels are our own.
use Rattle.std.specs.Prelude.{ℕ, ◌==◌, ◌+◌, ◌-◌, ◌%◌, ◌^◌, Bool, is_some, if◌then◌else◌, Option, Some, None, Result, Ok, Err, List, [], ◌∷◌}
use Rattle.std.specs.Option.{option_map_or}
use Rattle.model.specs.declared.capabilities.Cap.{Cap}
use Rattle.model.specs.declared.capabilities.Cap.TheVariants.{Endpoint, Notification}
use Rattle.model.specs.declared.errors.KError.{KError}
use Rattle.model.specs.declared.errors.KError.TheVariants.{InvalidCapability}
use Rattle.model.specs.declared.events.Event.{Event}
use Rattle.model.specs.declared.events.Event.TheVariants.{Step, Tick, Irq, Write, Read}
use Rattle.model.specs.declared.instructions.Access.TheVariants.{Fetch}
use Rattle.model.specs.declared.instructions.AccessSize.TheVariants.{Word}
use Rattle.model.specs.declared.instructions.Cause.TheVariants.{Illegal}
use Rattle.model.specs.declared.instructions.Exec.{Exec}
use Rattle.model.specs.declared.instructions.Exec.TheVariants.{Next, Ecall, Trap, Memory}
use Rattle.model.specs.declared.instructions.Instr.{Instr}
use Rattle.model.specs.declared.instructions.MemoryFault.{MemoryFault}
use Rattle.model.specs.declared.labels.Label.{Label}
use Rattle.model.specs.declared.labels.Label.TheVariants.{Idle, Ticked, Raised, Wrote, Showed, Ran}
use Rattle.model.specs.declared.labels.Outcome.{Outcome}
use Rattle.model.specs.declared.labels.Outcome.TheVariants.{Faulted, Refused, Completed, Put, Waited, Plain}
use Rattle.model.specs.declared.lookup_failures.LookupFailure.{LookupFailure}
use Rattle.model.specs.declared.lookup_failures.LookupFailure.TheVariants.{MissingCapability}
pub use Rattle.model.specs.declared.system_calls.ReceiveCall.{ReceiveCall}
pub use Rattle.model.specs.declared.system_calls.ReceiveCall.TheVariants.{Receiving, Polling}
pub use Rattle.model.specs.declared.system_calls.SendCall.{SendCall}
pub use Rattle.model.specs.declared.system_calls.SendCall.TheVariants.{Calling, Sending, Trying}
pub use Rattle.model.specs.declared.system_calls.SystemCall.{SystemCall}
pub use Rattle.model.specs.declared.system_calls.SystemCall.TheVariants.{Sends, Receives, RepliesAndReceives, Replies, Yields, PutsCharacter}
use Rattle.model.specs.Kernel.AddressSpaces.{content_of, with_content}
use Rattle.model.specs.Kernel.Faults.{capability_fault, fault, instruction_fault, memory_fault, unknown_call}
use Rattle.model.specs.Machine.Decoding.{decoded}
use Rattle.model.specs.Machine.ProgramMemory.{RegisterFile, loaded, read, write}
use Rattle.model.specs.Machine.Effects.{effect}
use Rattle.model.specs.Kernel.Interrupts.{raise}
use Rattle.model.specs.Kernel.Arguments.{Call}
use Rattle.model.specs.Kernel.Invocations.{invoke}
use Rattle.model.specs.Shared.Labels.{error_number}
use Rattle.model.specs.Capabilities.Lookup.{called_slot}
use Rattle.model.specs.Kernel.Messages.{a0, a1, a7, extra_capabilities_of, info_word, message_of, passes, passes_with, poll, receive, reply, send, signal}
use Rattle.model.specs.Kernel.Messages.{try_to_receive, try_to_send, wait, with_registers}
use Rattle.model.specs.Capabilities.Rights.{may_grant_reply, may_read, may_write}
use Rattle.model.specs.Kernel.Scheduling.{current, is_runnable, tick, yielded}
use Rattle.model.specs.Capabilities.Slots.{capability_at}
use Rattle.model.specs.Kernel.World.{word_seen, world_writes}
use Rattle.model.specs.Kernel.State.{FaultMessage, Sender, Sent, BySend, ByCall, State, as_thread, cspace_slot, thread_at}

-- what one instruction of a thread leaves, and what came of it
abbrev pub Done : Type 0
Done = State × Outcome

abbrev pub registers_of : State → ℕ → RegisterFile
registers_of s thread = (thread_at s thread).registers

abbrev pub faults : State → ℕ → FaultMessage → Done
faults s thread message = (fault s thread message, Faulted message.kind)

-- the capability space of a thread
abbrev pub cspace_of : State → ℕ → Cap
cspace_of s thread = capability_at s.slots (cspace_slot thread)

-- the slot that a thread's a0 names
abbrev pub named_slot : State → ℕ → Result ℕ LookupFailure
named_slot s thread = called_slot s.slots (cspace_of s thread) (read (registers_of s thread) a0)

abbrev pub lacks_capability : State → ℕ → ℕ → LookupFailure → Done
lacks_capability s thread in_receive failure =
    let r = registers_of s thread in faults s thread (capability_fault r.pc (read r a0) in_receive failure)

-- ---- Call, Send and NBSend

-- the thread goes on; Call has the error's number as the label of an answer, or 0
abbrev pub answered : State → ℕ → SendCall → ℕ → State
answered s thread Calling number =
    passes_with s thread (write (write (registers_of s thread) a0 0) a1 (info_word number 0))
answered s thread Sending number = passes s thread
answered s thread Trying number = passes s thread

abbrev pub refused : State → ℕ → SendCall → KError → Done
refused s thread kind error = (answered s thread kind (error_number error), Refused error)

abbrev pub sender : ℕ → Sent → ℕ → Bool → Sender
sender thread sent badge grant_reply = record { thread = thread; sent = sent; badge = badge; grant_reply = grant_reply }

abbrev pub send_on : State → ℕ → SendCall → ℕ → ℕ → Bool → Done
send_on s thread Calling endpoint badge grant_reply = (send s endpoint (sender thread ByCall badge grant_reply), Waited)
send_on s thread Sending endpoint badge grant_reply = (send s endpoint (sender thread BySend badge grant_reply), Waited)
send_on s thread Trying endpoint badge grant_reply = (try_to_send s endpoint (sender thread BySend badge grant_reply), Plain)

abbrev pub signal_on : State → ℕ → SendCall → ℕ → ℕ → Done
signal_on s thread kind notification badge = (answered (signal s notification badge) thread kind 0, Plain)

-- A call may end its caller, which then gets no answer, or suspend it, which then passes without one.
abbrev pub completed : State → ℕ → SendCall → State
completed s thread kind =
    if is_some (as_thread (s.objects thread))
    then (if is_runnable (thread_at s thread).status then answered s thread kind 0 else passes s thread)
    else s

abbrev pub after_invocation : State → ℕ → SendCall → Result State KError → Done
after_invocation s thread kind (Ok after) = (completed after thread kind, Completed)
after_invocation s thread kind (Err error) = refused s thread kind error

abbrev pub invokes : State → ℕ → SendCall → ℕ → Cap → Done
invokes s thread kind slot capability =
    let message = message_of (thread_at s thread) in
    let call : Call = record { root = cspace_of s thread; caller = Some thread; slot = slot; capability = capability } in
    after_invocation s thread kind
    (invoke s call message.label (extra_capabilities_of (read (registers_of s thread) a1)) message.words)

-- by the kind of the capability: a message, a signal, or else an invocation
abbrev pub send_by : State → ℕ → SendCall → ℕ → Cap → Done
send_by s thread kind slot (Endpoint offset r badge) =
    if may_write r then send_on s thread kind offset badge (may_grant_reply r) else refused s thread kind InvalidCapability
send_by s thread kind slot (Notification offset r badge) =
    if may_write r then signal_on s thread kind offset badge else refused s thread kind InvalidCapability
send_by s thread kind slot capability = invokes s thread kind slot capability

-- without a capability NBSend does nothing, and the others fault
abbrev pub sends_nothing : State → ℕ → SendCall → LookupFailure → Done
sends_nothing s thread Calling failure = lacks_capability s thread 0 failure
sends_nothing s thread Sending failure = lacks_capability s thread 0 failure
sends_nothing s thread Trying failure = (passes s thread, Plain)

abbrev pub send_named : State → ℕ → SendCall → Result ℕ LookupFailure → Done
send_named s thread kind (Ok slot) = send_by s thread kind slot (capability_at s.slots slot)
send_named s thread kind (Err failure) = sends_nothing s thread kind failure

abbrev pub send_call : State → ℕ → SendCall → Done
send_call s thread kind = send_named s thread kind (named_slot s thread)

-- ---- Recv, ReplyRecv and NBRecv

abbrev pub receive_on_endpoint : State → ℕ → ReceiveCall → ℕ → Done
receive_on_endpoint s thread Receiving endpoint = (receive s endpoint thread, Waited)
receive_on_endpoint s thread Polling endpoint = (try_to_receive s endpoint thread, Plain)

abbrev pub receive_on_notification : State → ℕ → ReceiveCall → ℕ → Done
receive_on_notification s thread Receiving notification = (wait s notification thread, Waited)
receive_on_notification s thread Polling notification = (poll s notification thread, Plain)

-- another capability, or one that may not read, is as good as none
abbrev pub receive_by : State → ℕ → ReceiveCall → Cap → Done
receive_by s thread kind (Endpoint offset r badge) =
    if may_read r then receive_on_endpoint s thread kind offset else lacks_capability s thread 1 MissingCapability
receive_by s thread kind (Notification offset r badge) =
    if may_read r then receive_on_notification s thread kind offset else lacks_capability s thread 1 MissingCapability
receive_by s thread kind _ = lacks_capability s thread 1 MissingCapability

abbrev pub receive_named : State → ℕ → ReceiveCall → Result ℕ LookupFailure → Done
receive_named s thread kind (Ok slot) = receive_by s thread kind (capability_at s.slots slot)
receive_named s thread kind (Err failure) = lacks_capability s thread 1 failure

abbrev pub receive_call : State → ℕ → ReceiveCall → Done
receive_call s thread kind = receive_named s thread kind (named_slot s thread)

-- ---- all system calls

-- the call of a number
abbrev pub call_of : ℕ → Option SystemCall
call_of number =
    if number == 1 then Some (Sends Calling) else
    if number == 2 then Some RepliesAndReceives else
    if number == 3 then Some (Sends Sending) else
    if number == 4 then Some (Sends Trying) else
    if number == 5 then Some (Receives Receiving) else
    if number == 6 then Some Replies else
    if number == 7 then Some Yields else
    if number == 8 then Some (Receives Polling) else
    if number == 9 then Some PutsCharacter else None

abbrev pub calls : State → ℕ → SystemCall → Done
calls s thread (Sends kind) = send_call s thread kind
calls s thread (Receives kind) = receive_call s thread kind
calls s thread RepliesAndReceives = receive_call (reply s thread) thread Receiving
calls s thread Replies = (passes (reply s thread) thread, Plain)
calls s thread Yields = (yielded (passes s thread) thread, Plain)
calls s thread PutsCharacter = (passes s thread, Put (read (registers_of s thread) a0 % 2 ^ 8))

-- another number is a fault
abbrev pub calls_known : State → ℕ → ℕ → Option SystemCall → Done
calls_known s thread number (Some call) = calls s thread call
calls_known s thread number None = faults s thread (unknown_call (registers_of s thread).pc number)

-- the call whose number is in a7
unfoldable pub system_call : State → ℕ → Done
system_call s thread = let number = read (registers_of s thread) a7 in calls_known s thread number (call_of number)

-- ---- one instruction

abbrev pub after_effect : State → ℕ → ℕ → RegisterFile → Exec → Done → Done
after_effect s thread pc r Next ran = ran
after_effect s thread pc r Ecall ran = system_call s thread
after_effect s thread pc r (Trap cause) ran = faults s thread (instruction_fault pc cause)
after_effect s thread pc r (Memory address access) ran =
    faults s thread (memory_fault pc (record { address = address; access = access }))

abbrev pub runs_instruction : State → ℕ → Instr → Done
runs_instruction s thread instruction =
    let r = registers_of s thread in
    let e = effect r (content_of s thread) instruction in
    after_effect s thread r.pc r e.exec (with_content (with_registers s thread e.registers) e.content, Plain)

abbrev pub runs_decoded : State → ℕ → Option Instr → Done
runs_decoded s thread None = faults s thread (instruction_fault (registers_of s thread).pc Illegal)
runs_decoded s thread (Some instruction) = runs_instruction s thread instruction

abbrev pub runs_fetched : State → ℕ → Result ℕ MemoryFault → Done
runs_fetched s thread (Ok word) = runs_decoded s thread (decoded word)
runs_fetched s thread (Err failed) = faults s thread (memory_fault (registers_of s thread).pc failed)

-- the thread runs the instruction at its pc
unfoldable pub runs : State → ℕ → Done
runs s thread = runs_fetched s thread (loaded (content_of s thread) Fetch Word (registers_of s thread).pc)

-- ---- events

-- physical memory begins here
abbrev pub memory_base : ℕ
memory_base = 2 ^ 31

-- where a physical address is in memory; at those below it is no frame
abbrev pub place_of : ℕ → ℕ
place_of address = address - memory_base

abbrev pub ran : State → ℕ → State × Label
ran s thread =
    let done = runs s thread in
    (done.0, Ran (memory_base + thread) (registers_of s thread).pc done.1)

unfoldable pub step : State → Event → State × Label
step s Step = option_map_or (ran s) (current s) (s, Idle)
step s Tick = (tick s, Ticked)
step s (Irq irq_line) = (raise s irq_line, Raised irq_line)
step s (Write address word) = (world_writes s (place_of address) word, Wrote address word)
step s (Read address) = (s, Showed address (word_seen s (place_of address)))

-- the labels of events, one after another
unfoldable pub trace : State → List Event → List Label
trace s [] = []
trace s (event ∷ events) = let next = step s event in next.1 ∷ trace next.0 events

-- the state after them
unfoldable pub state_after : State → List Event → State
state_after s [] = s
state_after s (event ∷ events) = state_after (step s event).0 events
