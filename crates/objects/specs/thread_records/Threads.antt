-- What a thread's record represents in a state.
-- seL4 Reference Manual, "Kernel Services and Objects".
use Rattle.std.specs.Prelude.{ℕ, if◌then◌else◌}
use Rattle.model.specs.Kernel.Faults.{capability_fault, instruction_fault, memory_fault, unknown_call}
use Rattle.model.specs.Kernel.State as states
use Rattle.model.specs.Kernel.State.{FaultMessage, Sender, ThreadState}
use Rattle.objects.specs.declared.thread_records.records.Fault.{Fault}
use Rattle.objects.specs.declared.thread_records.records.Fault.TheVariants as faults
use Rattle.objects.specs.declared.thread_records.records.Sending.{Sending}
use Rattle.objects.specs.declared.thread_records.records.Sent.{Sent}
use Rattle.objects.specs.declared.thread_records.records.Sent.TheVariants as sents
use Rattle.objects.specs.declared.thread_records.records.Status.{Status}
use Rattle.objects.specs.declared.thread_records.records.Status.TheVariants as statuses
use Rattle.objects.specs.declared.thread_records.records.Thread.{Thread}
use Rattle.objects.specs.declared.thread_records.reads.ThreadRecord.{ThreadRecord}
use Rattle.objects.specs.thread_records.Records.{thread_at}

abbrev pub status_of : Status → states.Status
status_of statuses.Inactive = states.Inactive
status_of statuses.Runnable = states.Runnable
status_of (statuses.Blocked queue) = states.Blocked queue
status_of statuses.AwaitsReply = states.AwaitsReply
status_of statuses.AwaitsHandler = states.AwaitsHandler

abbrev pub thread_state : Thread → ThreadState
thread_state t = record {
  registers = t.registers;
  priority = t.priority;
  slice = t.slice;
  fault_address = t.fault_address;
  status = status_of t.status;
  caller = t.caller;
}

-- the thread that a record's bytes hold
abbrev pub record_state : ThreadRecord → ThreadState
record_state r = thread_state (thread_at r.memory.now r.thread)

-- ---- what a thread sends

abbrev pub message_of : Fault → FaultMessage
message_of (faults.Capability pc address in_receive failure) = capability_fault pc address (if in_receive then 1 else 0) failure
message_of (faults.UnknownCall pc number) = unknown_call pc number
message_of (faults.Instruction pc cause) = instruction_fault pc cause
message_of (faults.Memory pc fault) = memory_fault pc fault

abbrev pub sent_of : Sent → states.Sent
sent_of sents.Send = states.BySend
sent_of sents.Call = states.ByCall
sent_of (sents.Fault fault) = states.ByFault (message_of fault)

abbrev pub sender_of : ℕ → Sending → Sender
sender_of thread sending = record { thread = thread; sent = sent_of sending.sent; badge = sending.badge; grant_reply = sending.grant_reply }
