-- Faults: what a thread that cannot go on reports to its handler.
-- seL4 Reference Manual, "Faults"; the words of the messages are our own.
use Rattle.std.specs.Prelude.{ℕ, ◌==◌, ◌&&◌, if◌then◌else◌, true, Option, Some, None, Result, Ok, Err, [], ◌∷◌}
use Rattle.std.specs.Option.{option_map_or}
use Rattle.model.specs.declared.capabilities.Cap.{Cap}
use Rattle.model.specs.declared.capabilities.Cap.TheVariants.{Empty, Untyped, Endpoint, Notification, CNode, Frame, PageTable, Tcb, RootTable, InterruptControl}
use Rattle.model.specs.declared.capabilities.Cap.TheVariants.{InterruptHandler}
use Rattle.model.specs.declared.faults.FaultKind.TheVariants.{Capability, UnknownCall, Instruction, Memory}
use Rattle.model.specs.declared.instructions.Cause.{Cause}
use Rattle.model.specs.declared.instructions.MemoryFault.{MemoryFault}
use Rattle.model.specs.declared.lookup_failures.LookupFailure.{LookupFailure}
use Rattle.model.specs.Machine.Effects.{access_number, cause_number}
use Rattle.model.specs.Capabilities.LookupNumbers.{bits_left_of, failure_number}
use Rattle.model.specs.Capabilities.Lookup.{called_slot}
use Rattle.model.specs.Capabilities.Rights.{may_write, may_grant_reply}
use Rattle.model.specs.Capabilities.Slots.{capability_at}
use Rattle.model.specs.Kernel.State.{State, Inactive, ByFault, FaultMessage, thread_at, cspace_slot}
use Rattle.model.specs.Kernel.Scheduling.{block}
use Rattle.model.specs.Kernel.Messages.{send}

-- ---- the messages

-- a system call named no capability, or one that is not fit for it; whether it was a receive
abbrev pub capability_fault : ℕ → ℕ → ℕ → LookupFailure → FaultMessage
capability_fault pc address in_receive failure =
    record { kind = Capability; words = pc ∷ address ∷ in_receive ∷ failure_number failure ∷ bits_left_of failure ∷ [] }

-- a system call has a number that no call has
abbrev pub unknown_call : ℕ → ℕ → FaultMessage
unknown_call pc number = record { kind = UnknownCall; words = pc ∷ number ∷ [] }

abbrev pub instruction_fault : ℕ → Cause → FaultMessage
instruction_fault pc cause = record { kind = Instruction; words = pc ∷ cause_number cause ∷ [] }

-- the first byte without the right
abbrev pub memory_fault : ℕ → MemoryFault → FaultMessage
memory_fault pc fault = record { kind = Memory; words = pc ∷ fault.address ∷ access_number fault.access ∷ [] }

-- ---- the handler

-- who takes faults: an endpoint, and with which badge they come
pub record Handler : Type 0 where
  pub endpoint : ℕ
  pub badge : ℕ

-- the handler of a capability that may take faults: it writes, and lets the handler reply
abbrev pub handler_of : Cap → Option Handler
handler_of Empty = None
handler_of (Untyped offset bits watermark) = None
handler_of (Endpoint offset rights badge) = if may_write rights && may_grant_reply rights then Some (record { endpoint = offset; badge = badge }) else None
handler_of (Notification offset rights badge) = None
handler_of (CNode offset radix guard) = None
handler_of (Frame offset rights mapping) = None
handler_of (PageTable offset mapping) = None
handler_of (Tcb offset) = None
handler_of (RootTable offset) = None
handler_of InterruptControl = None
handler_of (InterruptHandler irq_line) = None

abbrev pub handler_in : State → Result ℕ LookupFailure → Option Handler
handler_in s (Ok slot) = handler_of (capability_at s.slots slot)
handler_in s (Err failure) = None

-- the handler that a thread's fault address names; address 0 names none
abbrev pub handler : State → ℕ → Option Handler
handler s thread =
    let address = (thread_at s thread).fault_address in
    if address == 0 then None
    else handler_in s (called_slot s.slots (capability_at s.slots (cspace_slot thread)) address)

abbrev pub tell : State → ℕ → FaultMessage → Handler → State
tell s thread message to =
    send s to.endpoint (record { thread = thread; sent = ByFault message; badge = to.badge; grant_reply = true })

-- A fault is sent to the handler as a call; without a handler the thread stops.
abbrev pub fault : State → ℕ → FaultMessage → State
fault s thread message = option_map_or (tell s thread message) (handler s thread) (block s thread Inactive)
