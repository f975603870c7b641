-- Calls on threads.
-- seL4 Reference Manual, "Threads and Execution", seL4_TCB.
use Rattle.std.specs.Prelude.{ℕ, ◌==◌, ◌%◌, ◌&&◌, ◌||◌, Bool, true, false, not, nat_le, if◌then◌else◌, Option, Some, None, Result, Ok}
use Rattle.std.specs.Option.{option_map_or}
use Rattle.model.specs.declared.capabilities.Cap.{Cap}
use Rattle.model.specs.declared.capabilities.Cap.TheVariants.{Frame}
use Rattle.model.specs.declared.errors.KError.{KError}
use Rattle.model.specs.declared.errors.KError.TheVariants.{AlignmentError, DeleteFirst, IllegalOperation, InvalidCapability, RangeError}
use Rattle.model.specs.declared.invocations.SlotName.{SlotName}
use Rattle.model.specs.declared.invocations.ThreadCall.{ThreadCall}
use Rattle.model.specs.declared.invocations.ThreadCall.TheVariants.{Configure, SetPriority, SetRegister, Resume, Suspend, SetBuffer}
use Rattle.model.specs.Capabilities.CapabilityKinds.{cnode_of, guard_fits, root_of, with_payload}
use Rattle.model.specs.Capabilities.Rights.{frame_rights}
use Rattle.model.specs.Capabilities.Slots.{capability_at, inserted, is_full}
use Rattle.model.specs.Kernel.Arguments.{◌>>=◌, Call, check, may_have_child, source_slot, wanted}
use Rattle.model.specs.Kernel.Messages.{register, with_registers}
use Rattle.model.specs.Kernel.Scheduling.{at_tail, block, is_runnable, leaves, unready, wake}
use Rattle.model.specs.Kernel.State.{State, Inactive, buffer_slot, cspace_slot, thread_at, vspace_slot, with_slots, with_thread}
use Rattle.model.specs.Machine.ProgramMemory.{write}

-- the capability with a guard word, if one is given
abbrev pub with_guard : Cap → Option ℕ → Cap
with_guard capability guard = option_map_or (with_payload capability) guard capability

abbrev pub given_guard_fits : Cap → Option ℕ → Bool
given_guard_fits capability guard = option_map_or (guard_fits capability) guard true

-- Copies of a CNode's and a root table's capability come into the thread's slots, the CNode's with another guard word if one
-- is given.
abbrev pub configure : State → Cap → ℕ → Option ℕ → ℕ → SlotName → SlotName → Result State KError
configure s root thread guard fault_address cspace_name vspace_name = do
  cspace ← source_slot s.slots root cspace_name
  _ ← wanted (cnode_of (capability_at s.slots cspace)) InvalidCapability
  vspace ← source_slot s.slots root vspace_name
  _ ← wanted (root_of (capability_at s.slots vspace)) InvalidCapability
  _ ← check (not (is_full s.slots (cspace_slot thread)) && not (is_full s.slots (vspace_slot thread))) DeleteFirst
  _ ← check (given_guard_fits (capability_at s.slots cspace) guard) IllegalOperation
  _ ← may_have_child s.slots cspace
  _ ← may_have_child s.slots vspace
  let one = inserted s.slots (cspace_slot thread) (with_guard (capability_at s.slots cspace) guard) (Some cspace) in
      let both = inserted one (vspace_slot thread) (capability_at s.slots vspace) (Some vspace) in
      Ok (with_thread (with_slots s both) thread (record (thread_at s thread) { fault_address = fault_address }))

-- a runnable thread goes to the tail of its new priority, with its slice
abbrev pub with_priority : State → ℕ → ℕ → State
with_priority s thread priority =
    let t = record (thread_at s thread) { priority = priority } in
    if is_runnable t.status
    then at_tail (with_thread (unready s thread) thread t) thread
    else with_thread s thread t

abbrev pub set_priority : State → ℕ → ℕ → Result State KError
set_priority s thread priority = do
  _ ← check (nat_le priority 255) RangeError
  Ok (with_priority s thread priority)

-- register 0 represents the pc
abbrev pub with_register : State → ℕ → ℕ → ℕ → State
with_register s thread index value =
    let r = (thread_at s thread).registers in
    with_registers s thread (if index == 0 then record r { pc = value } else write r (register index) value)

abbrev pub is_caller : Option ℕ → ℕ → Bool
is_caller caller thread = option_map_or (λ other. other == thread) caller false

-- a thread sets no register of its own
abbrev pub set_register : State → Option ℕ → ℕ → ℕ → ℕ → Result State KError
set_register s caller thread index value = do
  _ ← check (not (is_caller caller thread)) IllegalOperation
  _ ← check (nat_le index 31) RangeError
  _ ← check (not (index == 0) || value % 4 == 0) AlignmentError
  Ok (with_register s thread index value)

-- a thread that does not run leaves what it waits for, and runs from its pc
abbrev pub resume : State → ℕ → State
resume s thread = if is_runnable (thread_at s thread).status then s else wake (leaves s thread) thread

abbrev pub suspend : State → ℕ → State
suspend s thread = block (leaves s thread) thread Inactive

-- the frame of a capability to read and write
abbrev pub buffer_frame : Cap → Option ℕ
buffer_frame (Frame offset r mapping) = if r.0 == frame_rights.0 then Some offset else None
buffer_frame _ = None

-- an unmapped copy of a frame's capability comes into the thread's slot for its buffer
abbrev pub set_buffer : State → Cap → ℕ → SlotName → Result State KError
set_buffer s root thread frame_name = do
  source ← source_slot s.slots root frame_name
  frame ← wanted (buffer_frame (capability_at s.slots source)) InvalidCapability
  _ ← check (not (is_full s.slots (buffer_slot thread))) DeleteFirst
  _ ← may_have_child s.slots source
  Ok (with_slots s (inserted s.slots (buffer_slot thread) (Frame frame frame_rights None) (Some source)))

abbrev pub on_thread : State → Call → ℕ → ThreadCall → Result State KError
on_thread s call thread (Configure fault_address cspace vspace) = configure s call.root thread None fault_address cspace vspace
on_thread s call thread (SetPriority priority) = set_priority s thread priority
on_thread s call thread (SetRegister index value) = set_register s call.caller thread index value
on_thread s call thread Resume = Ok (resume s thread)
on_thread s call thread Suspend = Ok (suspend s thread)
on_thread s call thread (SetBuffer frame) = set_buffer s call.root thread frame
