-- Invocations: what a call on a capability does.
-- seL4 Reference Manual, "System Calls" and "seL4 API Reference".
--
-- The order of the checks of a system call. The first that fails decides.
--   1. a7 is the number of a call; else the thread faults (`calls_known` of `Steps`).
--   2. ReplyRecv and Reply answer the caller that there is, whatever a0 names (`calls`).
--   3. a0 names a full slot, through as many CNodes as its bits lead; bits that are left over are ignored. Else the thread faults, but for
--      NBSend, which does nothing (`send_named`, `receive_named`).
--   4. A receive has the right to read from an endpoint or a notification; else the thread faults (`receive_by`). A send has the right to
--      write to one; else it is InvalidCapability. On any other capability Call, Send and NBSend are invocations (`send_by`).
-- Of an invocation each check that fails is an error, and nothing has changed:
--   5. No capabilities come along (TruncatedMessage); the capability has a call of this label (IllegalOperation); the message has as many
--      words as that call lists (TruncatedMessage) (`form_called` of `CallForms`).
--   6. What the call asks, line after line (`retype`, `configure`, `copy`, `map_frame` and the others). A slot that it names is looked up at
--      the first line that needs it: of the address 1 to 32 bits count (RangeError), they are all used (FailedLookup), and then a source is
--      full (FailedLookup), a destination empty (DeleteFirst) (`argument_slot` of `Arguments`). The CNode of a Retype may be the root itself.
use Rattle.std.specs.Prelude.{ℕ, nat_le, Some, Result, List, length}
use Rattle.model.specs.declared.errors.KError.{KError}
use Rattle.model.specs.declared.errors.KError.TheVariants.{IllegalOperation, TruncatedMessage}
use Rattle.model.specs.declared.invocations.Invocation.{Invocation}
use Rattle.model.specs.declared.invocations.Invocation.TheVariants.{OnUntyped, OnThread, OnCNode, OnFrame, OnTable, OnControl, OnHandler}
use Rattle.model.specs.Capabilities.CapabilityKinds.{thread_of}
use Rattle.model.specs.Kernel.Arguments.{◌>>=◌, Call, check, wanted}
use Rattle.model.specs.Kernel.CallForms.{decode, slot_name, word}
use Rattle.model.specs.Kernel.CNodeCalls.{on_cnode}
use Rattle.model.specs.Kernel.InterruptCalls.{get_handler, on_handler}
use Rattle.model.specs.Kernel.MappingCalls.{on_frame, on_table}
use Rattle.model.specs.Kernel.Retype.{retype}
use Rattle.model.specs.Kernel.State.{State}
use Rattle.model.specs.Kernel.ThreadCalls.{configure, on_thread}

-- the state after a call, or the error of the first check that fails
abbrev pub perform : State → Call → Invocation → Result State KError
perform s call (OnUntyped memory c) = retype s call.root call.slot memory c
perform s call (OnThread thread c) = on_thread s call thread c
perform s call (OnCNode c) = on_cnode s call c
perform s call (OnFrame held c) = on_frame s call held c
perform s call (OnTable c) = on_table s call c
perform s call (OnControl irq_line destination) = get_handler s call irq_line destination
perform s call (OnHandler irq_line c) = on_handler s call irq_line c

-- A label with its words is decoded, and the call is performed. Where a check fails nothing has changed.
unfoldable pub invoke : State → Call → ℕ → ℕ → List ℕ → Result State KError
invoke s call label extra words = do
  invocation ← decode call.capability label extra words
  perform s call invocation

-- Configure as the loader calls it: a sixth word is the guard word of the thread's CNode.
unfoldable pub configure_with_guard : State → Call → List ℕ → Result State KError
configure_with_guard s call words = do
  thread ← wanted (thread_of call.capability) IllegalOperation
  _ ← check (nat_le 6 (length words)) TruncatedMessage
  configure s call.root thread (Some (word words 5)) (word words 0) (slot_name words 1) (slot_name words 3)
