-- A call on a capability, and the invocations that a capability has.
-- seL4 Reference Manual, "System Calls".
use Rattle.std.specs.Prelude.{ℕ, ◌≡◌, Option}
use Rattle.kernel_machine.specs.declared.perform_calls.calls.KernelCall.{KernelCall}
use Rattle.model.specs.Kernel.Arguments.{Call}
use Rattle.model.specs.declared.capabilities.Cap.{Cap}
use Rattle.model.specs.declared.capabilities.Cap.TheVariants.{Untyped, CNode, Frame, PageTable, Tcb, InterruptControl, InterruptHandler}
use Rattle.model.specs.declared.capabilities.FrameMapping.{FrameMapping}
use Rattle.model.specs.declared.capabilities.TableMapping.{TableMapping}
use Rattle.model.specs.declared.invocations.Invocation.{Invocation}
use Rattle.model.specs.declared.invocations.Invocation.TheVariants.{OnUntyped, OnThread, OnCNode, OnFrame, OnTable, OnControl, OnHandler}

abbrev pub call_of : KernelCall → Call
call_of made = record { root = made.root; caller = made.caller; slot = made.slot; capability = made.capability }

-- the invocation is one of the capability's kind, with what the capability says
abbrev pub AppliesTo : Cap → Invocation → Type 0
AppliesTo capability (OnUntyped memory call) = capability ≡ Untyped memory.offset memory.bits memory.watermark
AppliesTo capability (OnThread thread call) = capability ≡ Tcb thread
AppliesTo capability (OnCNode call) = (offset : ℕ) × (radix : ℕ) × (guard : ℕ) × (capability ≡ CNode offset radix guard)
AppliesTo capability (OnFrame held call) = (offset : ℕ) × (mapping : Option FrameMapping) × (capability ≡ Frame offset held mapping)
AppliesTo capability (OnTable call) = (offset : ℕ) × (mapping : Option TableMapping) × (capability ≡ PageTable offset mapping)
AppliesTo capability (OnControl line destination) = capability ≡ InterruptControl
AppliesTo capability (OnHandler line call) = capability ≡ InterruptHandler line
