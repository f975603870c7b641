-- What SetBuffer checks before the frame comes.
use Rattle.std.specs.Prelude.{ℕ, not, Result, Ok}
use Rattle.model.specs.Capabilities.Slots.{Slots, capability_at, is_full}
use Rattle.model.specs.Kernel.Arguments.{◌>>=◌, check, may_have_child, source_slot, wanted}
use Rattle.model.specs.Kernel.ThreadCalls.{buffer_frame}
use Rattle.model.specs.declared.capabilities.Cap.{Cap}
use Rattle.model.specs.declared.errors.KError.{KError}
use Rattle.model.specs.declared.errors.KError.TheVariants.{DeleteFirst, InvalidCapability}
use Rattle.model.specs.declared.invocations.SlotName.{SlotName}
use Rattle.tcb_ops.specs.declared.buffers.BufferSource.{BufferSource}

-- what comes into a thread's own slot for its buffer, once all checks have passed
abbrev pub buffer_source : Slots → Cap → ℕ → SlotName → Result BufferSource KError
buffer_source slots root own name = do
  slot ← source_slot slots root name
  frame ← wanted (buffer_frame (capability_at slots slot)) InvalidCapability
  _ ← check (not (is_full slots own)) DeleteFirst
  _ ← may_have_child slots slot
  Ok (record { slot = slot; frame = frame })
