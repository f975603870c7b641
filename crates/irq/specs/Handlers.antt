-- What the calls on interrupt control and on handlers ask of the slots, in their order.
-- seL4 Reference Manual, "Hardware I/O", seL4_IRQControl and seL4_IRQHandler.
use Rattle.std.specs.Prelude.{ℕ, not, nat_le, Result, Ok}
use Rattle.model.specs.Capabilities.Slots.{Slots, capability_at}
use Rattle.model.specs.Kernel.Arguments.{◌>>=◌, check, destination_slot, may_have_child, source_slot}
use Rattle.model.specs.Kernel.InterruptCalls.{may_be_bound}
use Rattle.model.specs.declared.capabilities.Cap.{Cap}
use Rattle.model.specs.declared.errors.KError.{KError}
use Rattle.model.specs.declared.errors.KError.TheVariants.{InvalidCapability, RangeError, RevokeFirst}
use Rattle.model.specs.declared.invocations.SlotName.{SlotName}
use Rattle.slots.specs.Listed.{is_handled}

-- where a new handler of a line goes, below the slot of interrupt control
abbrev pub handler_place : Slots → ℕ → Cap → ℕ → ℕ → SlotName → Result ℕ KError
handler_place slots count root slot line name = do
  _ ← check (nat_le line 63) RangeError
  _ ← check (not (is_handled slots count line)) RevokeFirst
  destination ← destination_slot slots root name
  _ ← may_have_child slots slot
  Ok destination

-- the slot of the notification that a line is bound to
abbrev pub bound_source : Slots → Cap → SlotName → Result ℕ KError
bound_source slots root name = do
  source ← source_slot slots root name
  _ ← check (may_be_bound (capability_at slots source)) InvalidCapability
  _ ← may_have_child slots source
  Ok source
