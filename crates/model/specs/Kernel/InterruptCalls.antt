-- Calls on interrupt control and on handlers of interrupt lines.
-- seL4 Reference Manual, "Hardware I/O", seL4_IRQControl and seL4_IRQHandler.
use Rattle.std.specs.Prelude.{ℕ, Bool, false, not, nat_le, Some, Result, Ok}
use Rattle.model.specs.declared.capabilities.Cap.{Cap}
use Rattle.model.specs.declared.capabilities.Cap.TheVariants.{Notification, InterruptHandler}
use Rattle.model.specs.declared.errors.KError.{KError}
use Rattle.model.specs.declared.errors.KError.TheVariants.{InvalidCapability, RangeError, RevokeFirst}
use Rattle.model.specs.declared.invocations.HandlerCall.{HandlerCall}
use Rattle.model.specs.declared.invocations.HandlerCall.TheVariants.{Acknowledge, SetNotification, Clear}
use Rattle.model.specs.declared.invocations.SlotName.{SlotName}
use Rattle.model.specs.Capabilities.CapabilityKinds.{is_handler_of}
use Rattle.model.specs.Capabilities.Rights.{may_write}
use Rattle.model.specs.Capabilities.Slots.{capability_at, inserted}
use Rattle.model.specs.Kernel.Arguments.{◌>>=◌, Call, check, destination_slot, may_have_child, source_slot}
use Rattle.model.specs.Kernel.Interrupts.{acknowledge}
use Rattle.model.specs.Kernel.Removal.{delete}
use Rattle.model.specs.Kernel.State.{State, binding_slot, holds_some, with_slots}

-- the handler's capability is a child of interrupt control
abbrev pub get_handler : State → Call → ℕ → SlotName → Result State KError
get_handler s call line name = do
  _ ← check (nat_le line 63) RangeError
  _ ← check (not (holds_some s (is_handler_of line))) RevokeFirst
  destination ← destination_slot s.slots call.root name
  _ ← may_have_child s.slots call.slot
  Ok (with_slots s (inserted s.slots destination (InterruptHandler line) (Some call.slot)))

abbrev pub may_be_bound : Cap → Bool
may_be_bound (Notification offset r badge) = may_write r
may_be_bound _ = false

-- the line gets a copy of a notification's capability
abbrev pub bind : State → Call → ℕ → SlotName → Result State KError
bind s call line name = do
  source ← source_slot s.slots call.root name
  _ ← check (may_be_bound (capability_at s.slots source)) InvalidCapability
  _ ← may_have_child s.slots source
  after ← delete s (binding_slot s line)
  Ok (with_slots after (inserted after.slots (binding_slot s line) (capability_at s.slots source) (Some source)))

abbrev pub on_handler : State → Call → ℕ → HandlerCall → Result State KError
on_handler s call line Acknowledge = Ok (acknowledge s line)
on_handler s call line (SetNotification name) = bind s call line name
on_handler s call line Clear = delete s (binding_slot s line)
