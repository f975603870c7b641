-- The slots that the calls on CNodes name.
use Rattle.std.specs.Prelude.{ℕ, Result, Ok}
use Rattle.model.specs.Capabilities.Slots.{Slots}
use Rattle.model.specs.Kernel.Arguments.{◌>>=◌, destination_slot, source_slot}
use Rattle.model.specs.declared.capabilities.Cap.{Cap}
use Rattle.model.specs.declared.errors.KError.{KError}
use Rattle.model.specs.declared.invocations.SlotName.{SlotName}

-- an empty slot under a CNode, and then a full one in a capability space
abbrev pub named_slots : Slots → Cap → Cap → SlotName → SlotName → Result (ℕ × ℕ) KError
named_slots slots root node destination_name source_name = do
  destination ← destination_slot slots node destination_name
  source ← source_slot slots root source_name
  Ok (destination, source)
