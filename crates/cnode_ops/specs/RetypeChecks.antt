-- The checks of Retype, in their order.
-- seL4 Reference Manual, "Kernel Memory Allocation", seL4_Untyped_Retype.
use Rattle.std.specs.Prelude.{ℕ, ◌==◌, ◌+◌, ◌^◌, ◌&&◌, Bool, not, nat_le, if◌then◌else◌, Option, Result, Ok}
use Rattle.model.specs.Capabilities.CapabilityKinds.{cnode_of}
use Rattle.model.specs.Capabilities.Placement.{placement}
use Rattle.model.specs.Capabilities.Slots.{Slots, capability_at}
use Rattle.model.specs.Kernel.Arguments.{◌>>=◌, argument_slot, check, wanted}
use Rattle.model.specs.Kernel.Retype.{NewObject, any_full, object_bits}
use Rattle.model.specs.Kernel.State.{slot_of}
use Rattle.model.specs.declared.capabilities.Cap.{Cap}
use Rattle.model.specs.declared.errors.KError.{KError}
use Rattle.model.specs.declared.errors.KError.TheVariants.{DeleteFirst, FailedLookup, NotEnoughMemory, RangeError}
use Rattle.model.specs.declared.invocations.SlotName.{SlotName}
use Rattle.model.specs.declared.invocations.UntypedMemory.{UntypedMemory}

-- the capability that a CNode is named by: depth 0 names the root itself
abbrev pub named_node : Slots → Cap → SlotName → Result Cap KError
named_node slots root name =
    if name.depth == 0
    then Ok root
    else (argument_slot slots root name >>= λ slot. Ok (capability_at slots slot))

-- a CNode of this radix has 1 to 256 slots from an index on
abbrev pub has_slots : ℕ → ℕ → ℕ → Bool
has_slots radix index count = nat_le 1 count && nat_le count 256 && nat_le (index + count) (2 ^ radix)

-- the first of so many empty slots of a CNode from an index on
abbrev pub window : Slots → Cap → ℕ → ℕ → Result ℕ KError
window slots capability index count = do
  node ← wanted (cnode_of capability) FailedLookup
  _ ← check (has_slots node.radix index count) RangeError
  _ ← check (not (any_full slots (slot_of node.offset index) count)) DeleteFirst
  Ok (slot_of node.offset index)

-- where so many objects are in memory, and the watermark after them
abbrev pub behind_offset : ℕ → Option (ℕ × ℕ) → Result (ℕ × ℕ) KError
behind_offset offset placed = do
  place ← wanted placed NotEnoughMemory
  Ok (offset + place.0, place.1)

abbrev pub places : UntypedMemory → NewObject → ℕ → Result (ℕ × ℕ) KError
places memory kind count = behind_offset memory.offset (placement memory.bits memory.watermark (object_bits kind) count)
