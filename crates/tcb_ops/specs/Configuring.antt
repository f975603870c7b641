-- What Configure checks, and what it puts into the slots of a thread.
-- seL4 Reference Manual, seL4_TCB_Configure.
use Rattle.std.specs.Prelude.{ℕ, ◌≡◌, ◌<◌, ◌&&◌, IsSome, not, true, Option, Some, Result, Ok}
use Rattle.model.specs.Capabilities.CapabilityKinds.{cnode_of, root_of}
use Rattle.model.specs.Capabilities.Slots.{IsDerivation, IsFull, Slots, capability_at, depth_of, empty_entry, inserted, is_full}
use Rattle.model.specs.Kernel.Arguments.{◌>>=◌, check, may_have_child, source_slot, wanted}
use Rattle.model.specs.Kernel.State.{cspace_slot, vspace_slot}
use Rattle.model.specs.Kernel.ThreadCalls.{given_guard_fits, with_guard}
use Rattle.model.specs.declared.capabilities.Cap.{Cap}
use Rattle.model.specs.declared.errors.KError.{KError}
use Rattle.model.specs.declared.errors.KError.TheVariants.{DeleteFirst, IllegalOperation, InvalidCapability}
use Rattle.model.specs.declared.invocations.SlotName.{SlotName}
use Rattle.tcb_ops.specs.declared.spaces.Sources.{Sources}

-- a slot that has to hold the capability of a CNode, or of a root table
abbrev pub cnode_source : Slots → Cap → SlotName → Result ℕ KError
cnode_source slots root name = do
  slot ← source_slot slots root name
  _ ← wanted (cnode_of (capability_at slots slot)) InvalidCapability
  Ok slot

abbrev pub root_source : Slots → Cap → SlotName → Result ℕ KError
root_source slots root name = do
  slot ← source_slot slots root name
  _ ← wanted (root_of (capability_at slots slot)) InvalidCapability
  Ok slot

-- the slots of the thread are empty, the guard fits, and both sources may have a child
abbrev pub room_for_spaces : Slots → ℕ → Option ℕ → ℕ → ℕ → Result (Unit {0}) KError
room_for_spaces slots thread guard cspace vspace = do
  _ ← check (not (is_full slots (cspace_slot thread)) && not (is_full slots (vspace_slot thread))) DeleteFirst
  _ ← check (given_guard_fits (capability_at slots cspace) guard) IllegalOperation
  _ ← may_have_child slots cspace
  may_have_child slots vspace

-- the two sources, once all checks have passed
abbrev pub sources : Slots → Cap → ℕ → Option ℕ → SlotName → SlotName → Result Sources KError
sources slots root thread guard cspace_name vspace_name = do
  cspace ← cnode_source slots root cspace_name
  vspace ← root_source slots root vspace_name
  _ ← room_for_spaces slots thread guard cspace vspace
  Ok (record { cspace = cspace; vspace = vspace })

-- the copies that come
abbrev pub cspace_put : Slots → ℕ → Option ℕ → ℕ → Slots
cspace_put slots thread guard cspace = inserted slots (cspace_slot thread) (with_guard (capability_at slots cspace) guard) (Some cspace)

abbrev pub spaces_put : Slots → ℕ → Option ℕ → ℕ → ℕ → Slots
spaces_put slots thread guard cspace vspace = inserted (cspace_put slots thread guard cspace) (vspace_slot thread) (capability_at slots vspace) (Some vspace)

-- what is known before they come
pub record MayConfigure (slots : Slots) (thread : ℕ) (guard : Option ℕ) (cspace vspace : ℕ) : Type 0 where
  pub derivation : IsDerivation slots
  -- the thread's own slots
  pub first : slots (cspace_slot thread) ≡ Some empty_entry
  pub second : slots (vspace_slot thread) ≡ Some empty_entry
  -- the sources
  pub cspace_full : IsFull slots cspace
  pub vspace_full : IsFull slots vspace
  pub is_cnode : IsSome (cnode_of (capability_at slots cspace))
  pub is_root : IsSome (root_of (capability_at slots vspace))
  pub fits : given_guard_fits (capability_at slots cspace) guard ≡ true
  pub cspace_room : depth_of slots cspace < 255
  pub vspace_room : depth_of slots vspace < 255
