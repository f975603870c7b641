-- Calls on CNodes: a destination is named under the invoked CNode, a source in the caller's capability space.
-- seL4 Reference Manual, "Capability-based Access Control", seL4_CNode; ours derives each copy from its source.
use Rattle.std.specs.Prelude.{ℕ, not, Some, Result, Ok}
use Rattle.model.specs.declared.errors.KError.{KError}
use Rattle.model.specs.declared.errors.KError.TheVariants.{IllegalOperation, RangeError}
use Rattle.model.specs.declared.invocations.CNodeCall.{CNodeCall}
use Rattle.model.specs.declared.invocations.CNodeCall.TheVariants.{Copy, Mint, Move, Mutate, Delete, Revoke}
use Rattle.model.specs.declared.invocations.SlotName.{SlotName}
use Rattle.model.specs.Capabilities.CapabilityKinds.{badge_fits, carries_messages, copied, guard_fits, is_badged, may_be_copied, with_payload}
use Rattle.model.specs.Capabilities.Slots.{capability_at, inserted, recapped, relocated}
use Rattle.model.specs.Kernel.Arguments.{◌>>=◌, Call, argument_slot, check, destination_slot, may_have_child, source_slot}
use Rattle.model.specs.Kernel.Removal.{delete, revoke}
use Rattle.model.specs.Kernel.State.{State, with_slots}

-- a child of the source, with those of its rights that the rights word has too
abbrev pub copy : State → Call → SlotName → SlotName → ℕ → Result State KError
copy s call destination_name source_name rights_word = do
  destination ← destination_slot s.slots call.capability destination_name
  source ← source_slot s.slots call.root source_name
  _ ← check (may_be_copied (capability_at s.slots source)) IllegalOperation
  _ ← may_have_child s.slots source
  Ok (with_slots s (inserted s.slots destination (copied (capability_at s.slots source) rights_word) (Some source)))

-- the same with a badge or a guard word
abbrev pub mint : State → Call → SlotName → SlotName → ℕ → ℕ → Result State KError
mint s call destination_name source_name rights_word payload = do
  destination ← destination_slot s.slots call.capability destination_name
  source ← source_slot s.slots call.root source_name
  _ ← check (may_be_copied (capability_at s.slots source)) IllegalOperation
  _ ← check (not (is_badged (capability_at s.slots source))) IllegalOperation
  _ ← check (badge_fits (capability_at s.slots source) payload) RangeError
  _ ← check (guard_fits (capability_at s.slots source) payload) IllegalOperation
  _ ← may_have_child s.slots source
  let capability = with_payload (copied (capability_at s.slots source) rights_word) payload in
      Ok (with_slots s (inserted s.slots destination capability (Some source)))

-- parent, children and mapping go along
abbrev pub move : State → Call → SlotName → SlotName → Result State KError
move s call destination_name source_name = do
  destination ← destination_slot s.slots call.capability destination_name
  source ← source_slot s.slots call.root source_name
  Ok (with_slots s (relocated s.slots source destination))

-- the same with another guard word, where a CNode's capability is moved
abbrev pub mutate : State → Call → SlotName → SlotName → ℕ → Result State KError
mutate s call destination_name source_name payload = do
  destination ← destination_slot s.slots call.capability destination_name
  source ← source_slot s.slots call.root source_name
  _ ← check (not (carries_messages (capability_at s.slots source))) IllegalOperation
  _ ← check (guard_fits (capability_at s.slots source) payload) IllegalOperation
  let moved = relocated s.slots source destination in
      Ok (with_slots s (recapped moved destination (with_payload (capability_at s.slots source) payload)))

abbrev pub on_cnode : State → Call → CNodeCall → Result State KError
on_cnode s call (Copy destination source rights_word) = copy s call destination source rights_word
on_cnode s call (Mint destination source rights_word payload) = mint s call destination source rights_word payload
on_cnode s call (Move destination source) = move s call destination source
on_cnode s call (Mutate destination source payload) = mutate s call destination source payload
on_cnode s call (Delete name) = argument_slot s.slots call.capability name >>= λ slot. delete s slot
on_cnode s call (Revoke name) = argument_slot s.slots call.capability name >>= λ slot. revoke s slot
