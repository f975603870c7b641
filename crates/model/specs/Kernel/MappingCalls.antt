-- Calls on frames and page tables.
-- seL4 Reference Manual, "Address Spaces and Virtual Memory"; ours maps a capability once, and no table by itself.
use Rattle.std.specs.Prelude.{ℕ, ◌==◌, ◌/◌, ◌%◌, ◌&&◌, ◌||◌, Bool, true, false, not, nat_lt, if◌then◌else◌, Option, Some, option_map, Result, Ok}
use Rattle.std.specs.Option.{option_map_or}
use Rattle.model.specs.declared.capabilities.Cap.{Cap}
use Rattle.model.specs.declared.capabilities.FrameMapping.{FrameMapping}
use Rattle.model.specs.declared.capabilities.TableMapping.{TableMapping}
use Rattle.model.specs.declared.errors.KError.{KError}
use Rattle.model.specs.declared.errors.KError.TheVariants.{AlignmentError, DeleteFirst, FailedLookup, InvalidArgument, InvalidCapability}
use Rattle.model.specs.declared.invocations.FrameCall.{FrameCall}
use Rattle.model.specs.declared.invocations.FrameCall.TheVariants.{MapFrame, UnmapFrame}
use Rattle.model.specs.declared.invocations.SlotName.{SlotName}
use Rattle.model.specs.declared.invocations.TableCall.{TableCall}
use Rattle.model.specs.declared.invocations.TableCall.TheVariants.{MapTable, UnmapTable}
use Rattle.model.specs.declared.rights.Rights.{Rights}
use Rattle.model.specs.declared.slot_entries.Entry.{Entry}
use Rattle.model.specs.Capabilities.CapabilityKinds.{frame_mapping, root_of, table_mapping, unmapped, with_frame_mapping, with_table_mapping}
use Rattle.model.specs.Capabilities.Rights.{mapping_rights, may_execute, may_read}
use Rattle.model.specs.Capabilities.Slots.{Slots, capability_at, recapped}
use Rattle.model.specs.Kernel.AddressSpaces.{address_limit, is_page_taken, is_region_taken, page_size, region_pages, region_size}
use Rattle.model.specs.Kernel.Arguments.{◌>>=◌, Call, check, source_slot, wanted}
use Rattle.model.specs.Kernel.State.{State, with_slots}

abbrev pub is_mapped : {A : Type 0} → Option A → Bool
is_mapped mapping = option_map_or (λ _. true) mapping false

-- the root table whose capability is in the slot of this name
abbrev pub root_named : Slots → Cap → SlotName → Result ℕ KError
root_named slots root name = do
  slot ← source_slot slots root name
  wanted (root_of (capability_at slots slot)) InvalidCapability

-- a mapping has those rights of the rights word that the frame's capability allows
abbrev pub map_frame : State → Call → Rights → SlotName → ℕ → ℕ → Result State KError
map_frame s call held root_name address rights_word =
    let allowed = mapping_rights held rights_word in
    do
      _ ← check (not (is_mapped (frame_mapping call.capability))) InvalidCapability
      root ← root_named s.slots call.root root_name
      _ ← check (nat_lt address address_limit) InvalidArgument
      _ ← check (address % page_size == 0) AlignmentError
      _ ← check (is_region_taken s root (address / page_size / region_pages)) FailedLookup
      _ ← check (not (is_page_taken s root (address / page_size))) DeleteFirst
      _ ← check (may_read allowed || may_execute allowed) InvalidArgument
      let mapping : FrameMapping = record { root = root; page = address / page_size; rights = allowed } in
          Ok (with_slots s (recapped s.slots call.slot (with_frame_mapping call.capability (Some mapping))))

abbrev pub unmap_frame : State → Call → State
unmap_frame s call = with_slots s (recapped s.slots call.slot (unmapped call.capability))

abbrev pub map_table : State → Call → SlotName → ℕ → Result State KError
map_table s call root_name address =
    do
      _ ← check (not (is_mapped (table_mapping call.capability))) InvalidCapability
      root ← root_named s.slots call.root root_name
      _ ← check (nat_lt address address_limit) InvalidArgument
      _ ← check (address % region_size == 0) AlignmentError
      _ ← check (not (is_region_taken s root (address / region_size))) DeleteFirst
      let mapping : TableMapping = record { root = root; region = address / region_size } in
          Ok (with_slots s (recapped s.slots call.slot (with_table_mapping call.capability (Some mapping))))

-- a frame that is mapped in the region
abbrev pub is_in_region : TableMapping → FrameMapping → Bool
is_in_region table mapping = mapping.root == table.root && mapping.page / region_pages == table.region

abbrev pub lies_in_region : TableMapping → Cap → Bool
lies_in_region table capability = option_map_or (is_in_region table) (frame_mapping capability) false

-- the frames in the region are unmapped with the table
abbrev pub without_table : TableMapping → Entry → Entry
without_table table held = record held { capability = if lies_in_region table held.capability then unmapped held.capability else held.capability }

abbrev pub without_region : Slots → TableMapping → Slots
without_region slots table slot = option_map (without_table table) (slots slot)

abbrev pub unmap_table : State → Call → State
unmap_table s call =
    option_map_or (λ mapping. with_slots s (without_region (recapped s.slots call.slot (unmapped call.capability)) mapping))
    (table_mapping call.capability) s

abbrev pub on_frame : State → Call → Rights → FrameCall → Result State KError
on_frame s call held (MapFrame root address rights_word) = map_frame s call held root address rights_word
on_frame s call held UnmapFrame = Ok (unmap_frame s call)

abbrev pub on_table : State → Call → TableCall → Result State KError
on_table s call (MapTable root address) = map_table s call root address
on_table s call UnmapTable = Ok (unmap_table s call)
