-- The noted slots of a point as slots of the kernel, and back: the described state with the slots of the thread's CNodes
-- replaced by the noted ones.
use Rattle.std.specs.Prelude.{ℕ, ◌==◌, ◌-◌, ◌^◌, Bool, not, ◌&&◌, Option, Some, None, option_map, option_and_then, List, map, filter, filter_map, find}
use Rattle.std.specs.Prelude.{flat_map, if◌then◌else◌}
use Rattle.std.specs.Option.{option_map_or}
use Rattle.std.specs.List.{range_with_len}
use Rattle.model.specs.declared.capabilities.Cap.{Cap}
use Rattle.model.specs.declared.capabilities.Cap.TheVariants.{Untyped, InterruptHandler}
use Rattle.model.specs.declared.slot_entries.Entry.{Entry}
use Rattle.model.specs.Capabilities.CapabilityKinds.{object_of, with_payload}
use Rattle.model.specs.Images.Described.{described, numbered, original}
use Rattle.model.specs.Images.Image.{Image, Thread}
use Rattle.model.specs.Acceptance.NotedStates.{NotedSlot, SlotKey, slot_at}
use Rattle.model.specs.Images.Places.{cnode_slot, handler_slot, object_at, offset_of, original_slot, type_at}
use Rattle.model.specs.Capabilities.Slots.{Slots, capability_at, empty_entry, is_full, is_within, parent_at}
use Rattle.model.specs.Kernel.State.{State}
use Rattle.model.specs.Acceptance.ThreadRules.{is_member, reached}
use Rattle.model.specs.Acceptance.WellFormed.{is_untyped_type, radix_of}

-- ---- slots of the thread's CNodes, by their numbers

abbrev pub slots_of_cnode : Image → ℕ → ℕ
slots_of_cnode image cnode = option_map_or (λ radix. 2 ^ radix) (radix_of (type_at image cnode)) 0

abbrev pub stands_in : Image → ℕ → ℕ → Bool
stands_in image slot cnode = is_within (cnode_slot image cnode 0) (slots_of_cnode image cnode) slot

-- the CNode and the index of a slot, if it is in one of these CNodes
abbrev pub key_of : Image → List ℕ → ℕ → Option SlotKey
key_of image cnodes slot =
    option_map (λ cnode. record { cnode = cnode; index = slot - cnode_slot image cnode 0 }) (find (stands_in image slot) cnodes)

abbrev pub slot_of_key : Image → SlotKey → ℕ
slot_of_key image key = cnode_slot image key.cnode key.index

-- ---- boot slots as parents

-- whether an object other than untyped memory lies at an offset
abbrev pub is_object_at : Image → ℕ → ℕ → Bool
is_object_at image offset number = not (is_untyped_type (type_at image number)) && offset_of image number == offset

abbrev pub untyped_there : Image → ℕ → ℕ → Bool
untyped_there image offset number = is_untyped_type (type_at image number) && offset_of image number == offset

abbrev pub object_numbers : Image → List ℕ
object_numbers image = range_with_len 0 image.header.objects

-- the slot of a thread's first capability
abbrev pub thread_original : Image → Thread → ℕ
thread_original image t = original_slot image t.header.tcb

abbrev pub object_parent : Image → Thread → Option ℕ → ℕ
object_parent image t offset =
    option_map_or (original_slot image)
    (option_and_then (λ place. find (is_object_at image place) (object_numbers image)) offset) (thread_original image t)

-- The boot slot that a noted capability hangs below which has no parent among the thread's slots. To the kernel's checks only its
-- depth matters: 0 for the untyped memory in which a pool was made, and 1 for all others. For a handler and for an object of the
-- image it is the first capability to it, for what was made in a pool the thread's own.
abbrev pub boot_parent : Image → Thread → Cap → ℕ
boot_parent image t (Untyped offset bits watermark) =
    option_map_or (λ number. (object_at image number).untyped) (find (untyped_there image offset) (object_numbers image)) 0
boot_parent image t (InterruptHandler irq_line) =
    option_map_or (λ i. handler_slot image i.0) (find (λ i. (i.1).line == irq_line) (numbered image.interrupts)) (thread_original image t)
boot_parent image t capability = object_parent image t (object_of capability)

-- ---- the noted slots as the kernel's

abbrev pub kernel_entry : Image → Thread → NotedSlot → Entry
kernel_entry image t s = record {
  capability = s.capability;
  parent = Some (option_map_or (slot_of_key image) s.parent (boot_parent image t s.capability));
}

abbrev pub noted_entry : Image → Thread → List NotedSlot → SlotKey → Entry
noted_entry image t slots key = option_map_or (kernel_entry image t) (slot_at slots key) empty_entry

abbrev pub noted_slots : Image → Thread → List NotedSlot → Slots
noted_slots image t slots slot =
    option_map_or (λ key. Some (noted_entry image t slots key)) (key_of image (reached image t) slot) ((described image).slots slot)

unfoldable pub noted_kernel : Image → Thread → List NotedSlot → State
noted_kernel image t slots = record (described image) { slots = noted_slots image t slots }

-- the root of the thread's capability space
abbrev pub noted_root : Image → Thread → Cap
noted_root image t = with_payload (original image t.header.cnode) t.header.guard

-- ---- and back

-- a parent outside the thread's CNodes is a boot slot
abbrev pub noted_of : Image → List ℕ → Slots → SlotKey → Option NotedSlot
noted_of image cnodes slots key =
    let slot = slot_of_key image key in
    if is_full slots slot
    then Some (record { key = key; capability = capability_at slots slot; parent = option_and_then (key_of image cnodes) (parent_at slots slot) })
    else None

abbrev pub keys_of_cnode : Image → ℕ → List SlotKey
keys_of_cnode image cnode = map (λ index. record { cnode = cnode; index = index }) (range_with_len 0 (slots_of_cnode image cnode))

-- the slots of the thread's CNodes, their keys rising
abbrev pub keys_of : Image → List ℕ → List SlotKey
keys_of image cnodes = flat_map (keys_of_cnode image) (filter (λ number. is_member number cnodes) (object_numbers image))

unfoldable pub noted_after : Image → Thread → Slots → List NotedSlot
noted_after image t slots = let cnodes = reached image t in filter_map (noted_of image cnodes slots) (keys_of image cnodes)
