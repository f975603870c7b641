-- The state that an image describes, written outright: what its memory, slots and threads are once it is loaded.
-- seL4 Reference Manual, "System Bootstrapping", for what a loader sets up; the boot slots are this project's own.
use Rattle.std.specs.Prelude.{ℕ, ◌==◌, ◌+◌, ◌*◌, ◌/◌, ◌%◌, ◌^◌, Bool, false, not, ◌||◌, ◌&&◌, nat_lt, Option, Some, None, option_map, option_and_then, List, []}
use Rattle.std.specs.Prelude.{◌∷◌, ◌++◌, map, filter, find, flat_map, fold, replicate, slice_get, slice_set, if◌then◌else◌}
use Rattle.std.specs.Option.{option_map_or}
use Rattle.std.specs.List.{enumerate_from, list_any, range_with_len}
use Rattle.model.specs.declared.capabilities.Cap.{Cap}
use Rattle.model.specs.declared.capabilities.Cap.TheVariants.{Empty, Untyped, Endpoint, Notification, Frame, InterruptControl, InterruptHandler}
use Rattle.model.specs.declared.capabilities.FrameMapping.{FrameMapping}
use Rattle.model.specs.declared.entries.UntypedEntry.{UntypedEntry}
use Rattle.model.specs.declared.entries.CapabilityEntry.{CapabilityEntry}
use Rattle.model.specs.declared.entries.InterruptEntry.{InterruptEntry}
use Rattle.model.specs.declared.entries.FrameEntry.{FrameEntry}
use Rattle.model.specs.declared.slot_entries.Entry.{Entry}
use Rattle.model.specs.Kernel.AddressSpaces.{page_size, region_pages}
use Rattle.model.specs.Capabilities.CapabilityKinds.{is_untyped, with_payload, with_table_mapping}
use Rattle.model.specs.Images.Fills.{described_bytes}
use Rattle.model.specs.Images.Image.{Image, Thread, no_buffer}
use Rattle.model.specs.Images.Places.{control_slot, cnode_slot, frame_copy_slot, handler_slot, interrupt_of, is_handler, notification_copy_slot, object_at}
use Rattle.model.specs.Images.Places.{offset_of, original_slot, source_boot_slot, type_at, watermark_of}
use Rattle.model.specs.Kernel.Removal.{slot_count}
use Rattle.model.specs.Kernel.Retype.{first_capability, object}
use Rattle.model.specs.Capabilities.Rights.{rights, endpoint_rights, frame_rights, mapping_rights}
use Rattle.model.specs.Kernel.Scheduling.{full_slice}
use Rattle.model.specs.Capabilities.Slots.{Slots, empty_entry, is_within}
use Rattle.model.specs.Kernel.State.{State, ThreadState, Object, ThreadObject, Runnable, boot_area_slots, buffer_slot, cspace_slot, line_slot, vspace_slot}
use Rattle.model.specs.Kernel.State.{slot_of}
use Rattle.model.specs.Machine.ProgramMemory.{RegisterFile}

-- a full slot
abbrev pub Holding : Type 0
Holding = ℕ × Entry

abbrev pub holding : ℕ → Cap → Option ℕ → Holding
holding slot capability parent = (slot, record { capability = capability; parent = parent })

-- the items of a list with their numbers, from 0
abbrev pub numbered : {A : Type 0} → List A → List (ℕ × A)
numbered xs = enumerate_from 0 xs

-- a thread with its number in the image
pub record Numbered : Type 0 where
  pub number : ℕ
  pub thread : Thread

abbrev pub numbered_threads : Image → List Numbered
numbered_threads image = map (λ t. record { number = t.0; thread = t.1 }) (numbered image.threads)

-- ---- boot slots

-- untypeds are used up to the end of their last object
abbrev pub untyped_holding : Image → ℕ × UntypedEntry → Holding
untyped_holding image u = holding u.0 (Untyped (u.1).offset (u.1).bits (watermark_of image u.0)) None

-- where a page table is mapped
abbrev pub with_table : Image → ℕ → Cap → Cap
with_table image number capability =
    option_map_or
    (λ t. with_table_mapping capability (Some (record { root = offset_of image t.root; region = t.address / page_size / region_pages })))
    (find (λ t. t.table == number) image.tables) capability

-- the first capability to an object; a page table's is mapped
abbrev pub original : Image → ℕ → Cap
original image number =
    with_table image number (option_map_or (λ kind. first_capability kind (offset_of image number)) (type_at image number) Empty)

-- A pool, untyped memory that a thread is given, is moved from its boot slot to the slot that lists it.
abbrev pub is_listed_pool : Image → ℕ → Bool
is_listed_pool image number =
    is_untyped (original image number) && list_any (λ c. c.source == number) image.capabilities

-- the originals, each below the untyped that its object lies in
abbrev pub original_holding : Image → ℕ → Holding
original_holding image number = holding (original_slot image number) (original image number) (Some (object_at image number).untyped)

abbrev pub originals : Image → List Holding
originals image =
    map (original_holding image) (filter (λ number. not (is_listed_pool image number)) (range_with_len 0 image.header.objects))

abbrev pub handler_holding : Image → ℕ × InterruptEntry → Holding
handler_holding image i = holding (handler_slot image i.0) (InterruptHandler (i.1).line) (Some (control_slot image))

abbrev pub frame_holding : Image → ℕ × FrameEntry → Holding
frame_holding image f =
    let mapping : FrameMapping = record {
      root = offset_of image (f.1).root;
      page = (f.1).address / page_size;
      rights =
          mapping_rights frame_rights (f.1).rights;
    } in
    holding (frame_copy_slot image f.0) (Frame (offset_of image (f.1).frame) frame_rights (Some mapping)) (Some (original_slot image (f.1).frame))

-- what signals an interrupt's notification, with its badge
abbrev pub signalled : Image → InterruptEntry → Cap
signalled image i = Notification (offset_of image i.notification) endpoint_rights i.badge

abbrev pub notification_holding : Image → ℕ × InterruptEntry → Holding
notification_holding image i =
    holding (notification_copy_slot image i.0) (signalled image i.1) (Some (original_slot image (i.1).notification))

-- slot i of the interrupt table binds line i; the table lies after the boot CNode
abbrev pub binding_holding : Image → ℕ × InterruptEntry → Holding
binding_holding image i =
    holding (line_slot image.header.boot_radix (i.1).line) (signalled image i.1) (Some (notification_copy_slot image i.0))

-- ---- the slots of CNodes and threads

-- a capability with listed rights, and with the badge or guard word
abbrev pub limited : Cap → ℕ → ℕ → Cap
limited (Endpoint offset r badge) word payload = Endpoint offset (rights word) payload
limited (Notification offset r badge) word payload = Notification offset (rights word) payload
limited (Frame offset r mapping) word payload = Frame offset (rights word) mapping
limited capability word payload = with_payload capability payload

-- what a source is
abbrev pub source_capability : Image → ℕ → Cap
source_capability image source =
    if is_handler image source
    then option_map_or (λ i. InterruptHandler i.line) (slice_get image.interrupts (interrupt_of image source)) Empty
    else original image source

-- the capability that an entry lists
abbrev pub listed_capability : Image → CapabilityEntry → Cap
listed_capability image c = limited (source_capability image c.source) c.rights c.payload

-- A listed capability is a child of the original; a pool, which is the original, stays a child of its untyped.
abbrev pub listed_parent : Image → CapabilityEntry → ℕ
listed_parent image c =
    if is_untyped (listed_capability image c) then (object_at image c.source).untyped else source_boot_slot image c.source

abbrev pub listed_holding : Image → CapabilityEntry → Holding
listed_holding image c =
    holding (cnode_slot image c.cnode c.index) (listed_capability image c) (Some (listed_parent image c))

-- the capability to a thread's buffer, if it has one: a child of the original
abbrev pub buffer_holdings : Image → Thread → List Holding
buffer_holdings image t =
    if t.header.buffer == no_buffer then []
    else holding (buffer_slot (offset_of image t.header.tcb)) (original image t.header.buffer) (Some (original_slot image t.header.buffer)) ∷ []

-- a thread's own slots: its CNode, with the thread's guard word, its root table, and its buffer
abbrev pub thread_holdings : Image → Thread → List Holding
thread_holdings image t =
    let tcb = offset_of image t.header.tcb in
    holding (cspace_slot tcb) (with_payload (original image t.header.cnode) t.header.guard) (Some (original_slot image t.header.cnode))
    ∷ holding (vspace_slot tcb) (original image t.header.root) (Some (original_slot image t.header.root)) ∷ buffer_holdings image t

-- ---- all slots

unfoldable pub boot_holdings : Image → List Holding
boot_holdings image =
    map (untyped_holding image) (numbered image.untypeds) ++ originals image
    ++ (holding (control_slot image) InterruptControl None ∷ []) ++ map (handler_holding image) (numbered image.interrupts)
    ++ map (frame_holding image) (numbered image.frames) ++ map (notification_holding image) (numbered image.interrupts)
    ++ map (binding_holding image) (numbered image.interrupts)

-- each full slot once
unfoldable pub holdings : Image → List Holding
holdings image =
    boot_holdings image ++ map (listed_holding image) image.capabilities ++ flat_map (thread_holdings image) image.threads

-- the boot CNode's slots, the 64 of the interrupt table, and those of CNodes and threads
abbrev pub is_object_slot : Image → ℕ → ℕ → Bool
is_object_slot image slot number =
    is_within (slot_of (offset_of image number) 0) (slot_count (option_and_then object (type_at image number))) slot

unfoldable pub is_open_slot : Image → ℕ → Bool
is_open_slot image slot =
    nat_lt slot (boot_area_slots image.header.boot_radix) || list_any (is_object_slot image slot) (range_with_len 0 image.header.objects)

-- what a slot holds by a list of full slots
abbrev pub held_in : List Holding → ℕ → Option Entry
held_in full slot = option_map (λ h. h.1) (find (λ h. h.0 == slot) full)

abbrev pub described_slots : Image → Slots
described_slots image slot =
    if is_open_slot image slot then Some (option_map_or (λ held. held) (held_in (holdings image) slot) empty_entry) else None

-- ---- objects and threads

-- the registers that a thread lists; the others are 0
abbrev pub listed_registers : Thread → List ℕ
listed_registers t = fold (λ words r. slice_set words r.register r.value) (replicate 32 0) t.registers

-- where a thread begins
abbrev pub start_of : Thread → ℕ
start_of t = (t.header.base + 4 * t.header.entry) % 2 ^ 32

abbrev pub start_registers : Thread → RegisterFile
start_registers t = record { pc = start_of t; words = listed_registers t }

abbrev pub listed_thread : Thread → ThreadState
listed_thread t = record {
  registers = start_registers t;
  priority = t.header.priority;
  slice = full_slice;
  fault_address = t.header.fault;
  status = Runnable;
  caller = None;
}

-- an object of the image: a thread that it lists is as it lists it, and all else is new
abbrev pub described_object : Image → ℕ → Option Object
described_object image number =
    option_map_or (λ t. Some (ThreadObject (listed_thread t))) (find (λ t. t.header.tcb == number) image.threads)
    (option_and_then object (type_at image number))

-- the object at an offset; untyped memory is none, though it may share its offset with an object
abbrev pub object_there : Image → ℕ → ℕ → Option Object
object_there image offset number = if offset_of image number == offset then described_object image number else None

abbrev pub first_some : {A : Type 0} → List (Option A) → Option A
first_some [] = None
first_some (None ∷ xs) = first_some xs
first_some (Some x ∷ xs) = Some x

abbrev pub described_objects : Image → ℕ → Option Object
described_objects image offset = first_some (map (object_there image offset) (range_with_len 0 image.header.objects))

-- the threads of a priority, in the image's order
abbrev pub ready_at : Image → ℕ → List ℕ
ready_at image priority =
    map (λ t. offset_of image t.header.tcb) (filter (λ t. t.header.priority == priority) image.threads)

-- ---- the whole

unfoldable pub described : Image → State
described image = record {
  memory_bits = image.header.memory_bits;
  boot_radix = image.header.boot_radix;
  slots = described_slots image;
  objects = described_objects image;
  bytes = described_bytes image;
  ready = ready_at image;
  masked = λ line. false;
  pending = λ line. false;
}
