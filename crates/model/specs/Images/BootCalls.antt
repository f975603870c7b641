-- The kernel calls that load an image, and the frames that are filled between them, in their order.
-- seL4 Reference Manual, "System Bootstrapping"; the calls and their words are this project's own.
use Rattle.std.specs.Prelude.{ℕ, ◌==◌, ◌-◌, ◌%◌, ◌^◌, Bool, ◌&&◌, is_some, Option, Some, None, List, [], ◌∷◌, ◌++◌, map, flat_map, if◌then◌else◌}
use Rattle.std.specs.List.{list_all, range_with_len}
use Rattle.model.specs.declared.entries.CapabilityEntry.{CapabilityEntry}
use Rattle.model.specs.declared.entries.FrameEntry.{FrameEntry}
use Rattle.model.specs.declared.entries.InterruptEntry.{InterruptEntry}
use Rattle.model.specs.declared.entries.TableEntry.{TableEntry}
use Rattle.model.specs.declared.entries.UntypedEntry.{UntypedEntry}
use Rattle.model.specs.Kernel.AddressSpaces.{page_size}
use Rattle.model.specs.Images.Described.{Numbered, numbered, numbered_threads, start_of}
use Rattle.model.specs.Images.Fills.{Fill, content_fill, frame_at, program_fills, program_pages}
use Rattle.model.specs.Images.Image.{Image, Thread, ImageContent, no_buffer}
use Rattle.model.specs.Kernel.CallForms.{configure_label, copy_label, get_handler_label, map_frame_label, map_table_label, mint_label, move_label, resume_label}
use Rattle.model.specs.Kernel.CallForms.{retype_label, set_buffer_label, set_notification_label, set_priority_label, set_register_label}
use Rattle.model.specs.Images.Places.{control_slot, frame_copy_slot, handler_slot, notification_copy_slot, object_at, original_slot, source_boot_slot, type_at}
use Rattle.model.specs.Acceptance.WellFormed.{is_frame_type, is_root_type, is_untyped_type, source_type}

-- The invoked capability by its address among the boot slots, the label and the words.
pub record LoaderCall : Type 0 where
  pub address : ℕ
  pub label : ℕ
  pub words : List ℕ

-- One operation of the loader. What cannot be done lies outside, by a number.
pub data Operation : Type 0 where
  -- untyped memory of this number is put into its boot slot
  PutsUntyped : ℕ → UntypedEntry → Operation
  -- interrupt control is put into this boot slot
  PutsControl : ℕ → Operation
  Calls : LoaderCall → Operation
  -- frames are filled, if all are there
  Fills : ℕ → Option (List Fill) → Operation

abbrev pub loader_call : ℕ → ℕ → List ℕ → LoaderCall
loader_call address label words = record { address = address; label = label; words = words }

-- the address of the boot CNode itself
abbrev pub boot_cnode : ℕ
boot_cnode = 2 ^ 32 - 1

-- a boot slot as an argument: its number, and all 32 bits
abbrev pub boot_argument : ℕ → List ℕ
boot_argument slot = slot ∷ 32 ∷ []

-- ---- calls, section by section

-- Retype: one object into its boot slot; depth 0 names the boot CNode
abbrev pub object_call : Image → ℕ → LoaderCall
object_call image number =
    let o = object_at image number in
    loader_call o.untyped retype_label (o.kind ∷ o.size ∷ 0 ∷ 0 ∷ original_slot image number ∷ 1 ∷ [])

-- Get: an interrupt's handler
abbrev pub interrupt_call : Image → ℕ × InterruptEntry → LoaderCall
interrupt_call image i = loader_call (control_slot image) get_handler_label ((i.1).line ∷ boot_argument (handler_slot image i.0))

-- the slot that a capability is listed for: an index with as many bits as its CNode takes, and the source
abbrev pub listed_arguments : Image → CapabilityEntry → List ℕ
listed_arguments image c = (c.index ∷ (object_at image c.cnode).size ∷ []) ++ boot_argument (source_boot_slot image c.source)

-- Mint with the listed rights and badge or guard word; untyped memory is moved
abbrev pub capability_call : Image → CapabilityEntry → LoaderCall
capability_call image c =
    if is_untyped_type (source_type image c.source)
    then loader_call (original_slot image c.cnode) move_label (listed_arguments image c)
    else loader_call (original_slot image c.cnode) mint_label (listed_arguments image c ++ c.rights ∷ c.payload ∷ [])

-- Map: a page table
abbrev pub table_call : Image → TableEntry → LoaderCall
table_call image t = loader_call (original_slot image t.table) map_table_label (boot_argument (original_slot image t.root) ++ t.address ∷ [])

-- Copy and Map: a frame, by a copy with all rights
abbrev pub frame_calls : Image → ℕ × FrameEntry → List LoaderCall
frame_calls image f =
    let copy = frame_copy_slot image f.0 in
    loader_call boot_cnode copy_label (boot_argument copy ++ boot_argument (original_slot image (f.1).frame) ++ 3 ∷ [])
    ∷ loader_call copy map_frame_label (boot_argument (original_slot image (f.1).root) ++ (f.1).address ∷ (f.1).rights ∷ []) ∷ []

-- Mint and SetNotification: the notification that an interrupt signals, by a copy with all rights and the badge
abbrev pub signal_calls : Image → ℕ × InterruptEntry → List LoaderCall
signal_calls image i =
    let copy = notification_copy_slot image i.0 in
    loader_call boot_cnode mint_label (boot_argument copy ++ boot_argument (original_slot image (i.1).notification) ++ 11 ∷ (i.1).badge ∷ [])
    ∷ loader_call (handler_slot image i.0) set_notification_label (boot_argument copy) ∷ []

-- SetBuffer, of a thread that has a buffer: from the frame's original
abbrev pub buffer_calls : Image → Thread → List LoaderCall
buffer_calls image t =
    if t.header.buffer == no_buffer then []
    else loader_call (original_slot image t.header.tcb) set_buffer_label (boot_argument (original_slot image t.header.buffer)) ∷ []

-- Configure with the thread's guard word as a sixth word, SetBuffer, SetPriority, SetRegister for the pc and each listed register, Resume
abbrev pub thread_calls : Image → Thread → List LoaderCall
thread_calls image t =
    let tcb = original_slot image t.header.tcb in
    let cspace = boot_argument (original_slot image t.header.cnode) in
    let vspace = boot_argument (original_slot image t.header.root) in
    (loader_call tcb configure_label ((t.header.fault ∷ cspace) ++ vspace ++ t.header.guard ∷ []) ∷ buffer_calls image t)
    ++ (loader_call tcb set_priority_label (t.header.priority ∷ []) ∷ loader_call tcb set_register_label (0 ∷ start_of t ∷ []) ∷ [])
    ++ map (λ r. loader_call tcb set_register_label (r.register ∷ r.value ∷ [])) t.registers ++ loader_call tcb resume_label [] ∷ []

-- ---- fills

abbrev pub content_operation : Image → ImageContent → Operation
content_operation image c =
    Fills c.header.frame (if is_frame_type (type_at image c.header.frame) then Some (content_fill image c ∷ []) else None)

-- a program can be placed where each of its pages is a frame under the thread's root table
abbrev pub has_place : Image → Thread → Bool
has_place image t =
    (t.header.base % page_size == 0) && is_root_type (type_at image t.header.root)
    && list_all (λ address. is_some (frame_at image t.header.root address)) (program_pages t)

abbrev pub program_operation : Image → Numbered → Operation
program_operation image t = Fills t.number (if has_place image t.thread then Some (program_fills image t.thread) else None)

-- ---- the whole

-- the calls before frames are filled, and those after
abbrev pub first_calls : Image → List LoaderCall
first_calls image =
    map (object_call image) (range_with_len 0 image.header.objects) ++ map (interrupt_call image) (numbered image.interrupts)
    ++ map (capability_call image) image.capabilities ++ map (table_call image) image.tables
    ++ flat_map (frame_calls image) (numbered image.frames)

abbrev pub last_calls : Image → List LoaderCall
last_calls image = flat_map (signal_calls image) (numbered image.interrupts) ++ flat_map (thread_calls image) image.threads

unfoldable pub operations : Image → List Operation
operations image =
    map (λ u. PutsUntyped u.0 u.1) (numbered image.untypeds) ++ PutsControl (control_slot image) ∷ map Calls (first_calls image)
    ++ map (content_operation image) image.contents
    ++ map (program_operation image) (numbered_threads image) ++ map Calls (last_calls image)

-- all calls, numbered from 0 in this order
abbrev pub all_calls : Image → List LoaderCall
all_calls image = first_calls image ++ last_calls image
