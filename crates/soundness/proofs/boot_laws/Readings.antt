-- What single slots and objects of a state between two operations of the loader hold, and what one entry more of a section makes of it.
use Rattle.std.specs.Prelude.{ℕ, suc, ◌≡◌, ◌==◌, ◌/◌, ◌<◌, ◌≤◌, true, false, if◌then◌else◌, Option, Some, None, slice_get}
use Rattle.model.specs.declared.capabilities.Cap.{Cap}
use Rattle.model.specs.declared.capabilities.Cap.TheVariants.{Frame, InterruptControl, InterruptHandler}
use Rattle.model.specs.declared.capabilities.FrameMapping.{FrameMapping}
use Rattle.model.specs.declared.entries.CapabilityEntry.{CapabilityEntry}
use Rattle.model.specs.declared.entries.FrameEntry.{FrameEntry}
use Rattle.model.specs.declared.entries.InterruptEntry.{InterruptEntry}
use Rattle.model.specs.declared.entries.TableEntry.{TableEntry}
use Rattle.model.specs.declared.slot_entries.Entry.{Entry}
use Rattle.soundness.specs.boot_laws.Loading.{Progress, is_moved, loaded, object_so_far, original_so_far, untyped_so_far}
use Rattle.model.specs.Acceptance.WellFormed.{is_untyped_type, source_type}
use Rattle.model.specs.Capabilities.CapabilityKinds.{with_payload, with_table_mapping}
use Rattle.model.specs.Capabilities.Rights.{frame_rights, mapping_rights}
use Rattle.model.specs.Capabilities.Slots.{Slots, empty_entry, inserted, recapped, relocated}
use Rattle.model.specs.Images.Described.{listed_capability, original, signalled}
use Rattle.model.specs.Images.Image.{Image, Thread, no_buffer}
use Rattle.model.specs.Images.Places.{cnode_slot, control_slot, frame_copy_slot, handler_slot, notification_copy_slot, object_at, offset_of, original_slot}
use Rattle.model.specs.Images.Places.{source_boot_slot, type_at, untyped_at}
use Rattle.model.specs.Kernel.AddressSpaces.{page_size, region_pages}
use Rattle.model.specs.Kernel.State.{buffer_slot, cspace_slot, line_slot, vspace_slot}

-- Of no section more is loaded than the image has.
pub record IsWithin (image : Image) (p : Progress) : Type 0 where
  pub objects : p.objects ≤ image.header.objects
  pub handlers : p.handlers ≤ image.header.interrupts
  pub capabilities : p.capabilities ≤ image.header.capabilities
  pub tables : p.tables ≤ image.header.tables
  pub frames : p.frames ≤ image.header.frames
  pub signals : p.signals ≤ image.header.interrupts
  pub threads : p.threads ≤ image.header.threads

abbrev pub entry : Cap → Option ℕ → Entry
entry capability parent = record { capability = capability; parent = parent }

abbrev pub Reads : Image → Progress → ℕ → Entry → Type 0
Reads image p slot held = (loaded image p).slots slot ≡ Some held

abbrev pub mapping_of : Image → FrameEntry → FrameMapping
mapping_of image f = record { root = offset_of image f.root; page = f.address / page_size; rights = mapping_rights frame_rights f.rights }

-- ---- what boot slots hold

pub record ReadsBoot (image : Image) (p : Progress) : Type 0 where
  pub untyped : (number : ℕ) → number < image.header.untypeds
      → Reads image p number (untyped_so_far image p (number, untyped_at image number)).1
  pub original : (number : ℕ) → number < p.objects → is_moved image p number ≡ false
      → Reads image p (original_slot image number) (entry (original_so_far image p number) (Some (object_at image number).untyped))
  pub control : Reads image p (control_slot image) (entry InterruptControl None)
  pub handler : (k : ℕ) (i : InterruptEntry) → k < p.handlers → slice_get image.interrupts k ≡ Some i
      → Reads image p (handler_slot image k) (entry (InterruptHandler i.line) (Some (control_slot image)))
  pub frame : (k : ℕ) (f : FrameEntry) → k < p.frames → slice_get image.frames k ≡ Some f
      → Reads image p (frame_copy_slot image k)
      (entry (Frame (offset_of image f.frame) frame_rights (Some (mapping_of image f))) (Some (original_slot image f.frame)))
  pub notification : (k : ℕ) (i : InterruptEntry) → k < p.signals → slice_get image.interrupts k ≡ Some i
      → Reads image p (notification_copy_slot image k) (entry (signalled image i) (Some (original_slot image i.notification)))
  pub binding : (k : ℕ) (i : InterruptEntry) → k < p.signals → slice_get image.interrupts k ≡ Some i
      → Reads image p (line_slot image.header.boot_radix i.line) (entry (signalled image i) (Some (notification_copy_slot image k)))

-- ---- what is empty because it is still to come, or went

pub record ReadsEmpty (image : Image) (p : Progress) : Type 0 where
  pub original : (number : ℕ) → p.objects ≤ number → number < image.header.objects → Reads image p (original_slot image number) empty_entry
  pub moved : (number : ℕ) → number < image.header.objects → is_moved image p number ≡ true → Reads image p (original_slot image number) empty_entry
  pub handler : (k : ℕ) → p.handlers ≤ k → k < image.header.interrupts → Reads image p (handler_slot image k) empty_entry
  pub frame : (k : ℕ) → p.frames ≤ k → k < image.header.frames → Reads image p (frame_copy_slot image k) empty_entry
  pub notification : (k : ℕ) → p.signals ≤ k → k < image.header.interrupts → Reads image p (notification_copy_slot image k) empty_entry
  pub binding : (k : ℕ) (i : InterruptEntry) → p.signals ≤ k → slice_get image.interrupts k ≡ Some i
      → Reads image p (line_slot image.header.boot_radix i.line) empty_entry

-- slots of CNodes and threads, where all objects are there
pub record ReadsRoom (image : Image) (p : Progress) : Type 0 where
  pub listed : (k : ℕ) (c : CapabilityEntry) → p.capabilities ≤ k → slice_get image.capabilities k ≡ Some c
      → Reads image p (cnode_slot image c.cnode c.index) empty_entry
  pub cspace : (k : ℕ) (t : Thread) → p.threads ≤ k → slice_get image.threads k ≡ Some t
      → Reads image p (cspace_slot (offset_of image t.header.tcb)) empty_entry
  pub vspace : (k : ℕ) (t : Thread) → p.threads ≤ k → slice_get image.threads k ≡ Some t
      → Reads image p (vspace_slot (offset_of image t.header.tcb)) empty_entry
  pub buffer : (k : ℕ) (t : Thread) → p.threads ≤ k → slice_get image.threads k ≡ Some t
      → Reads image p (buffer_slot (offset_of image t.header.tcb)) empty_entry

-- ---- objects

pub record ReadsObjects (image : Image) (p : Progress) : Type 0 where
  pub there : (number : ℕ) → number < p.objects → is_untyped_type (type_at image number) ≡ false
      → (loaded image p).objects (offset_of image number) ≡ object_so_far image p number

-- ---- one more

abbrev pub slots_of_loaded : Image → Progress → Slots
slots_of_loaded image p = (loaded image p).slots

abbrev pub one_handler : Progress → Progress
one_handler p = record p { handlers = suc p.handlers }

abbrev pub one_frame : Progress → Progress
one_frame p = record p { frames = suc p.frames }

abbrev pub one_signal : Progress → Progress
one_signal p = record p { signals = suc p.signals }

abbrev pub one_capability : Progress → Progress
one_capability p = record p { capabilities = suc p.capabilities }

abbrev pub one_table : Progress → Progress
one_table p = record p { tables = suc p.tables }

abbrev pub one_thread : Progress → Progress
one_thread p = record p { threads = suc p.threads }

pub record AddsBoot (image : Image) (p : Progress) : Type 0 where
  pub handler : (i : InterruptEntry) → slice_get image.interrupts p.handlers ≡ Some i
      → slots_of_loaded image (one_handler p)
      ≡ inserted (slots_of_loaded image p) (handler_slot image p.handlers) (InterruptHandler i.line) (Some (control_slot image))
  pub frame : (f : FrameEntry) → slice_get image.frames p.frames ≡ Some f
      → slots_of_loaded image (one_frame p)
      ≡ inserted (slots_of_loaded image p) (frame_copy_slot image p.frames)
      (Frame (offset_of image f.frame) frame_rights (Some (mapping_of image f))) (Some (original_slot image f.frame))
  pub signal : (i : InterruptEntry) → slice_get image.interrupts p.signals ≡ Some i
      → slots_of_loaded image (one_signal p)
      ≡ inserted
      (inserted (slots_of_loaded image p) (notification_copy_slot image p.signals) (signalled image i) (Some (original_slot image i.notification)))
      (line_slot image.header.boot_radix i.line) (signalled image i) (Some (notification_copy_slot image p.signals))

-- the slots of a thread are filled: those for its spaces, and the one for its buffer, if it has one
abbrev pub with_spaces : Image → Thread → Slots → Slots
with_spaces image t slots =
    inserted
    (inserted slots (cspace_slot (offset_of image t.header.tcb)) (with_payload (original image t.header.cnode) t.header.guard)
    (Some (original_slot image t.header.cnode)))
    (vspace_slot (offset_of image t.header.tcb)) (original image t.header.root) (Some (original_slot image t.header.root))

abbrev pub with_buffer : Image → Thread → Slots → Slots
with_buffer image t slots =
    if t.header.buffer == no_buffer then slots
    else inserted slots (buffer_slot (offset_of image t.header.tcb)) (original image t.header.buffer) (Some (original_slot image t.header.buffer))

-- where all objects are there
pub record AddsRoom (image : Image) (p : Progress) : Type 0 where
  -- a capability that is minted
  pub listed : (c : CapabilityEntry) → slice_get image.capabilities p.capabilities ≡ Some c → is_untyped_type (source_type image c.source) ≡ false
      → slots_of_loaded image (one_capability p)
      ≡ inserted (slots_of_loaded image p) (cnode_slot image c.cnode c.index) (listed_capability image c) (Some (source_boot_slot image c.source))
  -- a pool is moved
  pub pool : (c : CapabilityEntry) → slice_get image.capabilities p.capabilities ≡ Some c → is_untyped_type (source_type image c.source) ≡ true
      → slots_of_loaded image (one_capability p) ≡ relocated (slots_of_loaded image p) (original_slot image c.source) (cnode_slot image c.cnode c.index)
  pub table : (t : TableEntry) → slice_get image.tables p.tables ≡ Some t
      → slots_of_loaded image (one_table p)
      ≡ recapped (slots_of_loaded image p) (original_slot image t.table)
      (with_table_mapping (original_so_far image p t.table) (Some (record { root = offset_of image t.root; region = t.address / page_size / region_pages })))
  pub thread : (t : Thread) → slice_get image.threads p.threads ≡ Some t
      → slots_of_loaded image (one_thread p) ≡ with_buffer image t (with_spaces image t (slots_of_loaded image p))
