-- What stays true of a thread of an accepted image: it is where its certificate says, with what that notes, and its
-- instructions since the last wait and its measure together stay within its budget.
use Rattle.std.specs.Prelude.{ℕ, ◌≡◌, ◌*◌, ◌^◌, ◌<◌, ◌≤◌, ◌⊎◌, ◌↔◌, ◌+ℤ◌, ◌≤ℤ◌, pos, true, Option, Some, None, Ok, List, Contains, slice_index}
use Rattle.model.specs.declared.capabilities.Cap.TheVariants.{Frame}
use Rattle.model.specs.declared.capabilities.FrameMapping.{FrameMapping}
use Rattle.model.specs.declared.entries.FrameEntry.{FrameEntry}
use Rattle.model.specs.declared.instructions.Access.TheVariants.{Fetch}
use Rattle.model.specs.declared.instructions.AccessSize.TheVariants.{Word}
use Rattle.model.specs.declared.instructions.Instr.TheVariants.{Ecall}
use Rattle.model.specs.declared.labels.Label.{Label}
use Rattle.model.specs.declared.ranges.Range.{Range}
use Rattle.model.specs.declared.rights.Rights.{Rights}
use Rattle.model.specs.Kernel.AddressSpaces.{Maps, content_of, page_size}
use Rattle.model.specs.Acceptance.CallRules.{AfterCall}
use Rattle.model.specs.Images.Described.{Numbered, original}
use Rattle.model.specs.Images.Image.{Image}
use Rattle.model.specs.Machine.ProgramMemory.{RegisterFile, loaded, read}
use Rattle.model.specs.Acceptance.Measures.{measured, register_numbered}
use Rattle.model.specs.Acceptance.NotedKernel.{noted_after, noted_root, slot_of_key}
use Rattle.model.specs.Acceptance.NotedStates.{NotedSlot, PointState}
use Rattle.model.specs.Images.Places.{offset_of}
use Rattle.model.specs.Acceptance.PointStates.{Known, address_of, call_at, instruction_at, noted}
use Rattle.model.specs.Acceptance.Ranges.{range_of}
use Rattle.model.specs.Capabilities.Rights.{mapping_rights, frame_rights}
use Rattle.model.specs.Acceptance.WellFormed.{executes}
use Rattle.model.specs.Capabilities.Slots.{capability_at, parent_at}
use Rattle.model.specs.Kernel.State.{State, Status, Inactive, Runnable, Blocked, AwaitsReply, AwaitsHandler, ThreadObject, ThreadState, cspace_slot}
use Rattle.model.specs.Kernel.State.{vspace_slot}
use Rattle.model.specs.Kernel.Waits.{open_count}
use Rattle.model.specs.Acceptance.Promises.{KeepsPromise, promise_at}
use Rattle.model.specs.Images.Image.{ImagePromise}
use Rattle.model.specs.Kernel.Messages.{message_sent}
use Rattle.model.specs.Kernel.State.{EndpointObject, EndpointState, Sender}

abbrev pub tcb_of : Image → Numbered → ℕ
tcb_of image t = offset_of image t.thread.header.tcb

abbrev pub root_table_of : Image → Numbered → ℕ
root_table_of image t = offset_of image t.thread.header.root

-- ---- registers, program and mappings

-- each register's value lies in its range
abbrev pub LieWithin : RegisterFile → List Range → Type 0
LieWithin r ranges =
    (k : ℕ) → k < 32 → ((range_of ranges (register_numbered k)).low ≤ read r (register_numbered k))
    × (read r (register_numbered k) ≤ (range_of ranges (register_numbered k)).high)

-- each word of the program lies at its address, in a page that the thread executes
abbrev pub ProgramStands : Image → Numbered → State → Type 0
ProgramStands image t s =
    (point : ℕ) → point < t.thread.header.words
    → loaded (content_of s (tcb_of image t)) Fetch Word (address_of t.thread point) ≡ Ok (slice_index t.thread.words point)

-- the image maps a frame at a page under the thread's root table
pub record ImageMaps (image : Image) (t : Numbered) (page frame : ℕ) (allowed : Rights) : Type 0 where
  pub entry : FrameEntry
  pub listed : Contains image.frames entry
  pub root : entry.root ≡ t.thread.header.root
  pub address : entry.address ≡ page * page_size
  pub object : frame ≡ offset_of image entry.frame
  pub rights : allowed ≡ mapping_rights frame_rights entry.rights

-- a noted frame capability does
pub record NotedMaps (image : Image) (t : Numbered) (slots : List NotedSlot) (page frame : ℕ) (allowed : Rights) : Type 0 where
  pub slot : NotedSlot
  pub held : Rights
  pub noted : Contains slots slot
  pub capability : slot.capability ≡ Frame frame held (Some (record { root = root_table_of image t; page = page; rights = allowed }))

-- the mappings under the thread's root table are the image's and the noted ones
abbrev pub MapsAreNoted : Image → Numbered → State → List NotedSlot → Type 0
MapsAreNoted image t s slots =
    (page frame : ℕ) (allowed : Rights)
    → Maps s.slots (root_table_of image t) page frame allowed
    ↔ (ImageMaps image t page frame allowed ⊎ NotedMaps image t slots page frame allowed)

-- ---- code

-- a frame that the image maps with execute
pub record IsCode (image : Image) (frame : ℕ) : Type 0 where
  pub entry : FrameEntry
  pub listed : Contains image.frames entry
  pub place : frame ≡ offset_of image entry.frame
  pub executes : executes entry ≡ true

-- no slot names a frame of code, so that none can be mapped and written
abbrev pub NamesNoCode : Image → List NotedSlot → Type 0
NamesNoCode image slots =
    (slot : NotedSlot) (frame : ℕ) (held : Rights) (mapping : Option FrameMapping) → Contains slots slot
    → slot.capability ≡ Frame frame held mapping → IsCode image frame → ⊥

-- ---- parents

pub record HasBootParent (s : State) (slot : ℕ) : Type 0 where
  pub parent : ℕ
  pub is : parent_at s.slots slot ≡ Some parent
  pub boot : parent < 2 ^ s.boot_radix

-- ---- at a point

-- the thread is at a point with a state, and all but its measure is as noted there
pub record StandsAt (image : Image) (t : Numbered) (s : State) (own : ThreadState) (point : ℕ) (state : PointState) : Type 0 where
  pub inside : point < t.thread.header.words
  pub known : noted image t point ≡ Known state
  pub pc : own.registers.pc ≡ address_of t.thread point
  pub registers : LieWithin own.registers state.ranges
  pub slots : noted_after image t.thread s.slots ≡ state.slots
  -- what the slots do not say: one without noted parent has its parent in the boot CNode
  pub parents : (slot : NotedSlot) → Contains state.slots slot → slot.parent ≡ None
      → HasBootParent s (slot_of_key image slot.key)
  pub program : ProgramStands image t s
  pub maps : MapsAreNoted image t s state.slots
  pub code : NamesNoCode image state.slots
  -- the thread's own two slots hold what the image gives it
  pub cspace : capability_at s.slots (cspace_slot (tcb_of image t)) ≡ noted_root image t.thread
  pub vspace : capability_at s.slots (vspace_slot (tcb_of image t)) ≡ original image t.thread.header.root

-- the instructions since the last wait and the measure together are within the budget
abbrev pub IsWithinBudget : Image → Numbered → List Label → ThreadState → PointState → Type 0
IsWithinBudget image t labels own state =
    (pos (open_count (tcb_of image t) labels) +ℤ measured state.measure own.registers) ≤ℤ pos t.thread.header.budget

-- the system call at the point is a wait
abbrev pub WaitsThere : Image → Numbered → ℕ → PointState → Type 0
WaitsThere image t point state =
    (instruction_at t.thread point ≡ Some Ecall)
    × ((left : AfterCall) × (call_at image t point state ≡ Some (Ok left)) × (left.is_wait ≡ true))

abbrev pub IsWaiting : Status → Type 0
IsWaiting (Blocked queue) = Unit {0}
IsWaiting AwaitsReply = Unit {0}
IsWaiting Inactive = ⊥
IsWaiting Runnable = ⊥
IsWaiting AwaitsHandler = ⊥

-- A thread that runs is within its budget; one that waits is at its wait, and has run nothing since. No thread is
-- stopped, and none has faulted.
pub data ThreadInvariant (image : Image) (t : Numbered) (s : State) (labels : List Label) : Type 0 where
  runs : (own : ThreadState) (point : ℕ) (state : PointState)
      → s.objects (tcb_of image t) ≡ Some (ThreadObject own) → own.status ≡ Runnable
      → StandsAt image t s own point state → IsWithinBudget image t labels own state
      → ThreadInvariant image t s labels
  waits : (own : ThreadState) (point : ℕ) (state : PointState)
      → s.objects (tcb_of image t) ≡ Some (ThreadObject own) → IsWaiting own.status
      → StandsAt image t s own point state → WaitsThere image t point state → open_count (tcb_of image t) labels ≡ 0
      → ThreadInvariant image t s labels

-- ---- promises

-- a message that waits at an endpoint keeps what is promised there, as it would be delivered now
abbrev pub KeepsPromises : Image → State → Type 0
KeepsPromises image s =
    (endpoint : ℕ) (e : EndpointState) (x : Sender) (p : ImagePromise) → s.objects endpoint ≡ Some (EndpointObject e) → Contains e.senders x
    → promise_at image endpoint ≡ Some p → KeepsPromise p x.badge (message_sent s x x.sent)
