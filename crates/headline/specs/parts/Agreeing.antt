-- When a state of the whole and one of a part alone are the same for the part: its threads, what they take, their slots and memory, its lines, and
-- the ready lists without all others.
use Rattle.std.specs.Prelude.{ℕ, ◌≡◌, ◌+◌, ◌<◌, ◌≤◌, true, Some, Contains, filter}
use Rattle.model.specs.Acceptance.Authority.{Holds, IsOwnSlot, IsUntypedAround}
use Rattle.model.specs.Acceptance.ThreadInvariants.{tcb_of}
use Rattle.model.specs.Images.Described.{Numbered, numbered_threads}
use Rattle.model.specs.Images.Image.{Image}
use Rattle.model.specs.Images.Places.{offset_of}
use Rattle.model.specs.Kernel.AddressSpaces.{page_size}
use Rattle.model.specs.Kernel.Messages.{buffer_of}
use Rattle.model.specs.Kernel.State.{EndpointState, Sender, State, slot_of}
use Rattle.headline.specs.parts.Parts.{Part, is_in, is_line_of, is_thread_in, takes}

-- a thread of the part
pub record IsMemberOf (image : Image) (part : Part) (u : Numbered) : Type 0 where
  pub listed : Contains (numbered_threads image) u
  pub inside : is_in part u.thread ≡ true

-- an object that is the part's: a thread, what a thread takes, or what lies in its untyped memory
pub data IsOfPart (image : Image) (part : Part) (s : State) (offset : ℕ) : Type 0 where
  is_thread : (u : Numbered) → IsMemberOf image part u → offset ≡ tcb_of image u → IsOfPart image part s offset
  is_taken : (u : Numbered) (object : ℕ) → IsMemberOf image part u → takes image u.thread object ≡ true → offset ≡ offset_of image object
      → IsOfPart image part s offset
  is_made : (u : Numbered) → IsMemberOf image part u → Holds image u.thread s (IsUntypedAround offset 1) → IsOfPart image part s offset

-- a byte of a frame that is the part's
pub data IsByteOfPart (image : Image) (part : Part) (s : State) (place : ℕ) : Type 0 where
  is_taken_byte : (u : Numbered) (object : ℕ) → IsMemberOf image part u → takes image u.thread object ≡ true → offset_of image object ≤ place
      → place < offset_of image object + page_size → IsByteOfPart image part s place
  is_made_byte : (u : Numbered) → IsMemberOf image part u → Holds image u.thread s (IsUntypedAround place 1) → IsByteOfPart image part s place

-- a slot of the part: of a CNode of one of its threads, or of its control block
pub data IsSlotOfPart (image : Image) (part : Part) (slot : ℕ) : Type 0 where
  is_own_slot : (u : Numbered) → IsMemberOf image part u → IsOwnSlot image u.thread slot → IsSlotOfPart image part slot
  is_block_slot : (u : Numbered) (index : ℕ) → IsMemberOf image part u → slot ≡ slot_of (tcb_of image u) index → index < 3 → IsSlotOfPart image part slot

pub record AgreeFor (image : Image) (part : Part) (s t : State) : Type 0 where
  pub objects : (offset : ℕ) → IsOfPart image part s offset → s.objects offset ≡ t.objects offset
  pub bytes : (place : ℕ) → IsByteOfPart image part s place → s.bytes place ≡ t.bytes place
  pub slots : (slot : ℕ) → IsSlotOfPart image part slot → s.slots slot ≡ t.slots slot
  pub masked : (line : ℕ) → is_line_of image part line ≡ true → s.masked line ≡ t.masked line
  pub pending : (line : ℕ) → is_line_of image part line ≡ true → s.pending line ≡ t.pending line
  pub ready : (priority : ℕ) → t.ready priority ≡ filter (is_thread_in image part) (s.ready priority)

-- the buffers of the part's threads are the part's
abbrev pub HasBuffers : Image → Part → State → Type 0
HasBuffers image part s =
    (thread source place : ℕ) → is_thread_in image part thread ≡ true → buffer_of s thread ≡ Some source → source ≤ place → place < source + page_size
    → IsByteOfPart image part s place

-- who waits at an endpoint is of the part
pub record WaitInside (image : Image) (part : Part) (e : EndpointState) : Type 0 where
  pub receivers : (thread : ℕ) → Contains e.receivers thread → is_thread_in image part thread ≡ true
  pub senders : (x : Sender) → Contains e.senders x → is_thread_in image part x.thread ≡ true
