-- When a state of the whole and one of a part alone are the same for the part: its threads, what they take, what their pools hold, their slots, its
-- lines, and the ready lists without all others. What is of the part the image tells alone.
use Rattle.std.specs.Prelude.{ℕ, ◌≡◌, ◌+◌, ◌<◌, ◌≤◌, true, Some, filter}
use Rattle.model.specs.Acceptance.ThreadInvariants.{tcb_of}
use Rattle.model.specs.Acceptance.WellFormed.{is_frame_type}
use Rattle.model.specs.Images.Described.{Numbered}
use Rattle.model.specs.Images.Image.{Image}
use Rattle.model.specs.Images.Places.{offset_of, type_at}
use Rattle.model.specs.Kernel.AddressSpaces.{page_size}
use Rattle.model.specs.Kernel.Messages.{buffer_of}
use Rattle.model.specs.Kernel.State.{State}
use Rattle.headline.specs.parts.Agreeing.{IsMemberOf, IsSlotOfPart}
use Rattle.headline.specs.parts.Given.{IsPoolAround}
use Rattle.headline.specs.parts.Parts.{Part, is_line_of, is_thread_in, takes}

-- an object of the image that a thread of the part takes; the number for no buffer is that of no object
pub record IsTaken (image : Image) (part : Part) (object : ℕ) : Type 0 where
  pub thread : Numbered
  pub member : IsMemberOf image part thread
  pub inside : object < image.header.objects
  pub takes : takes image thread.thread object ≡ true

-- an offset that is the part's: of a thread, of what a thread takes, or in a pool of one
pub data IsOfPart (image : Image) (part : Part) (offset : ℕ) : Type 0 where
  is_thread : (u : Numbered) → IsMemberOf image part u → offset ≡ tcb_of image u → IsOfPart image part offset
  is_taken : (object : ℕ) → IsTaken image part object → offset ≡ offset_of image object → IsOfPart image part offset
  is_pool : (u : Numbered) → IsMemberOf image part u → IsPoolAround image u.thread offset 1 → IsOfPart image part offset

-- a byte that is the part's: of a frame that it takes, or in a pool
pub data IsByteOfPart (image : Image) (part : Part) (place : ℕ) : Type 0 where
  is_frame_byte : (object : ℕ) → IsTaken image part object → is_frame_type (type_at image object) ≡ true → offset_of image object ≤ place
      → place < offset_of image object + page_size → IsByteOfPart image part place
  is_pool_byte : (u : Numbered) → IsMemberOf image part u → IsPoolAround image u.thread place 1 → IsByteOfPart image part place

pub record AgreeFor (image : Image) (part : Part) (s t : State) : Type 0 where
  pub objects : (offset : ℕ) → IsOfPart image part offset → s.objects offset ≡ t.objects offset
  pub bytes : (place : ℕ) → IsByteOfPart image part place → s.bytes place ≡ t.bytes place
  pub slots : (slot : ℕ) → IsSlotOfPart image part slot → s.slots slot ≡ t.slots slot
  pub masked : (line : ℕ) → is_line_of image part line ≡ true → s.masked line ≡ t.masked line
  pub pending : (line : ℕ) → is_line_of image part line ≡ true → s.pending line ≡ t.pending line
  pub ready : (priority : ℕ) → t.ready priority ≡ filter (is_thread_in image part) (s.ready priority)

-- the buffers of the part's threads are the part's
abbrev pub HasBuffers : Image → Part → State → Type 0
HasBuffers image part s =
    (thread source place : ℕ) → is_thread_in image part thread ≡ true → buffer_of s thread ≡ Some source → source ≤ place → place < source + page_size
    → IsByteOfPart image part place
