-- How the state and the bytes of memory are kept beside one another.
use Rattle.std.specs.Prelude.{ℕ, ◌≡◌, ◌+◌, ◌-◌, ◌/◌, ◌^◌, ◌<◌, ◌≤◌, ◌⊎◌, Bool, true, false, IsSome, if◌then◌else◌, Option, Some, None, option_map, List, length}
use Rattle.std.specs.Prelude.{slice_index}
use Rattle.model.specs.Capabilities.Slots.{IsOpen, is_within}
use Rattle.model.specs.Kernel.AddressSpaces.{page_size}
use Rattle.model.specs.Kernel.Kinds.{kind_at, kind_of}
use Rattle.model.specs.Kernel.Retype.{NewObject, NewUntyped, NewThread, NewEndpoint, NewNotification, NewCNode, NewFrame, NewPageTable, NewRootTable}
use Rattle.model.specs.Kernel.Retype.{object_bits}
use Rattle.model.specs.Kernel.State.{State, Object}

-- whether the kernel keeps a record of such an object, which may lie in the object's own bytes
abbrev pub has_record : NewObject → Bool
has_record NewThread = true
has_record NewEndpoint = true
has_record NewNotification = true
has_record (NewUntyped bits) = false
has_record (NewCNode radix) = false
has_record NewFrame = false
has_record NewPageTable = false
has_record NewRootTable = false

-- whether such an object is slots and nothing else
abbrev pub has_slots : NewObject → Bool
has_slots (NewCNode radix) = true
has_slots (NewUntyped bits) = false
has_slots NewThread = false
has_slots NewEndpoint = false
has_slots NewNotification = false
has_slots NewFrame = false
has_slots NewPageTable = false
has_slots NewRootTable = false

-- how many bytes of such an object lie before its record: a thread begins with its three slots
abbrev pub slot_bytes : NewObject → ℕ
slot_bytes NewThread = 48
slot_bytes NewEndpoint = 0
slot_bytes NewNotification = 0
slot_bytes (NewUntyped bits) = 0
slot_bytes (NewCNode radix) = 0
slot_bytes NewFrame = 0
slot_bytes NewPageTable = 0
slot_bytes NewRootTable = 0

-- a place where the record of an object that is there may lie
pub record IsInRecord (objects : ℕ → Option Object) (place : ℕ) : Type 0 where
  pub offset : ℕ
  pub kind : NewObject
  pub there : option_map kind_of (objects offset) ≡ Some kind
  pub kept : has_record kind ≡ true
  pub from : offset + slot_bytes kind ≤ place
  pub below : place < offset + 2 ^ object_bits kind

-- the bytes that lie in no record are the same
pub record SameBesideRecords (s : State) (old new : List ℕ) : Type 0 where
  pub size : length new ≡ length old
  pub bytes : (place : ℕ) → (IsInRecord s.objects place → ⊥) → slice_index new place ≡ slice_index old place

-- the bytes that lie in no such object are the same
pub record SameBesideObjects (s : State) (old new : List ℕ) : Type 0 where
  pub size : length new ≡ length old
  pub bytes : (place : ℕ)
      → ((offset : ℕ) (kind : NewObject) → kind_at s offset ≡ Some kind → has_record kind ≡ true → (place < offset) ⊎ (offset + 2 ^ object_bits kind ≤ place))
      → slice_index new place ≡ slice_index old place

-- the bytes that lie neither in such an object nor in a frame are the same
pub record SameElsewhere (s : State) (old new : List ℕ) : Type 0 where
  pub size : length new ≡ length old
  pub bytes : (place : ℕ) → s.bytes place ≡ None
      → ((offset : ℕ) (kind : NewObject) → kind_at s offset ≡ Some kind → has_record kind ≡ true → (place < offset) ⊎ (offset + 2 ^ object_bits kind ≤ place))
      → slice_index new place ≡ slice_index old place

-- The same objects are there as in a state before, and only bytes of their records and of frames changed: this goes on from one call to the next.
pub record SameObjects (s t : State) (old new : List ℕ) : Type 0 where
  pub kinds : (offset : ℕ) → kind_at t offset ≡ kind_at s offset
  pub frames : (place : ℕ) → s.bytes place ≡ None → t.bytes place ≡ None
  pub bytes : SameElsewhere s old new

-- the bytes of frames and of records are the same
pub record SameKept (s : State) (old new : List ℕ) : Type 0 where
  pub size : length new ≡ length old
  pub frames : (place byte : ℕ) → s.bytes place ≡ Some byte → slice_index new place ≡ slice_index old place
  pub records : (place : ℕ) → IsInRecord s.objects place → slice_index new place ≡ slice_index old place

-- all bytes but those of frames are the same
pub record SameBesideFrames (s : State) (old new : List ℕ) : Type 0 where
  pub size : length new ≡ length old
  pub bytes : (place : ℕ) → s.bytes place ≡ None → slice_index new place ≡ slice_index old place

-- a page of bytes that is there
abbrev pub IsFramed : State → ℕ → Type 0
IsFramed s frame = (place : ℕ) → frame ≤ place → place < frame + page_size → IsSome (s.bytes place)

-- so many bytes from a place on are those that were at another, and the others are the same
pub record AreCopied (old new : List ℕ) (source target count : ℕ) : Type 0 where
  pub size : length new ≡ length old
  pub bytes : (place : ℕ) → slice_index new place
      ≡ (if is_within target count place then slice_index old (source + (place - target)) else slice_index old place)

-- the memory is as large as the state says; neither a byte of a frame nor one of a record lies in an open slot, no record in a frame, and none in another
pub record FitsMemory (s : State) (memory : List ℕ) : Type 0 where
  pub size : 2 ^ s.memory_bits ≡ length memory
  pub frames : (place : ℕ) → IsOpen s.slots (place / 16) → s.bytes place ≡ None
  pub records : (place : ℕ) → IsOpen s.slots (place / 16) → IsInRecord s.objects place → ⊥
  pub apart : (place : ℕ) → IsInRecord s.objects place → s.bytes place ≡ None
  pub alone : (place : ℕ) (one two : IsInRecord s.objects place) → one.offset ≡ two.offset

-- nothing is where a new object is to come, and no slot is open there but those that it begins with
pub record IsRoom (s : State) (kind : NewObject) (offset : ℕ) : Type 0 where
  pub slots : (place : ℕ) → offset + slot_bytes kind ≤ place → place < offset + 2 ^ object_bits kind → has_slots kind ≡ false → s.slots (place / 16) ≡ None
  pub frames : (place : ℕ) → offset ≤ place → place < offset + 2 ^ object_bits kind → s.bytes place ≡ None
  pub records : (place : ℕ) → offset ≤ place → place < offset + 2 ^ object_bits kind → IsInRecord s.objects place → ⊥
