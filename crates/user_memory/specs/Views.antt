-- Memory under a root table, and what is true of it.
-- seL4 Reference Manual, "Address Spaces and Virtual Memory".
use Rattle.std.specs.Prelude.{ℕ, ◌≡◌, ◌%◌, IsSome, Option, Some, None, Ok, List, length, option_and_then, slice_index}
use Rattle.std.specs.Option.{option_map_or}
use Rattle.kernel_invariant.specs.Agreement.{Agrees}
use Rattle.model.specs.Capabilities.Slots.{Slots, capability_at}
use Rattle.model.specs.Kernel.AddressSpaces.{content_of, place_under, vspace_of}
use Rattle.model.specs.Kernel.Kinds.{frame_around}
use Rattle.model.specs.Kernel.State.{State}
use Rattle.model.specs.Machine.ProgramMemory.{Content, place_at}
use Rattle.model.specs.declared.capabilities.Cap.TheVariants.{Frame, RootTable}
use Rattle.model.specs.declared.capabilities.FrameMapping.{FrameMapping}
use Rattle.model.specs.declared.instructions.Access.{Access}
use Rattle.model.specs.declared.instructions.Access.TheVariants.{Store}
use Rattle.model.specs.declared.rights.Rights.{Rights}
use Rattle.objects.specs.Tables.{Tables, state_of}
use Rattle.vspace.specs.Tables.{AreNear, Holds}

-- memory under a root table; without one no address has a place
abbrev pub content_under : State → Option ℕ → Content
content_under s root = record {
  place = λ access address. option_and_then (λ table. place_under s table access address) root;
  byte = λ place. option_map_or (λ byte. byte) (s.bytes place) 0;
}

-- where a place is known that an address may have for an access, it has that one
abbrev pub IsFound : Content → Access → ℕ → Option ℕ → Type 0
IsFound content access address found = (place : ℕ) → found ≡ Some place → Ok place ≡ place_at content access address

-- the same under a thread's root table
pub record IsOwnPlace (s : State) (thread : ℕ) (own : Option ℕ) (access : Access) (address : ℕ) (place : Option ℕ) : Type 0 where
  pub root : own ≡ vspace_of s thread
  pub found : IsFound (content_of s thread) access address place

-- a program may store a word at a multiple of 4, which has this place
pub record IsWordAt (content : Content) (address place : ℕ) : Type 0 where
  pub aligned : address % 4 ≡ 0
  pub named : place_at content Store address ≡ Ok place

-- the root table has a capability, the tables say what capabilities map, and frames that are mapped have bytes
pub record IsUsable (s : State) (memory : List ℕ) (root : Option ℕ) : Type 0 where
  pub agrees : Agrees s memory
  pub near : AreNear s s.slots
  pub rooted : (table : ℕ) → root ≡ Some table → Holds s.slots (RootTable table)
  pub framed : (slot frame place : ℕ) (r : Rights) (m : Option FrameMapping) → capability_at s.slots slot ≡ Frame frame r m → frame_around place ≡ frame
      → IsSome (s.bytes place)

-- what no store of a program changes: all but the bytes of frames, and which store it is
pub record Beside : Type 0 where
  pub objects : Tables
  pub slots : Slots
  pub root : Option ℕ
  pub bytes : ℕ → Option ℕ
  pub size : ℕ
  pub store : ℕ

-- of memory in frames no byte shows
abbrev pub beside_of : Tables → Slots → List ℕ → Option ℕ → ℕ → Beside
beside_of o slots memory root store = record {
  objects = o;
  slots = slots;
  root = root;
  bytes = λ place. option_map_or (λ _. None) ((state_of o slots memory).bytes place) (Some (slice_index memory place));
  size = length memory;
  store = store;
}
