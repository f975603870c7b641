-- How objects, slots and the bytes of memory agree, so that objects can begin and end.
use Rattle.std.specs.Prelude.{ℕ, ◌≡◌, ◌+◌, ◌/◌, ◌^◌, ◌<◌, ◌≤◌, ◌⊎◌, true, Some, None, List, length}
use Rattle.model.specs.Capabilities.Slots.{IsOpen}
use Rattle.model.specs.Kernel.AddressSpaces.{page_size}
use Rattle.model.specs.Kernel.Kinds.{kind_at}
use Rattle.model.specs.Kernel.Retype.{NewObject, object_bits}
use Rattle.model.specs.Kernel.State.{State}
use Rattle.objects.specs.Frames.{has_record}
use Rattle.vspace.specs.Kept.{IsNamedTable}
use Rattle.vspace.specs.Tables.{TablesAgree}

pub record Agrees (s : State) (memory : List ℕ) : Type 0 where
  -- the page tables say what capabilities map
  pub tables : TablesAgree s.slots memory
  pub size : 2 ^ s.memory_bits ≡ length memory
  -- no byte of a frame lies in an open slot, or in a table
  pub slots : (place : ℕ) → IsOpen s.slots (place / 16) → s.bytes place ≡ None
  pub frames : (table place : ℕ) → IsNamedTable s.slots table → table ≤ place → place < table + page_size → s.bytes place ≡ None
  -- nor does a record of an object lie in a table
  pub records : (table place offset : ℕ) (kind : NewObject) → IsNamedTable s.slots table → table ≤ place → place < table + page_size
      → kind_at s offset ≡ Some kind → has_record kind ≡ true → (place < offset) ⊎ (offset + 2 ^ object_bits kind ≤ place)
