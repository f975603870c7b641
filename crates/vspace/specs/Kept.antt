-- Which bytes of memory a call on mappings leaves as they are.
use Rattle.std.specs.Prelude.{ℕ, ◌≡◌, ◌+◌, ◌/◌, ◌<◌, ◌≤◌, ◌⊎◌, Some, None, List, length, slice_index}
use Rattle.model.specs.Kernel.AddressSpaces.{page_size}
use Rattle.model.specs.Capabilities.Slots.{Slots, capability_at}
use Rattle.model.specs.declared.capabilities.Cap.{Cap}
use Rattle.model.specs.declared.capabilities.Cap.TheVariants.{PageTable, RootTable}

-- a capability names a table: its own, or the root table that its page table is mapped under
abbrev pub NamesTable : Cap → ℕ → Type 0
NamesTable (RootTable root) table = table ≡ root
NamesTable (PageTable t None) table = table ≡ t
NamesTable (PageTable t (Some m)) table = (table ≡ t) ⊎ (table ≡ m.root)
NamesTable capability table = ⊥

-- some capability names a table
abbrev pub IsNamedTable : Slots → ℕ → Type 0
IsNamedTable slots table = (slot : ℕ) × NamesTable (capability_at slots slot) table

-- a byte is before or after a table
abbrev pub IsBeside : ℕ → ℕ → Type 0
IsBeside place table = (place < table) ⊎ (table + page_size ≤ place)

-- the bytes that are in no open slot and in no table that a capability names are the same
pub record SameBesideTables (slots : Slots) (old new : List ℕ) : Type 0 where
  pub size : length new ≡ length old
  pub bytes : (place : ℕ) → slots (place / 16) ≡ None → ((table : ℕ) → IsNamedTable slots table → IsBeside place table) →
      slice_index new place ≡ slice_index old place
