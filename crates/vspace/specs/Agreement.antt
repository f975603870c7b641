-- Which changes of slots and memory leave the page tables and the mappings in agreement.
use Rattle.std.specs.Prelude.{ℕ, ◌≡◌, ◌≢◌, ◌+◌, ◌*◌, ◌/◌, ◌^◌, ◌<◌, ◌≤◌, ◌⊎◌, ⊤, Option, Some, None, List, length, slice_index}
use Rattle.model.specs.Kernel.AddressSpaces.{page_size}
use Rattle.model.specs.Shared.Bytes.{word_at}
use Rattle.model.specs.Capabilities.CapabilityWords.{IsCapability}
use Rattle.model.specs.Capabilities.Slots.{Slots, capability_at}
use Rattle.model.specs.declared.capabilities.Cap.{Cap}
use Rattle.model.specs.declared.capabilities.Cap.TheVariants.{Frame, PageTable, RootTable}
use Rattle.model.specs.declared.capabilities.TableMapping.{TableMapping}
use Rattle.vspace.specs.Kept.{IsBeside, IsNamedTable}
use Rattle.vspace.specs.Tables.{Holds, IsTable}

-- a table of 4096 bytes is here, and each of its words is 0
pub record IsBlank (slots : Slots) (memory : List ℕ) (table : ℕ) : Type 0 where
  pub stands : IsTable slots memory table
  pub zero : (i : ℕ) → i < 2 ^ 10 → word_at memory (table + 4 * i) ≡ 0

-- a root table that no capability names yet may be here: all its words are 0, and it is no page table
pub record IsNewRoot (slots : Slots) (memory : List ℕ) (root : ℕ) : Type 0 where
  pub blank : IsBlank slots memory root
  pub no_page_table : (slot : ℕ) (m : Option TableMapping) → capability_at slots slot ≢ PageTable root m

-- a page table may be here: all its words are 0, and no capability names it yet, nor maps a page table under it
pub record IsNewPageTable (slots : Slots) (memory : List ℕ) (table : ℕ) : Type 0 where
  pub blank : IsBlank slots memory table
  pub no_page_table : (slot : ℕ) (m : Option TableMapping) → capability_at slots slot ≢ PageTable table m
  pub no_root : (slot : ℕ) → capability_at slots slot ≢ RootTable table
  pub no_mapped_root : (slot other : ℕ) (m : TableMapping) → capability_at slots slot ≡ PageTable other (Some m) → m.root ≢ table

-- a capability may be put in an empty slot: it has no mapping, a page table is new, and a root table is new or a copy
abbrev pub MayBePut : Slots → List ℕ → Cap → Type 0
MayBePut slots memory (Frame frame r (Some m)) = ⊥
MayBePut slots memory (PageTable table (Some m)) = ⊥
MayBePut slots memory (PageTable table None) = IsCapability (PageTable table None) × IsNewPageTable slots memory table
MayBePut slots memory (RootTable root) =
    IsCapability (RootTable root) × (Holds slots (RootTable root) ⊎ IsNewRoot slots memory root)
MayBePut slots memory capability = IsCapability capability

-- a capability is no frame, page table or root table
abbrev pub IsWithoutTables : Cap → Type 0
IsWithoutTables (Frame frame r m) = ⊥
IsWithoutTables (PageTable table m) = ⊥
IsWithoutTables (RootTable root) = ⊥
IsWithoutTables capability = ⊤

-- the bytes of these slots are in no table that a capability names
abbrev pub IsOutsideTables : Slots → ℕ → ℕ → Type 0
IsOutsideTables slots first count =
    (table place : ℕ) → IsNamedTable slots table → first ≤ place / 16 → place / 16 < first + count → IsBeside place table

-- the bytes of each table that a capability names are the same
pub record SameInTables (slots : Slots) (old new : List ℕ) : Type 0 where
  pub size : length new ≡ length old
  pub bytes : (table place : ℕ) → IsNamedTable slots table → table ≤ place → place < table + page_size → slice_index new place ≡ slice_index old place
