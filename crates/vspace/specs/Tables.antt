-- How the page tables in machine memory represent the mappings that capabilities hold.
-- RISC-V Privileged Architecture, "Sv32: Page-Based 32-bit Virtual-Memory Systems".
use Rattle.std.specs.Prelude.{ℕ, ◌≡◌, ◌≢◌, ◌+◌, ◌*◌, ◌/◌, ◌%◌, ◌^◌, ◌<◌, ◌≤◌, ◌⊎◌, Option, Some, None, option_and_then, List, length}
use Rattle.model.specs.Shared.Bytes.{word_at}
use Rattle.model.specs.Capabilities.CapabilityWords.{IsCapability}
use Rattle.model.specs.Capabilities.Slots.{OutsideSlots, Slots, capability_at, IsFull}
use Rattle.model.specs.Kernel.State.{State}
use Rattle.model.specs.Machine.Sv32.{entry_at, leaf_word, page_address, place_of, table_word}
use Rattle.model.specs.declared.capabilities.Cap.{Cap}
use Rattle.model.specs.declared.capabilities.Cap.TheVariants.{Frame, PageTable, RootTable}
use Rattle.model.specs.declared.capabilities.FrameMapping.{FrameMapping}
use Rattle.model.specs.declared.capabilities.TableMapping.{TableMapping}
use Rattle.model.specs.declared.rights.Rights.{Rights}

-- some slot holds a capability
abbrev pub Holds : Slots → Cap → Type 0
Holds slots capability = (slot : ℕ) × (capability_at slots slot ≡ capability)

-- a table of 4096 bytes is here, where no slot is
pub record IsTable (slots : Slots) (memory : List ℕ) (table : ℕ) : Type 0 where
  pub aligned : table % 2 ^ 12 ≡ 0
  pub within : table + 2 ^ 12 ≤ length memory
  pub outside : OutsideSlots slots table (2 ^ 12)

-- the page table that a root table names for a region
unfoldable pub table_in : List ℕ → ℕ → ℕ → Option ℕ
table_in memory root region = option_and_then (λ entry. place_of (page_address entry)) (entry_at memory root region)

-- a capability maps a page table for a region under a root table
pub record MapsTable (slots : Slots) (root region table : ℕ) : Type 0 where
  pub slot : ℕ
  pub held : capability_at slots slot ≡ PageTable table (Some (record { root = root; region = region }))

-- a capability maps a frame at a page under a root table
pub record MapsFrame (slots : Slots) (root page : ℕ) : Type 0 where
  pub slot : ℕ
  pub frame : ℕ
  pub frame_rights : Rights
  pub allowed : Rights
  pub held : capability_at slots slot ≡ Frame frame frame_rights (Some (record { root = root; page = page; rights = allowed }))

-- the tables in memory have the entries of the mappings that capabilities hold, and no other valid ones
pub record TablesAgree (slots : Slots) (memory : List ℕ) : Type 0 where
  pub valid : (slot : ℕ) → IsCapability (capability_at slots slot)
  -- root tables and page tables are apart from slots
  pub roots : (slot root : ℕ) → capability_at slots slot ≡ RootTable root → IsTable slots memory root
  pub tables : (slot table : ℕ) (m : Option TableMapping) → capability_at slots slot ≡ PageTable table m → IsTable slots memory table
  -- a page table that is mapped has a pointer in its root table
  pub mapped_roots : (slot table : ℕ) (m : TableMapping) → capability_at slots slot ≡ PageTable table (Some m) → IsTable slots memory m.root
  pub pointers : (slot table : ℕ) (m : TableMapping) → capability_at slots slot ≡ PageTable table (Some m) →
      word_at memory (m.root + 4 * m.region) ≡ table_word table
  -- a frame that is mapped lies in memory, and has a leaf in the page table of its region
  pub frames : (slot frame : ℕ) (r : Rights) (m : FrameMapping) → capability_at slots slot ≡ Frame frame r (Some m) → frame + 2 ^ 12 ≤ length memory
  pub leaves : (slot frame : ℕ) (r : Rights) (m : FrameMapping) → capability_at slots slot ≡ Frame frame r (Some m)
      → (table : ℕ) × MapsTable slots m.root (m.page / 2 ^ 10) table × (word_at memory (table + 4 * (m.page % 2 ^ 10)) ≡ leaf_word frame m.rights.0)
  -- there are no other entries
  pub only_pointers : (slot root region : ℕ) → capability_at slots slot ≡ RootTable root → region < 2 ^ 10
      → (word_at memory (root + 4 * region) ≡ 0) ⊎ ((table : ℕ) × MapsTable slots root region table)
  pub only_leaves : (slot table : ℕ) (m : TableMapping) (i : ℕ) → capability_at slots slot ≡ PageTable table (Some m) → i < 2 ^ 10
      → (word_at memory (table + 4 * i) ≡ 0) ⊎ MapsFrame slots m.root (2 ^ 10 * m.region + i)
  pub blank : (slot table i : ℕ) → capability_at slots slot ≡ PageTable table None → i < 2 ^ 10 → word_at memory (table + 4 * i) ≡ 0
  -- a page table has one capability, and a page one mapping
  pub one_table : (a b table : ℕ) (m n : Option TableMapping) → capability_at slots a ≡ PageTable table m → capability_at slots b ≡ PageTable table n → a ≡ b
  pub one_frame : (a b f g : ℕ) (r q : Rights) (m n : FrameMapping) → capability_at slots a ≡ Frame f r (Some m) → capability_at slots b ≡ Frame g q (Some n)
      → m.root ≡ n.root → m.page ≡ n.page → a ≡ b
  -- no root table is a page table
  pub apart : (a b root table : ℕ) (m : Option TableMapping) → capability_at slots a ≡ RootTable root → capability_at slots b ≡ PageTable table m → root ≢ table
  pub mapped_apart : (a b t table : ℕ) (m : TableMapping) (n : Option TableMapping) → capability_at slots a ≡ PageTable t (Some m)
      → capability_at slots b ≡ PageTable table n → m.root ≢ table

-- none of the slots is after the end of a state's memory
abbrev pub AreNear : State → Slots → Type 0
AreNear s slots = (slot : ℕ) → IsFull slots slot → slot < 2 ^ s.memory_bits / 16
