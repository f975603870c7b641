-- What becomes of the mappings when a page table or a root table ends.
use Rattle.std.specs.Prelude.{ℕ, ◌≡◌, ◌==◌, ◌/◌, ◌^◌, ◌⊎◌, ◌||◌, Bool, false, if◌then◌else◌, Option, Some, option_map}
use Rattle.model.specs.Capabilities.Slots.{Slots, capability_at}
use Rattle.model.specs.declared.capabilities.Cap.{Cap}
use Rattle.model.specs.declared.capabilities.Cap.TheVariants.{Frame, PageTable}
use Rattle.model.specs.declared.capabilities.TableMapping.{TableMapping}
use Rattle.model.specs.declared.slot_entries.Entry.{Entry}
use Rattle.vspace.specs.declared.extents.Extent.{Extent}
use Rattle.vspace.specs.declared.extents.Extent.TheVariants as extents
use Rattle.vspace.specs.Regions.{unmapped_entry}
use Rattle.vspace.specs.Tables.{MapsFrame, MapsTable}

-- a mapping in a region goes with the table at an offset: that is its root table, or the page table of its region
abbrev pub GoesWith : Slots → ℕ → ℕ → ℕ → Type 0
GoesWith slots offset root region = (root ≡ offset) ⊎ MapsTable slots root region offset

-- a capability has a mapping in one of these regions, each given with its root table
abbrev pub IsMappedIn : (ℕ → ℕ → Type 0) → Cap → Type 0
IsMappedIn goes (Frame f r (Some m)) = goes m.root (m.page / 2 ^ 10)
IsMappedIn goes (PageTable t (Some m)) = goes m.root m.region
IsMappedIn goes _ = ⊥

-- what a slot holds afterwards: it has lost its mapping if that was in one of these regions, and else nothing changed
abbrev pub Loses : (ℕ → ℕ → Type 0) → Slots → ℕ → Option Entry → Type 0
Loses goes slots slot after =
    (IsMappedIn goes (capability_at slots slot) × (after ≡ option_map unmapped_entry (slots slot)))
    ⊎ ((IsMappedIn goes (capability_at slots slot) → ⊥) × (after ≡ slots slot))

-- what a slot holds once the table at an offset ends: each mapping that goes with it is lost, and nothing else
abbrev pub Ended : Slots → ℕ → ℕ → Option Entry → Type 0
Ended slots offset slot after = Loses (GoesWith slots offset) slots slot after

-- nothing is mapped under the table at an offset as a root table, and it is no mapped page table
pub record NoneUnder (slots : Slots) (offset : ℕ) : Type 0 where
  pub frames : (page : ℕ) → MapsFrame slots offset page → ⊥
  pub tables : (region table : ℕ) → MapsTable slots offset region table → ⊥
  pub itself : (root region : ℕ) → MapsTable slots root region offset → ⊥

-- a page table's capability whose mapping goes with the table at an offset
abbrev pub is_ending : ℕ → Cap → Bool
is_ending offset (PageTable table (Some m)) = m.root == offset || table == offset
is_ending offset _ = false

-- how far the end of a page table reaches that goes with the table at an offset: where its root table ends, to all frames under that
abbrev pub extent_of : ℕ → ℕ → Extent
extent_of root offset = if root == offset then extents.Root else extents.Region

-- some slots have lost mappings that go with the table at an offset, and nothing else has changed
abbrev pub Ending : ℕ → Slots → Slots → Type 0
Ending offset old now = (slot : ℕ) →
    (IsMappedIn (GoesWith old offset) (capability_at old slot) × (now slot ≡ option_map unmapped_entry (old slot))) ⊎ (now slot ≡ old slot)

-- no capability to a page table has a mapping that goes with the table at an offset
abbrev pub HasEnded : Slots → ℕ → ℕ → Type 0
HasEnded slots table offset =
    (slot : ℕ) (m : TableMapping) → capability_at slots slot ≡ PageTable table (Some m) → is_ending offset (PageTable table (Some m)) ≡ false
