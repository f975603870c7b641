-- What unmapping the frames of a region leaves in the slots.
use Rattle.std.specs.Prelude.{ℕ, ◌≡◌, ◌==◌, ◌/◌, ◌&&◌, ◌⊎◌, Bool, true, false, if◌then◌else◌, Option, Some, List, option_map}
use Rattle.std.specs.Option.{option_map_or}
use Rattle.model.specs.Capabilities.CapabilityKinds.{frame_mapping, unmapped}
use Rattle.model.specs.Capabilities.Slots.{Slots, capability_at}
use Rattle.model.specs.Kernel.AddressSpaces.{region_pages}
use Rattle.model.specs.Kernel.Arguments.{Call}
use Rattle.model.specs.Kernel.MappingCalls.{lies_in_region, unmap_frame, unmap_table}
use Rattle.model.specs.Kernel.State.{State}
use Rattle.model.specs.declared.capabilities.Cap.{Cap}
use Rattle.model.specs.declared.capabilities.Cap.TheVariants.{Frame, PageTable}
use Rattle.model.specs.declared.capabilities.FrameMapping.{FrameMapping}
use Rattle.model.specs.declared.capabilities.TableMapping.{TableMapping}
use Rattle.model.specs.declared.slot_entries.Entry.{Entry}
use Rattle.vspace.specs.declared.extents.Extent.{Extent}
use Rattle.vspace.specs.declared.extents.Extent.TheVariants as extents
use Rattle.vspace.specs.Tables.{Holds, TablesAgree}

-- a mapping under the root table of a page table goes along with it
abbrev pub is_within : Extent → TableMapping → FrameMapping → Bool
is_within extents.Region table mapping = mapping.page / region_pages == table.region
is_within extents.Root table mapping = true

-- a capability maps a frame that goes along with a page table
abbrev pub goes_along : Extent → TableMapping → Cap → Bool
goes_along extent table capability =
    option_map_or (λ (mapping : FrameMapping). mapping.root == table.root && is_within extent table mapping) (frame_mapping capability) false

-- what a slot holds, without its mapping; its parent stays
abbrev pub unmapped_entry : Entry → Entry
unmapped_entry held = record held { capability = unmapped held.capability }

-- what a slot holds, without its mapping if that goes
abbrev pub without_going : (Cap → Bool) → Entry → Entry
without_going goes held = record held { capability = if goes held.capability then unmapped held.capability else held.capability }

-- one slot without its mapping, if that goes
abbrev pub cleared_at : (Cap → Bool) → Slots → ℕ → ℕ → Option Entry
cleared_at goes slots slot y = if y == slot then option_map (without_going goes) (slots y) else slots y

-- some slots have lost a mapping that goes, and nothing else has changed
abbrev pub IsPartlyCleared : (Cap → Bool) → Slots → Slots → Type 0
IsPartlyCleared goes old now =
    (y : ℕ) → ((goes (capability_at old y) ≡ true) × (now y ≡ option_map unmapped_entry (old y))) ⊎ (now y ≡ old y)

-- a page table is mapped for a region, and tables and mappings agree
pub record IsRegionTable (slots : Slots) (memory : List ℕ) (table : ℕ) (mapping : TableMapping) : Type 0 where
  pub agree : TablesAgree slots memory
  pub mapped : Holds slots (PageTable table (Some mapping))

-- a page table may be unmapped by itself: tables and mappings agree, and no frame lies in its region
pub record IsDroppable (slots : Slots) (memory : List ℕ) (slot table : ℕ) (mapping : TableMapping) : Type 0 where
  pub agree : TablesAgree slots memory
  pub held : capability_at slots slot ≡ PageTable table (Some mapping)
  pub none : (y : ℕ) → lies_in_region mapping (capability_at slots y) ≡ false

-- the state without the mapping that a capability holds
abbrev pub without_mapping : State → Call → Cap → State
without_mapping s call (Frame f r o) = unmap_frame s call
without_mapping s call (PageTable t o) = unmap_table s call
without_mapping s call _ = s
