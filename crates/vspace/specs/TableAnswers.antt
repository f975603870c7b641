-- What the call that maps a page table answers: as the definition of the invocation says of every state with these slots.
use Rattle.std.specs.Prelude.{ℕ, ◌≡◌, ◌==◌, ◌+◌, ◌*◌, ◌/◌, ◌%◌, nat_lt, Option, Some, None, Result, Ok, Err}
use Rattle.model.specs.Kernel.AddressSpaces.{address_limit, page_size, region_pages}
use Rattle.model.specs.Kernel.Arguments.{◌>>=◌, check}
use Rattle.model.specs.Capabilities.CapabilityWords.{IsTableMapping}
use Rattle.model.specs.Kernel.Arguments.{Call}
use Rattle.model.specs.Kernel.MappingCalls.{map_table}
use Rattle.model.specs.Kernel.State.{with_slots}
use Rattle.model.specs.Capabilities.Slots.{Slots, recapped}
use Rattle.model.specs.Kernel.State.{State}
use Rattle.model.specs.declared.capabilities.Cap.{Cap}
use Rattle.model.specs.declared.capabilities.Cap.TheVariants.{PageTable, RootTable}
use Rattle.model.specs.declared.capabilities.TableMapping.{TableMapping}
use Rattle.model.specs.declared.errors.KError.{KError}
use Rattle.model.specs.declared.errors.KError.TheVariants.{AlignmentError, DeleteFirst, InvalidArgument}
use Rattle.model.specs.declared.invocations.SlotName.{SlotName}
use Rattle.vspace.specs.Answers.{IsRegionFree}
use Rattle.model.specs.Kernel.Outcomes.{Gives}
use Rattle.vspace.specs.Tables.{AreNear, Holds, MapsTable}

-- the region of an address that can be mapped
abbrev pub region_named : ℕ → Result ℕ KError
region_named address = do
  _ ← check (nat_lt address address_limit) InvalidArgument
  _ ← check (address % (page_size * region_pages) == 0) AlignmentError
  Ok (address / (page_size * region_pages))

-- the entry of a region that nothing maps, in its root table
pub record FreePointer (slots : Slots) (root region place : ℕ) : Type 0 where
  pub rooted : Holds slots (RootTable root)
  pub here : place ≡ root + 4 * region
  pub free : IsRegionFree slots root region

-- whether a region can be mapped
abbrev pub RegionAnswer : Slots → ℕ → ℕ → Result ℕ KError → Type 0
RegionAnswer slots root region (Ok place) = FreePointer slots root region place
RegionAnswer slots root region (Err e) = (e ≡ DeleteFirst) × ((table : ℕ) × MapsTable slots root region table)

-- the call that maps a page table, as a caller makes it on the capability in a slot
abbrev pub table_call : Cap → Option ℕ → ℕ → ℕ → Option TableMapping → Call
table_call cspace caller slot offset mapping =
    record { root = cspace; caller = caller; slot = slot; capability = PageTable offset mapping }

-- what a call that maps a page table gives, in every state with these slots
abbrev pub GivesTableMapped : Slots → Cap → ℕ → ℕ → Option TableMapping → SlotName → ℕ → Slots → {A : Type 0} → Result A KError → Type 0
GivesTableMapped slots cspace slot offset mapping root_name address after result =
    (s : State) (caller : Option ℕ) → AreNear s slots
    → Gives (map_table (with_slots s slots) (table_call cspace caller slot offset mapping) root_name address) s after result

-- whether a page table can be mapped: the place of the pointer, and the mapping
abbrev pub TableMappingAnswer : Slots → Cap → ℕ → ℕ → Option TableMapping → SlotName → ℕ → Result (ℕ × TableMapping) KError → Type 0
TableMappingAnswer slots cspace slot offset mapping root_name address (Ok found) =
    (mapping ≡ None) × FreePointer slots found.1.root found.1.region found.0 × IsTableMapping (Some found.1)
    × GivesTableMapped slots cspace slot offset mapping root_name address (recapped slots slot (PageTable offset (Some found.1))) (Ok found)
TableMappingAnswer slots cspace slot offset mapping root_name address (Err e) =
    let refused : Result (Unit {0}) KError = Err e in GivesTableMapped slots cspace slot offset mapping root_name address slots refused
