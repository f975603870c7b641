-- What the calls on mappings answer: as the definitions of the invocations say of every state with these slots.
use Rattle.std.specs.Prelude.{ℕ, ◌≡◌, ◌==◌, ◌+◌, ◌*◌, ◌/◌, ◌%◌, ◌^◌, ◌⊎◌, false, nat_lt, Option, Some, None, Result, Ok, Err}
use Rattle.model.specs.Kernel.Outcomes.{Gives}
use Rattle.model.specs.Kernel.AddressSpaces.{address_limit, maps_page, maps_region, page_size}
use Rattle.model.specs.Kernel.Arguments.{◌>>=◌, check}
use Rattle.model.specs.Capabilities.CapabilityWords.{IsFrameMapping}
use Rattle.model.specs.Kernel.Arguments.{Call}
use Rattle.model.specs.Kernel.MappingCalls.{map_frame}
use Rattle.model.specs.Kernel.State.{with_slots}
use Rattle.model.specs.Capabilities.Slots.{Slots, capability_at, recapped}
use Rattle.model.specs.Kernel.State.{State}
use Rattle.model.specs.declared.capabilities.Cap.{Cap}
use Rattle.model.specs.declared.capabilities.Cap.TheVariants.{Frame}
use Rattle.model.specs.declared.capabilities.FrameMapping.{FrameMapping}
use Rattle.model.specs.declared.errors.KError.{KError}
use Rattle.model.specs.declared.errors.KError.TheVariants.{AlignmentError, DeleteFirst, FailedLookup, InvalidArgument}
use Rattle.model.specs.declared.invocations.SlotName.{SlotName}
use Rattle.model.specs.declared.rights.Rights.{Rights}
use Rattle.vspace.specs.Tables.{AreNear, MapsFrame, MapsTable}

-- the entry of a page that nothing maps, in the page table of its region
pub record FreeEntry (slots : Slots) (root page place : ℕ) : Type 0 where
  pub table : ℕ
  pub maps : MapsTable slots root (page / 2 ^ 10) table
  pub here : place ≡ table + 4 * (page % 2 ^ 10)
  pub free : (slot : ℕ) → maps_page root page (capability_at slots slot) ≡ false

-- no page table is mapped for the region
abbrev pub IsRegionFree : Slots → ℕ → ℕ → Type 0
IsRegionFree slots root region = (slot : ℕ) → maps_region root region (capability_at slots slot) ≡ false

-- whether a page can be mapped
abbrev pub PageAnswer : Slots → ℕ → ℕ → Result ℕ KError → Type 0
PageAnswer slots root page (Ok place) = FreeEntry slots root page place
PageAnswer slots root page (Err e) =
    ((e ≡ FailedLookup) × IsRegionFree slots root (page / 2 ^ 10))
    ⊎ ((e ≡ DeleteFirst) × MapsFrame slots root page × ((table : ℕ) × MapsTable slots root (page / 2 ^ 10) table))

-- the page of an address that can be mapped
abbrev pub page_named : ℕ → Result ℕ KError
page_named address = do
  _ ← check (nat_lt address address_limit) InvalidArgument
  _ ← check (address % page_size == 0) AlignmentError
  Ok (address / page_size)

-- the call that maps a frame, as a caller makes it on the capability in a slot
abbrev pub frame_call : Cap → Option ℕ → ℕ → ℕ → Rights → Option FrameMapping → Call
frame_call cspace caller slot offset r mapping =
    record { root = cspace; caller = caller; slot = slot; capability = Frame offset r mapping }

-- what a call that maps a frame gives, in every state with these slots
abbrev pub GivesMapped : Slots → Cap → ℕ → ℕ → Rights → Option FrameMapping → SlotName → ℕ → ℕ → Slots → {A : Type 0} → Result A KError → Type 0
GivesMapped slots cspace slot offset r mapping root_name address rights_word after result =
    (s : State) (caller : Option ℕ) → AreNear s slots
    → Gives (map_frame (with_slots s slots) (frame_call cspace caller slot offset r mapping) r root_name address rights_word) s after result

-- whether a frame can be mapped: the place of the leaf, and the mapping
abbrev pub MappingAnswer : Slots → Cap → ℕ → ℕ → Rights → Option FrameMapping → SlotName → ℕ → ℕ → Result (ℕ × FrameMapping) KError → Type 0
MappingAnswer slots cspace slot offset r mapping root_name address rights_word (Ok found) =
    (mapping ≡ None) × FreeEntry slots found.1.root found.1.page found.0 × IsFrameMapping (Some found.1)
    × GivesMapped slots cspace slot offset r mapping root_name address rights_word (recapped slots slot (Frame offset r (Some found.1))) (Ok found)
MappingAnswer slots cspace slot offset r mapping root_name address rights_word (Err e) =
    let refused : Result (Unit {0}) KError = Err e in GivesMapped slots cspace slot offset r mapping root_name address rights_word slots refused

-- the place of the leaf of a frame that is mapped
abbrev pub LeafAnswer : Slots → Option FrameMapping → Option ℕ → Type 0
LeafAnswer slots None place = place ≡ None
LeafAnswer slots (Some m) None = ⊥
LeafAnswer slots (Some m) (Some place) =
    (table : ℕ) × MapsTable slots m.root (m.page / 2 ^ 10) table × (place ≡ table + 4 * (m.page % 2 ^ 10))
