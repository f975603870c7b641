-- Map by the loader: a page table, and a frame by its copy.
use Rattle.std.proofs.Common.{ℕ, ◌≡◌, ◌∙◌, ◌==◌, ◌/◌, ◌%◌, ◌^◌, ◌<◌, ◌||◌, true, false, not, nat_lt, Some, None, Result, Ok, [], ◌∷◌, refl, ap}
use Rattle.std.proofs.lemmas.Bool.{eq-eqb, lt-ltb}
use Rattle.model.specs.Capabilities.CapabilityKinds.{root_of}
use Rattle.model.specs.Capabilities.Rights.{mapping_rights, may_execute, may_read}
use Rattle.model.specs.Capabilities.Slots.{capability_at, is_empty, recapped}
use Rattle.model.specs.Images.Boot.{boot_root, made, performed}
use Rattle.model.specs.Images.BootCalls.{loader_call}
use Rattle.model.specs.Kernel.AddressSpaces.{address_limit, is_page_taken, is_region_taken, page_size, region_pages, region_size}
use Rattle.model.specs.Kernel.Arguments.{source_slot, wanted}
use Rattle.model.specs.Kernel.CallForms.{decode, map_frame_label, map_table_label}
use Rattle.model.specs.Kernel.Invocations.{invoke}
use Rattle.model.specs.Kernel.MappingCalls.{map_frame, map_table, root_named}
use Rattle.model.specs.Kernel.Soundness.{HasShape}
use Rattle.model.specs.Kernel.State.{State, with_slots}
use Rattle.model.specs.declared.capabilities.Cap.TheVariants.{Frame, PageTable, RootTable}
use Rattle.model.specs.declared.errors.KError.{KError}
use Rattle.model.specs.declared.errors.KError.TheVariants.{AlignmentError, DeleteFirst, FailedLookup, InvalidArgument, InvalidCapability}
use Rattle.model.specs.declared.rights.Rights.{Rights}
use Rattle.soundness.proofs.boot_laws.CallLookups.{boot-source, boot_name, goes, made-there, passes, slot_call}

table-called : (s : State) (slot table root address : ℕ)
    → performed s map_table_label (root ∷ 32 ∷ address ∷ []) (slot_call s slot (PageTable table None)) ≡ map_table s (slot_call s slot (PageTable table None))
    (boot_name root) address
unfolding invoke decode
table-called s slot table root address = refl

frame-called : (s : State) (slot frame : ℕ) (held : Rights) (root address bits : ℕ)
    → performed s map_frame_label (root ∷ 32 ∷ address ∷ bits ∷ []) (slot_call s slot (Frame frame held None))
    ≡ map_frame s (slot_call s slot (Frame frame held None)) held (boot_name root) address bits
unfolding invoke decode
frame-called s slot frame held root address bits = refl

-- a root table's capability in a boot slot
pub record IsRootSlot (s : State) (slot root : ℕ) : Type 0 where
  pub inside : slot < 2 ^ s.boot_radix
  pub holds : capability_at s.slots slot ≡ RootTable root

root-found : (s : State) (slot root : ℕ) → HasShape s → IsRootSlot s slot root → root_named s.slots (boot_root s.boot_radix) (boot_name slot) ≡ Ok root
root-found s slot root shape is =
    goes (source_slot s.slots (boot_root s.boot_radix) (boot_name slot)) _ slot (Ok root)
    (boot-source s shape slot is.inside (ap (λ c. not (is_empty c)) is.holds))
    (ap (λ c. wanted (root_of c) InvalidCapability) is.holds)

-- ---- page tables

pub record MapsTable (s : State) (slot table root_slot root address : ℕ) : Type 0 where
  pub inside : slot < 2 ^ s.boot_radix
  pub holds : capability_at s.slots slot ≡ PageTable table None
  pub under : IsRootSlot s root_slot root
  pub below : address < address_limit
  pub aligned : address % region_size ≡ 0
  pub free : is_region_taken s root (address / region_size) ≡ false

pub table-made : (s : State) (slot table root_slot root address : ℕ) → HasShape s → MapsTable s slot table root_slot root address
    → made s (loader_call slot map_table_label (root_slot ∷ 32 ∷ address ∷ []))
    ≡ Ok (with_slots s (recapped s.slots slot (PageTable table (Some (record { root = root; region = address / region_size })))))
table-made s slot table root_slot root address shape asked =
    let end : Result State KError =
    Ok (with_slots s (recapped s.slots slot (PageTable table (Some (record { root = root; region = address / region_size }))))) in
    made-there s shape slot asked.inside map_table_label (root_slot ∷ 32 ∷ address ∷ []) (PageTable table None) asked.holds refl
    ∙ table-called s slot table root_slot address
    ∙ goes (root_named s.slots (boot_root s.boot_radix) (boot_name root_slot)) _ root end (root-found s root_slot root shape asked.under)
    (passes (nat_lt address address_limit) InvalidArgument _ end (lt-ltb address address_limit asked.below)
    (passes (address % region_size == 0) AlignmentError _ end (eq-eqb (address % region_size) 0 asked.aligned)
    (passes (not (is_region_taken s root (address / region_size))) DeleteFirst _ end (ap not asked.free) refl)))

-- ---- frames

pub record MapsFrame (s : State) (slot frame : ℕ) (held : Rights) (root_slot root address bits : ℕ) : Type 0 where
  pub inside : slot < 2 ^ s.boot_radix
  pub holds : capability_at s.slots slot ≡ Frame frame held None
  pub under : IsRootSlot s root_slot root
  pub below : address < address_limit
  pub aligned : address % page_size ≡ 0
  pub covered : is_region_taken s root (address / page_size / region_pages) ≡ true
  pub free : is_page_taken s root (address / page_size) ≡ false
  pub allowed : (may_read (mapping_rights held bits) || may_execute (mapping_rights held bits)) ≡ true

pub frame-made : (s : State) (slot frame : ℕ) (held : Rights) (root_slot root address bits : ℕ) → HasShape s →
    MapsFrame s slot frame held root_slot root address bits
    → made s (loader_call slot map_frame_label (root_slot ∷ 32 ∷ address ∷ bits ∷ []))
    ≡ Ok (with_slots s (recapped s.slots slot
    (Frame frame held (Some (record { root = root; page = address / page_size; rights = mapping_rights held bits })))))
frame-made s slot frame held root_slot root address bits shape asked =
    let allowed = mapping_rights held bits in
    let end : Result State KError =
    Ok (with_slots s (recapped s.slots slot (Frame frame held (Some (record { root = root; page = address / page_size; rights = allowed }))))) in
    made-there s shape slot asked.inside map_frame_label (root_slot ∷ 32 ∷ address ∷ bits ∷ []) (Frame frame held None) asked.holds refl
    ∙ frame-called s slot frame held root_slot address bits
    ∙ goes (root_named s.slots (boot_root s.boot_radix) (boot_name root_slot)) _ root end (root-found s root_slot root shape asked.under)
    (passes (nat_lt address address_limit) InvalidArgument _ end (lt-ltb address address_limit asked.below)
    (passes (address % page_size == 0) AlignmentError _ end (eq-eqb (address % page_size) 0 asked.aligned)
    (passes (is_region_taken s root (address / page_size / region_pages)) FailedLookup _ end asked.covered
    (passes (not (is_page_taken s root (address / page_size))) DeleteFirst _ end (ap not asked.free)
    (passes (may_read allowed || may_execute allowed) InvalidArgument _ end asked.allowed refl)))))
