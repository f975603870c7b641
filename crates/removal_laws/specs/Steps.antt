-- A slot is emptied in steps: its mapping goes, it is taken out, and what it held the last capability of ends.
-- seL4 Reference Manual, "Deletion, Revocation, and Recycling".
use Rattle.std.specs.Prelude.{ℕ, ◌≡◌, ◌≢◌, ◌==◌, ◌-◌, ◌%◌, ◌/◌, ◌^◌, ◌<◌, ◌&&◌, ◌||◌, Bool, true, false, not, nat_le, if◌then◌else◌, IsSome, Option, Some, None}
use Rattle.std.specs.Prelude.{option_map}
use Rattle.std.specs.Option.{option_map_or}
use Rattle.std.specs.List.{list_any, range_with_len}
use Rattle.model.specs.Capabilities.CapabilityKinds.{frame_mapping, names_object, object_of, root_of, table_mapping, unmapped}
use Rattle.model.specs.Capabilities.Slots.{IsDerivation, IsFull, IsOpen, Slots, capability_at, is_full, parent_at, recapped}
use Rattle.model.specs.Kernel.AddressSpaces.{page_size}
use Rattle.model.specs.Kernel.Kinds.{Names, kind_at}
use Rattle.model.specs.Kernel.MappingCalls.{without_region}
use Rattle.model.specs.Kernel.Removal.{SlotSet, emptied}
use Rattle.model.specs.Kernel.Retype.{NewObject}
use Rattle.model.specs.Kernel.Scheduling.{all_leave}
use Rattle.model.specs.Kernel.State.{State, as_thread, binding_slot, with_slots}
use Rattle.model.specs.declared.capabilities.Cap.{Cap}
use Rattle.model.specs.declared.capabilities.Cap.TheVariants.{Frame, PageTable, RootTable, Untyped}
use Rattle.model.specs.declared.slot_entries.Entry.{Entry}

-- ---- sets

-- a slot alone, and a set without a slot
abbrev pub alone : ℕ → SlotSet
alone slot other = other == slot

abbrev pub less : SlotSet → ℕ → SlotSet
less set slot other = set other && not (other == slot)

-- ---- mappings

-- a capability's own mapping goes, and with that of a page table those of the frames in its region
abbrev pub slots_unmapped : Slots → ℕ → Cap → Slots
slots_unmapped slots slot (Frame offset r mapping) = recapped slots slot (Frame offset r None)
slots_unmapped slots slot (PageTable offset (Some mapping)) = without_region (recapped slots slot (PageTable offset None)) mapping
slots_unmapped slots slot capability = slots

abbrev pub unmapped_at : Slots → ℕ → Slots
unmapped_at slots slot = slots_unmapped slots slot (capability_at slots slot)

-- whether a capability is mapped under a root table
abbrev pub is_under : ℕ → Cap → Bool
is_under root capability =
    option_map_or (λ m. root == m.root) (frame_mapping capability) (option_map_or (λ m. root == m.root) (table_mapping capability) false)

abbrev pub uprooted : ℕ → Entry → Entry
uprooted root held = record held { capability = if is_under root held.capability then unmapped held.capability else held.capability }

-- all mappings under a root table go
abbrev pub without_root : ℕ → Slots → Slots
without_root root slots slot = option_map (uprooted root) (slots slot)

-- ---- objects

-- the mappings that go with an object, which are those under a root table
abbrev pub slots_ended : Cap → Slots → Slots
slots_ended capability slots = option_map_or (λ root. without_root root slots) (root_of capability) slots

abbrev pub ends_thread : State → ℕ → ℕ → Bool
ends_thread s offset thread = option_map_or (λ _. offset == thread) (as_thread (s.objects thread)) false

abbrev pub object_ended : State → ℕ → State
object_ended s offset = record (all_leave s (ends_thread s offset)) {
  objects = λ other. if offset == other then None else (all_leave s (ends_thread s offset)).objects other;
  bytes = λ place. if offset == place - place % page_size then None else s.bytes place;
}

-- the object ends that a capability names: a thread leaves every queue, and a root table takes its mappings along
abbrev pub ended : State → Cap → State
ended s capability =
    option_map_or (λ offset. with_slots (object_ended s offset) (slots_ended capability s.slots)) (object_of capability) s

-- ---- watermarks

abbrev pub is_child : Slots → ℕ → ℕ → Bool
is_child slots parent slot = option_map_or (λ p. p == parent) (parent_at slots slot) false

-- no slot is derived from this one
abbrev pub IsChildless : Slots → ℕ → Type 0
IsChildless slots parent = (slot : ℕ) → parent_at slots slot ≢ Some parent

-- untyped memory that nothing is derived from is unused
abbrev pub unused : Cap → Cap
unused (Untyped offset bits watermark) = Untyped offset bits 0
unused capability = capability

-- untyped memory in a slot is unused again if nothing is derived from it any more
pub data WithWatermark (slots : Slots) (parent : ℕ) (now : Slots) : Type 0 where
  still : (slot : ℕ) → parent_at slots slot ≡ Some parent → now ≡ slots → WithWatermark slots parent now
  no_untyped : unused (capability_at slots parent) ≡ capability_at slots parent → now ≡ slots → WithWatermark slots parent now
  reset : IsChildless slots parent → now ≡ recapped slots parent (unused (capability_at slots parent)) → WithWatermark slots parent now

-- the watermark of a parent, if there is one
abbrev pub Rewinds : Option ℕ → Slots → Slots → Type 0
Rewinds None slots now = now ≡ slots
Rewinds (Some parent) slots now = WithWatermark slots parent now

-- a root table's offset is no other object's
abbrev pub RootsAreRoots : Slots → Type 0
RootsAreRoots slots = (slot other root : ℕ) → capability_at slots slot ≡ RootTable root → names_object root (capability_at slots other) ≡ true
    → capability_at slots other ≡ RootTable root

-- ---- the end of an object

-- an object ends that a removed capability named, if no slot names it any more
pub data IfUnnamed (s : State) (removed : Cap) (now : State) : Type 0 where
  stays : ((offset : ℕ) → object_of removed ≡ Some offset → (slot : ℕ) × (names_object offset (capability_at s.slots slot) ≡ true)) → now ≡ s →
      IfUnnamed s removed now
  ends : (offset : ℕ) → object_of removed ≡ Some offset → ((slot : ℕ) → names_object offset (capability_at s.slots slot) ≡ false) → now ≡ ended s removed
      → IfUnnamed s removed now

-- ---- the set of a removal

-- a set of slots, and others beside it
abbrev pub joined : SlotSet → SlotSet → SlotSet
joined set more slot = set slot || more slot

-- the bindings of some lines from one on
abbrev pub bindings_from : State → (ℕ → Bool) → ℕ → SlotSet
bindings_from s taken first slot = list_any (λ line. nat_le first line && (slot == binding_slot s line && taken line)) (range_with_len 0 64)

-- what a removal relies on from one slot to the next
pub record IsReady (s : State) : Type 0 where
  pub derivation : IsDerivation s.slots
  pub near : (slot : ℕ) → IsFull s.slots slot → slot < 2 ^ s.memory_bits / 16
  pub roots : RootsAreRoots s.slots
  pub named : (slot : ℕ) (kind : NewObject) (offset : ℕ) → Names kind offset (capability_at s.slots slot) → kind_at s offset ≡ Some kind
  pub lines : (line : ℕ) → line < 64 → IsOpen s.slots (binding_slot s line)

-- one state has as much memory as another, the boot area where that has it, and open all that is open there
pub record SameShape (s t : State) : Type 0 where
  pub bits : t.memory_bits ≡ s.memory_bits
  pub radix : t.boot_radix ≡ s.boot_radix
  pub open_slots : (slot : ℕ) → IsOpen s.slots slot → IsOpen t.slots slot

-- the binding of a line is emptied where it is taken along and holds something
pub data BindingEmptied (s : State) (line : ℕ) (taken : Bool) (t : State) : Type 0 where
  bound : taken ≡ true → IsFull s.slots (binding_slot s line) → t ≡ emptied s (alone (binding_slot s line)) → BindingEmptied s line taken t
  unbound : taken ≡ true → is_full s.slots (binding_slot s line) ≡ false → t ≡ s → BindingEmptied s line taken t
  left : taken ≡ false → t ≡ s → BindingEmptied s line taken t

-- the object that a capability names is there
abbrev pub IsThere : State → Cap → Type 0
IsThere s capability = (offset : ℕ) → object_of capability ≡ Some offset → IsSome (s.objects offset)
