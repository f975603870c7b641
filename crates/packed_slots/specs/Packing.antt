-- Slots packed into the memory of the machine. All full slots are in one list, in preorder.
use Rattle.std.specs.Prelude.{ℕ, ◌≡◌, ◌*◌, ◌^◌, ◌≤◌, Bool, true, false, if◌then◌else◌, Option, Some, None, List, [], ◌∷◌, length, slice_index, slice_index_or}
use Rattle.model.specs.Capabilities.CapabilityWords.{words_of}
use Rattle.model.specs.Capabilities.Orders.{first_of}
use Rattle.model.specs.Capabilities.Slots.{IsDerivation, SameOutside, Slots, is_full}
use Rattle.model.specs.declared.capabilities.Cap.{Cap}
use Rattle.packed_slots.specs.Words.{Words, capability_in, words_in}
use Rattle.slots.specs.Kin.{object_at}
use Rattle.slots.specs.preorder.Chains.{IsLinked, rows_linked}
use Rattle.slots.specs.preorder.Preorder.{Row, parents_of, rows_of, slots_of}
use Rattle.slots.specs.preorder.Runs.{AreRuns}

-- the bytes of the machine, for each 16 of them whether they are an open slot, and the first full slot
pub record Packed : Type 0 where
  pub memory : List ℕ
  pub open_slots : List Bool
  pub first : Option ℕ

abbrev pub is_open_in : List Bool → ℕ → Bool
is_open_in open_slots s = slice_index_or open_slots s false

-- the full slots with their depths, in their order
abbrev pub packed_rows : Packed → List Row
packed_rows p = rows_linked (words_in p.memory).next (words_in p.memory).depth (length p.open_slots) p.first

-- the slots that words and rows represent
abbrev pub slots_as : Words → List Bool → List Row → Slots
slots_as words open_slots rows s =
    if is_open_in open_slots s then Some (record { capability = capability_in words s; parent = parents_of rows s }) else None

abbrev pub packed_slots : Packed → Slots
packed_slots p = slots_as (words_in p.memory) p.open_slots (packed_rows p)

-- words and rows say the same
pub record IsPackedAs (words : Words) (open_slots : List Bool) (first : Option ℕ) (rows : List Row) : Type 0 where
  pub linked : IsLinked words.next words.previous words.depth rows
  pub begins : first ≡ first_of (slots_of rows)
  pub listed : (s : ℕ) → rows_of rows s ≡ (if is_full (slots_as words open_slots rows) s then 1 else 0)
  pub whole : (s : ℕ) → is_open_in open_slots s ≡ true → words.head s ∷ words.tail s ∷ [] ≡ words_of (capability_in words s)
  pub blank : (s : ℕ) → is_open_in open_slots s ≡ true → is_full (slots_as words open_slots rows) s ≡ false → words.depth s ≡ 0
  pub derivation : IsDerivation (slots_as words open_slots rows)
  -- those that name one object are side by side
  pub runs : AreRuns (object_at (slots_as words open_slots rows)) (slots_of rows)

pub record IsPacked (p : Packed) : Type 0 where
  pub long : 16 * length p.open_slots ≡ length p.memory
  pub few : length p.open_slots ≤ 2 ^ 20
  pub packed : IsPackedAs (words_in p.memory) p.open_slots p.first (packed_rows p)

abbrev pub packing : List ℕ → List Bool → Option ℕ → Packed
packing memory open_slots first = record { memory = memory; open_slots = open_slots; first = first }

-- a change leaves these slots, packed as before, and touches bytes of open slots alone
pub record IsChanged (old new : Packed) (slots : Slots) : Type 0 where
  pub packed : IsPacked new
  pub holds : packed_slots new ≡ slots
  pub bytes : SameOutside (packed_slots old) old.memory new.memory

-- the full slots, in their order
abbrev pub packed_order : Packed → List ℕ
packed_order p = slots_of (packed_rows p)

-- the two words of a capability
abbrev pub head_of : Cap → ℕ
head_of capability = slice_index (words_of capability) 0

abbrev pub tail_of : Cap → ℕ
tail_of capability = slice_index (words_of capability) 1

-- a change leaves all slots as they are
pub record IsKept (old new : Packed) : Type 0 where
  pub packed : IsPacked new
  pub holds : packed_slots new ≡ packed_slots old
  pub order : packed_order new ≡ packed_order old
