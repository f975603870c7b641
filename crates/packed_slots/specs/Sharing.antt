-- What the neighbours of a slot name.
use Rattle.std.specs.Prelude.{ℕ, ◌≡◌, ◌≢◌, ◌||◌, nat_le, Bool, false, if◌then◌else◌, Option, Some, None}
use Rattle.std.specs.Option.{option_map_or}
use Rattle.model.specs.Capabilities.CapabilityKinds.{names_object}
use Rattle.model.specs.Capabilities.Slots.{Slots, capability_at}
use Rattle.packed_slots.specs.Packing.{Packed, packed_slots}
use Rattle.packed_slots.specs.Words.{Words, words_in}
use Rattle.slots.specs.Kin.{object_at}

-- there is a slot, and it names an object
abbrev pub is_named_at : Slots → ℕ → Option ℕ → Bool
is_named_at slots offset found = option_map_or (λ s. names_object offset (capability_at slots s)) found false

-- a neighbour of a slot names the object that this names
abbrev pub has_like_neighbour : Packed → ℕ → Bool
has_like_neighbour p slot =
    option_map_or (λ offset. is_named_at (packed_slots p) offset ((words_in p.memory).previous slot)
    || is_named_at (packed_slots p) offset ((words_in p.memory).next slot))
    (object_at (packed_slots p) slot) false

-- a root, or the slot after the last one that descends from it, names the object that a slot names
abbrev pub has_like_edge : Packed → ℕ → ℕ → ℕ → Bool
has_like_edge p root last slot =
    option_map_or (λ offset. is_named_at (packed_slots p) offset (Some root) || is_named_at (packed_slots p) offset ((words_in p.memory).next last))
    (object_at (packed_slots p) slot) false

-- there is a slot, and it is as deep as a depth, or deeper
abbrev pub is_as_deep : Words → ℕ → Option ℕ → Bool
is_as_deep words own found = option_map_or (λ s. nat_le own (words.depth s)) found false

-- a slot, if there is one and it names an object
abbrev pub if_naming : Slots → ℕ → Option ℕ → Option ℕ
if_naming slots offset found = if is_named_at slots offset found then found else None

-- another slot names the object at an offset that a slot names, or no other does
pub record IsOther (slots : Slots) (offset slot : ℕ) (other : Option ℕ) : Type 0 where
  pub some : (s : ℕ) → other ≡ Some s → (s ≢ slot) × (object_at slots s ≡ Some offset)
  pub none : other ≡ None → (s : ℕ) → object_at slots s ≡ Some offset → s ≡ slot
