-- Changes as they are kept: the number of the slot, the words of the capability, and the name of what the slot was derived from.
use Rattle.std.specs.Prelude.{ℕ, ◌≡◌, ◌==◌, ◌*◌, ◌/◌, ◌%◌, Bool, true, false, if◌then◌else◌, Option, List, [], ◌∷◌, option_map}
use Rattle.std.specs.Map.{lookup}
use Rattle.std.specs.Option.{option_map_or}
use Rattle.std.specs.Ordering.{is_eq, nat_cmp}
use Rattle.model.specs.Acceptance.NotedStates.{NotedSlot, SlotKey}
use Rattle.model.specs.Capabilities.CapabilityFields.{unpacked}
use Rattle.model.specs.declared.capabilities.Cap.{Cap}
use Rattle.model.specs.declared.capabilities.Cap.TheVariants.{Empty}
use Rattle.typestate.specs.Families.{has_link}
use Rattle.typestate.specs.Names.{renamed}
use Rattle.typestate.specs.declared.packed_change.PackedChange.{PackedChange}

-- the key of a number
abbrev pub numbered_key : ℕ → SlotKey
numbered_key number = record { cnode = number / 4294967296; index = number % 4294967296 }

-- the capability that two words stand for
abbrev pub cap_of : ℕ → ℕ → Cap
cap_of head word = option_map_or (λ capability. capability) (unpacked head word) Empty

-- the change to the slot of a number, where slots stand for names
abbrev pub unpacked_change : List (ℕ × ℕ) → ℕ → PackedChange → NotedSlot
unpacked_change slots number packed = record {
  key = numbered_key number;
  capability = cap_of packed.head packed.word;
  parent = option_map (λ name. numbered_key (renamed slots name)) packed.parent;
}

abbrev pub unpacked_entry : List (ℕ × ℕ) → ℕ × PackedChange → NotedSlot
unpacked_entry slots entry = unpacked_change slots entry.0 entry.1

-- what is kept of the slot of a number
abbrev pub packed_at : List (ℕ × PackedChange) → ℕ → Option PackedChange
packed_at entries number = lookup (λ k. is_eq (nat_cmp number k)) entries

abbrev pub has_name : ℕ → Option ℕ → Bool
has_name name parent = option_map_or (λ p. p == name) parent false

abbrev pub is_named : ℕ → Option PackedChange → Bool
is_named name packed = option_map_or (λ p. has_name name p.parent) packed false

-- each change that names what its slot was derived from has a link from there to the slot's block
abbrev pub AreLinked : List (ℕ × PackedChange) → List (ℕ × ℕ) → Type 0
AreLinked entries links = (name slot : ℕ) → is_named name (packed_at entries slot) ≡ true → has_link links name (slot / 16 * 16) ≡ true

-- the changes that come first, and are to slots of a block
abbrev pub begin_in : ℕ → List (ℕ × PackedChange) → List (ℕ × PackedChange)
begin_in block [] = []
begin_in block (e ∷ rest) = if e.0 / 16 * 16 == block then e ∷ begin_in block rest else []
