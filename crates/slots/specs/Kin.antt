-- Which capabilities may be in which slots, so that those to one object are side by side in the order of derivation.
-- seL4 Reference Manual, "Capability Derivation Tree".
use Rattle.std.specs.Prelude.{ℕ, ◌≡◌, ◌≢◌, ◌⊎◌, false, Option, Some, None}
use Rattle.model.specs.Capabilities.CapabilityKinds.{object_of}
use Rattle.model.specs.Capabilities.Slots.{Slots, capability_at, is_descendant, parent_at, spliced}
use Rattle.model.specs.declared.capabilities.Cap.{Cap}

-- the object that the capability in each slot names
abbrev pub object_at : Slots → ℕ → Option ℕ
object_at slots slot = object_of (capability_at slots slot)

-- no slot names the object that a capability names
abbrev pub IsUnnamed : Slots → Cap → Type 0
IsUnnamed slots capability = (offset slot : ℕ) → object_of capability ≡ Some offset → object_at slots slot ≢ Some offset

-- a capability may be derived from a slot that names the same object, or none; of a new object it is the first
abbrev pub IsKin : Slots → Cap → Option ℕ → Type 0
IsKin slots capability None = IsUnnamed slots capability
IsKin slots capability (Some parent) = (object_of capability ≡ object_at slots parent) ⊎ ((object_at slots parent ≡ None) × IsUnnamed slots capability)

-- another slot names the object that a slot names
pub record IsShared (slots : Slots) (slot : ℕ) : Type 0 where
  pub offset : ℕ
  pub own : object_at slots slot ≡ Some offset
  pub other : ℕ
  pub apart : other ≢ slot
  pub names : object_at slots other ≡ Some offset

-- a slot that does not descend from a root names the object that a slot names
pub record IsSharedBeside (slots : Slots) (root slot : ℕ) : Type 0 where
  pub offset : ℕ
  pub own : object_at slots slot ≡ Some offset
  pub other : ℕ
  pub beside : is_descendant slots root other ≡ false
  pub names : object_at slots other ≡ Some offset

-- the slot that one is derived from, if nothing is derived from it any more once that one is emptied
pub data LeavesChildless (slots : Slots) (slot : ℕ) : Option ℕ → Type 0 where
  childless : (parent : ℕ) → parent_at slots slot ≡ Some parent → ((other : ℕ) → parent_at (spliced slots slot) other ≢ Some parent)
      → LeavesChildless slots slot (Some parent)
  has_child : (parent other : ℕ) → parent_at slots slot ≡ Some parent → parent_at (spliced slots slot) other ≡ Some parent → LeavesChildless slots slot None
  no_parent : parent_at slots slot ≡ None → LeavesChildless slots slot None
