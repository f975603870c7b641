-- Capability slots and derivation: which slots are open, what each holds, and how a call changes them.
-- seL4 Reference Manual, "Capability Derivation Tree".
use Rattle.std.specs.Prelude.{ℕ, zero, suc, ◌≡◌, ◌==◌, ◌+◌, ◌/◌, ◌<◌, ◌≤◌, ◌&&◌, ◌||◌, Bool, true, false, not, nat_le, nat_lt, if◌then◌else◌, IsTrue, IsSome}
use Rattle.std.specs.Prelude.{Option, Some, None, List, length, slice_index}
use Rattle.std.specs.Option.{option_map, option_map_or}
use Rattle.model.specs.Capabilities.CapabilityWords.{IsCapability}
use Rattle.model.specs.declared.capabilities.Cap.{Cap}
use Rattle.model.specs.declared.capabilities.Cap.TheVariants.{Empty, Untyped, Endpoint, Notification, CNode, Frame, PageTable, Tcb, RootTable, InterruptControl}
use Rattle.model.specs.declared.capabilities.Cap.TheVariants.{InterruptHandler}
use Rattle.model.specs.declared.slot_entries.Entry.{Entry}

-- what each open slot holds, by its number; nothing at a slot that is not open
abbrev pub Slots : Type 0
Slots = ℕ → Option Entry

abbrev pub IsOpen : Slots → ℕ → Type 0
IsOpen slots slot = IsSome (slots slot)

-- what an open slot holds that is empty
abbrev pub empty_entry : Entry
empty_entry = record { capability = Empty; parent = None }

abbrev pub capability_at : Slots → ℕ → Cap
capability_at slots slot = option_map_or (λ held. held.capability) (slots slot) Empty

abbrev pub parent_at : Slots → ℕ → Option ℕ
parent_at slots slot = option_map_or (λ held. held.parent) (slots slot) None

abbrev pub is_empty : Cap → Bool
is_empty Empty = true
is_empty (Untyped _ _ _) = false
is_empty (Endpoint _ _ _) = false
is_empty (Notification _ _ _) = false
is_empty (CNode _ _ _) = false
is_empty (Frame _ _ _) = false
is_empty (PageTable _ _) = false
is_empty (Tcb _) = false
is_empty (RootTable _) = false
is_empty InterruptControl = false
is_empty (InterruptHandler _) = false

-- whether a slot is open and holds a capability
abbrev pub is_full : Slots → ℕ → Bool
is_full slots slot = not (is_empty (capability_at slots slot))

abbrev pub IsFull : Slots → ℕ → Type 0
IsFull slots slot = IsTrue (is_full slots slot)

-- the slots with another entry at one of them
abbrev pub with_entry : Slots → ℕ → Option Entry → Slots
with_entry slots slot held s = if s == slot then held else slots s

abbrev pub is_within : ℕ → ℕ → ℕ → Bool
is_within first count slot = nat_le first slot && nat_lt slot (first + count)

-- a range of empty slots more
abbrev pub opened : Slots → ℕ → ℕ → Slots
opened slots first count s = if is_within first count s then Some empty_entry else slots s

-- without a range
abbrev pub closed : Slots → ℕ → ℕ → Slots
closed slots first count s = if is_within first count s then None else slots s

-- another capability in a slot, with the same parent
abbrev pub recapped : Slots → ℕ → Cap → Slots
recapped slots slot capability =
    with_entry slots slot (Some (record { capability = capability; parent = parent_at slots slot }))

-- a new capability in a slot
abbrev pub inserted : Slots → ℕ → Cap → Option ℕ → Slots
inserted slots slot capability parent =
    with_entry slots slot (Some (record { capability = capability; parent = parent }))

-- the entry with another parent, if its parent was the slot `gone`
abbrev pub adopted : ℕ → Option ℕ → Entry → Entry
adopted gone parent held =
    if option_map_or (λ p. p == gone) held.parent false then record held { parent = parent } else held

-- each child of a slot with another parent
abbrev pub with_parent : Slots → ℕ → Option ℕ → Slots
with_parent slots gone parent s = option_map (adopted gone parent) (slots s)

-- a slot emptied, and its children derived from its parent
abbrev pub spliced : Slots → ℕ → Slots
spliced slots slot = with_entry (with_parent slots slot (parent_at slots slot)) slot (Some empty_entry)

-- what a slot holds moved to another, with its parent and its children
abbrev pub relocated : Slots → ℕ → ℕ → Slots
relocated slots from to =
    with_entry (with_entry (with_parent slots from (Some to)) to (slots from)) from (Some empty_entry)

-- descendants are the children and their descendants
pub data Descendant (slots : Slots) (root : ℕ) : ℕ → Type 0 where
  child : (slot : ℕ) → parent_at slots slot ≡ Some root → Descendant slots root slot
  deeper : (slot parent : ℕ) → parent_at slots slot ≡ Some parent → Descendant slots root parent → Descendant slots root slot

-- how many slots lead up from a slot by a map of parents, counted up to a bound
unfoldable pub depth_within : ℕ → (ℕ → Option ℕ) → ℕ → ℕ
depth_within zero parents slot = 0
depth_within (suc n) parents slot = option_map_or (λ parent. depth_within n parents parent + 1) (parents slot) 0

-- a slot's depth, 0 at the roots; slots that derive from one another in a circle have 256
abbrev pub depth_of : Slots → ℕ → ℕ
depth_of slots slot = depth_within 256 (parent_at slots) slot

-- whether a slot is among the first ancestors of another, of so many
unfoldable pub descends_within : ℕ → (ℕ → Option ℕ) → ℕ → ℕ → Bool
descends_within zero parents root slot = false
descends_within (suc n) parents root slot =
    option_map_or (λ parent. parent == root || descends_within n parents root parent) (parents slot) false

-- whether a slot descends from a root, as a test: it has as many ancestors as its depth
abbrev pub is_descendant : Slots → ℕ → ℕ → Bool
is_descendant slots root slot = descends_within (depth_of slots slot) (parent_at slots) root slot

-- capabilities are valid, only full slots have and are parents, and no depth is above 255
pub record IsDerivation (slots : Slots) : Type 0 where
  pub valid : (slot : ℕ) → IsCapability (capability_at slots slot)
  pub child_full : (slot parent : ℕ) → parent_at slots slot ≡ Some parent → IsFull slots slot
  pub parent_full : (slot parent : ℕ) → parent_at slots slot ≡ Some parent → IsFull slots parent
  pub shallow : (slot : ℕ) → depth_of slots slot ≤ 255

-- none of these bytes of memory lies where a slot is open
abbrev pub OutsideSlots : Slots → ℕ → ℕ → Type 0
OutsideSlots slots offset count = (place : ℕ) → offset ≤ place → place < offset + count → slots (place / 16) ≡ None

-- the bytes at places where no slot is open are the same
pub record SameOutside (slots : Slots) (old new : List ℕ) : Type 0 where
  pub size : length new ≡ length old
  pub bytes : (place : ℕ) → slots (place / 16) ≡ None → slice_index new place ≡ slice_index old place
