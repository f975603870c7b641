-- What descends from a slot, found level by level: what the next level adds are the children of the newest one.
use Rattle.std.specs.Prelude.{ℕ, suc, ◌≡◌, ◌||◌, Bool, false, if◌then◌else◌, Option, List, [], ◌∷◌}
use Rattle.std.specs.List.{list_any}
use Rattle.std.specs.Option.{option_map_or}
use Rattle.std.specs.Ordering.{is_eq, nat_cmp}
use Rattle.model.specs.Acceptance.NotedStates.{NotedSlot, SlotKey, is_same_key, number_of}
use Rattle.typestate.specs.declared.points.NotedSlots.{NotedSlots}
use Rattle.typestate.specs.declared.slot_changes.Removed.{Removed}
use Rattle.typestate.specs.declared.slot_changes.Removed.TheVariants.{One, Below}
use Rattle.typestate.specs.Differences.{slots_of}
use Rattle.typestate.specs.SlotChanges.{noted_descends, noted_parent}

-- through how many slots what goes descends from the slot that is named
abbrev pub levels_of : Removed → ℕ
levels_of (One gone) = 0
levels_of (Below root) = 256

-- whether a number was found
abbrev pub is_found : List ℕ → ℕ → Bool
is_found numbers n = list_any (λ m. is_eq (nat_cmp n m)) numbers

-- whether one of these is the slot of a key, if there is one
abbrev pub is_one_of : List NotedSlot → Option SlotKey → Bool
is_one_of slots key = option_map_or (λ k. list_any (λ c. is_same_key c.key k) slots) key false

-- a slot, if it is not that of a key
abbrev pub if_other : SlotKey → NotedSlot → List NotedSlot
if_other key s = if is_same_key s.key key then [] else s ∷ []

-- What descends from a root through at most so many slots was found, by its numbers; and what does through one slot more was so too,
-- or is a child of the newest.
abbrev pub AreBelow : ℕ → NotedSlots → SlotKey → List ℕ → List NotedSlot → Type 0
AreBelow k n root numbers newest =
    (key : SlotKey) → (is_found numbers (number_of key) ≡ noted_descends k (slots_of n) root key)
    × (noted_descends (suc k) (slots_of n) root key ≡ (noted_descends k (slots_of n) root key || is_one_of newest (noted_parent (slots_of n) key)))
