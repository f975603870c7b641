-- What trees hold.
use Rattle.std.specs.Prelude.{ℕ, zero, suc, ◌≡◌, ◌≢◌, ◌==◌, ◌≤◌, ◌<◌, ◌^◌, ◌/◌, ◌%◌, Bool, true, false, List, [], ◌∷◌, Option, Some, None, length, slice_get}
use Rattle.shared_states.specs.declared.entries.Entry.{Entry}
use Rattle.shared_states.specs.declared.entries.Entry.TheVariants.{Pair, Leaf}
use Rattle.shared_states.specs.declared.sames.Same.{Same}
use Rattle.shared_states.specs.declared.sames.Sames.{Sames}

-- the entry below on a side: below a leaf is the first one, which is empty
abbrev pub below : Entry → Bool → ℕ
below (Pair low high) true = high
below (Pair low high) false = low
below (Leaf value) side = 0

abbrev pub below_or : Option Entry → Bool → ℕ
below_or None side = 0
below_or (Some entry) side = below entry side

abbrev pub leaf_of : Entry → Option ℕ
leaf_of (Pair low high) = None
leaf_of (Leaf value) = Some value

abbrev pub leaf_or : Option Entry → Option ℕ
leaf_or None = None
leaf_or (Some entry) = leaf_of entry

abbrev pub side_of : List Entry → ℕ → Bool → ℕ
side_of entries tree side = below_or (slice_get entries tree) side

abbrev pub value_of : List Entry → ℕ → Option ℕ
value_of entries tree = leaf_or (slice_get entries tree)

-- the tree at the end of a path
abbrev pub end_of : List Entry → List Bool → ℕ → ℕ
end_of entries [] tree = tree
end_of entries (side ∷ path) tree = end_of entries path (side_of entries tree side)

-- what a tree holds at the end of a path
abbrev pub held_at : List Entry → List Bool → ℕ → Option ℕ
held_at entries path tree = value_of entries (end_of entries path tree)

-- whether the bit of a number is 1 at a height
unfoldable pub is_high : ℕ → ℕ → Bool
is_high key height = key / 2 ^ height % 2 == 1

-- the path to a number, from a height on
abbrev pub path_of : ℕ → ℕ → List Bool
path_of zero key = []
path_of (suc height) key = is_high key height ∷ path_of height key

abbrev pub IsIn : List Entry → ℕ → Type 0
IsIn entries tree = tree < length entries

-- the first entry is empty, and what is below an entry is one
pub record AreClosed (entries : List Entry) : Type 0 where
  pub some : 0 < length entries
  pub none : value_of entries 0 ≡ None
  pub below_none : (side : Bool) → side_of entries 0 side ≡ 0
  pub within : (tree : ℕ) (side : Bool) → side_of entries tree side < length entries

-- what one holds, all trees do that have more entries
pub record KeepsTrees (old : List Entry) (new : List Entry) : Type 0 where
  pub longer : length old ≤ length new
  pub sides : (tree : ℕ) (side : Bool) → tree < length old → side_of new tree side ≡ side_of old tree side
  pub values : (tree : ℕ) → tree < length old → value_of new tree ≡ value_of old tree
  pub ends : (path : List Bool) (tree : ℕ) → tree < length old → end_of new path tree ≡ end_of old path tree
  pub held : (path : List Bool) (tree : ℕ) → tree < length old → held_at new path tree ≡ held_at old path tree

-- two trees of a height hold the same
abbrev pub AreSame : List Entry → ℕ → ℕ → ℕ → Type 0
AreSame entries height one other = (path : List Bool) → length path ≡ height → held_at entries path one ≡ held_at entries path other

-- they hold the same where a third one holds something
abbrev pub Agree : List Entry → ℕ → ℕ → ℕ → ℕ → Type 0
Agree entries height one other asked =
    (path : List Bool) → length path ≡ height → held_at entries path asked ≢ None → held_at entries path one ≡ held_at entries path other

-- what was noted of trees holds
abbrev pub IsSame : List Entry → ℕ → Option Same → Type 0
IsSame entries tree None = Unit {0}
IsSame entries tree (Some same) = (same.tree < length entries) × AreSame entries same.height tree same.tree

abbrev pub IsSameAt : List Entry → ℕ → Option (Option Same) → Type 0
IsSameAt entries tree None = Unit {0}
IsSameAt entries tree (Some found) = IsSame entries tree found

-- of trees that are there
abbrev pub AreNoted : List Entry → Sames → Type 0
AreNoted entries sames = (length sames.found.items ≤ length entries) × ((tree : ℕ) → IsSameAt entries tree (slice_get sames.found.items tree))
