-- The leaves that a cache of walks keeps. RISC-V Privileged Architecture, "Sv32: Page-Based 32-bit Virtual-Memory Systems"
-- and "Supervisor Memory-Management Fence Instruction".
use Rattle.std.specs.Prelude.{ℕ, ◌≡◌, ◌+◌, ◌*◌, ◌/◌, ◌%◌, ◌^◌, ◌<◌, ◌≤◌, if◌then◌else◌, Option, Some, None, List, length, slice_index, slice_index_or}
use Rattle.std.specs.Prelude.{slice_set}
use Rattle.model.specs.Machine.Sv32.{◌>>=◌, entry_at, is_leaf, page_address, place_of}
use Rattle.packed_slots.specs.declared.cached_slots.caches.TlbEntry.{TlbEntry}

-- the leaf, if there is one, of each page by its number, under the root table at each place
abbrev pub Leaves : Type 0
Leaves = ℕ → ℕ → Option ℕ

-- the leaf of the last level that a walk to a page ends at
unfoldable pub leaf_of : List ℕ → Leaves
leaf_of memory root page = do
  top ← entry_at memory root (page / 2 ^ 10)
  if is_leaf top then None else do
    table ← place_of (page_address top)
    last ← entry_at memory table (page % 2 ^ 10)
    if is_leaf last then Some last else None

-- what is kept of a page is its leaf
pub record AreAmong (leaves : Leaves) (entries : List (Option TlbEntry)) : Type 0 where
  pub each : (place : ℕ) (kept : TlbEntry) → slice_index_or entries place None ≡ Some kept → leaves kept.root kept.page ≡ Some kept.leaf

-- the place in which the leaf of a page under a root table is kept
abbrev pub place_for : ℕ → ℕ → ℕ
place_for root page = (page % 64 + root / 2 ^ 12 % 64 * 13) % 64

-- the leaf of a page, if there is one, is kept in its place
abbrev pub with_leaf : List (Option TlbEntry) → ℕ → ℕ → Option ℕ → List (Option TlbEntry)
with_leaf entries root page None = entries
with_leaf entries root page (Some leaf) = slice_set entries (place_for root page) (Some (record { root = root; page = page; leaf = leaf }))

-- an entry keeps the leaf that is found for a page
pub record IsLeafMore (root page : ℕ) (found : Option ℕ) (kept : TlbEntry) : Type 0 where
  pub at_root : kept.root ≡ root
  pub at_page : kept.page ≡ page
  pub finds : found ≡ Some kept.leaf

-- the four bytes from a place on are the same
abbrev pub IsSameWord : List ℕ → List ℕ → ℕ → Type 0
IsSameWord old new at = (place : ℕ) → at ≤ place → place < at + 4 → slice_index new place ≡ slice_index old place

-- the two entries that a walk to a page reads are the same: that of the root table, and that of the table that it names
pub record AreSameEntries (old new : List ℕ) (root page : ℕ) : Type 0 where
  pub size : length new ≡ length old
  pub top : IsSameWord old new (root + 4 * (page / 2 ^ 10))
  pub last : (top table : ℕ) → entry_at old root (page / 2 ^ 10) ≡ Some top → place_of (page_address top) ≡ Some table →
      IsSameWord old new (table + 4 * (page % 2 ^ 10))
