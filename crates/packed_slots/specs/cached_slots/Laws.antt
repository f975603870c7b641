-- The laws of this crate on the leaves that are kept.
use Rattle.std.specs.Prelude.{ℕ, ◌≡◌, ◌⊎◌, Option, Some, None, List, slice_index_or}
use Rattle.packed_slots.specs.cached_slots.KeptLeaves.{AreSameEntries, IsLeafMore, leaf_of, with_leaf}
use Rattle.packed_slots.specs.declared.cached_slots.caches.TlbEntry.{TlbEntry}

-- once the leaf of a page is kept, what is kept was kept before or is that leaf
abbrev pub OneLeafMoreIsKept : Type 0
OneLeafMoreIsKept = (entries : List (Option TlbEntry)) (root page : ℕ) (found : Option ℕ) (place : ℕ) (kept : TlbEntry)
    → slice_index_or (with_leaf entries root page found) place None ≡ Some kept
    → (slice_index_or entries place None ≡ Some kept) ⊎ IsLeafMore root page found kept

-- a change of memory that leaves the two entries of a page leaves its leaf
abbrev pub LeavesStayWhereEntriesDo : Type 0
LeavesStayWhereEntriesDo = (old new : List ℕ) (root page : ℕ) → AreSameEntries old new root page → leaf_of new root page ≡ leaf_of old root page
