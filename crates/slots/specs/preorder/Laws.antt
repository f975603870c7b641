-- The laws of this crate on rows in preorder, on chains of slots, and on walks along them.
use Rattle.std.specs.Prelude.{ℕ, ◌≡◌, ◌≢◌, ◌==◌, ◌+◌, ◌<◌, ◌≤◌, ◌⊎◌, ◌&&◌, nat_lt, Some, None, false, List, [], ◌∷◌, filter, length}
use Rattle.std.specs.Option.{option_map_or}
use Rattle.model.proofs.Depths.{adopted_parent}
use Rattle.model.specs.Capabilities.Orders.{first_of, next_after}
use Rattle.model.specs.Capabilities.Slots.{depth_within}
use Rattle.model.specs.Kernel.State.{put}
use Rattle.model.specs.Shared.Lists.{times_in, without}
use Rattle.slots.specs.preorder.Chains.{IsChain, IsLinked, Links, back_above, if_deeper, lowered_depths, put_after, put_at, rows_linked}
use Rattle.slots.specs.preorder.Preorder.{AreDeep, Rises, Row, descends_by, first_row, first_row, parents_of, put_behind, renamed, renamed_slot, rows_of}
use Rattle.slots.specs.preorder.Preorder.{run_behind, slots_of, taken_out}
use Rattle.slots.specs.preorder.Runs.{AreRuns, HasKey, Keys, MayFollow, NoneHas, behind_run}

-- ---- parents

-- a row right after its parent's has that parent, and the others keep theirs
pub record PutBehindHasParent : Type 0 where
  pub own : (rows : List Row) (parent slot : ℕ) → 0 < rows_of rows parent → rows_of rows slot ≡ 0 → parents_of (put_behind parent slot rows) slot ≡ Some parent
  pub others : (rows : List Row) (parent slot s : ℕ) → Rises 0 rows → s ≢ slot → parents_of (put_behind parent slot rows) s ≡ parents_of rows s

-- a first row has no parent, and the others keep theirs
pub record FirstHasNone : Type 0 where
  pub own : (rows : List Row) (slot : ℕ) → parents_of (first_row slot ∷ rows) slot ≡ None
  pub others : (rows : List Row) (slot s : ℕ) → Rises 0 rows → s ≢ slot → parents_of (first_row slot ∷ rows) s ≡ parents_of rows s

-- the children of a row that is taken out get its parent, and the others keep theirs
abbrev pub TakenOutIsAdopted : Type 0
TakenOutIsAdopted = (rows : List Row) (gone s : ℕ) → Rises 0 rows → s ≢ gone → rows_of rows gone ≤ 1
    → parents_of (taken_out gone rows) s ≡ adopted_parent gone (parents_of rows gone) (parents_of rows s)

-- a renamed row has its parent under its new name, and its children have the new name for a parent
abbrev pub RenamedIsAdopted : Type 0
RenamedIsAdopted = (rows : List Row) (from to s : ℕ) → rows_of rows to ≡ 0 → s ≢ to
    → parents_of (renamed from to rows) (renamed_slot from to s) ≡ adopted_parent from (Some to) (parents_of rows s)

-- a slot without a row has no parent
abbrev pub NoRowNoParent : Type 0
NoRowNoParent = (rows : List Row) (s : ℕ) → rows_of rows s ≡ 0 → parents_of rows s ≡ None

-- a row's depth is that of its slot by the map of parents
abbrev pub RowsHaveTheirDepths : Type 0
RowsHaveTheirDepths = (rows : List Row) (depths : ℕ → ℕ) (s : ℕ) → Rises 0 rows → AreDeep depths rows → 0 < rows_of rows s → depths s ≤ 256
    → depth_within 256 (parents_of rows) s ≡ depths s

-- the descendants of a slot are the run after its row
abbrev pub DescendantsAreTheRunBehind : Type 0
DescendantsAreTheRunBehind = (rows : List Row) (depths : ℕ → ℕ) (root : ℕ) → Rises 0 rows → AreDeep depths rows → ((s : ℕ) → rows_of rows s ≤ 1)
    → ((s : ℕ) → 0 < rows_of rows s → depths s ≤ 256) → filter (descends_by (parents_of rows) root) (slots_of rows) ≡ slots_of (run_behind root rows)

-- ---- what changes keep

-- rows rise by one at most after each change
pub record ChangesKeepRising : Type 0 where
  pub put : (rows : List Row) (parent slot : ℕ) → Rises 0 rows → Rises 0 (put_behind parent slot rows)
  pub first : (rows : List Row) (slot : ℕ) → Rises 0 rows → Rises 0 (first_row slot ∷ rows)
  pub taken : (rows : List Row) (gone : ℕ) → Rises 0 rows → Rises 0 (taken_out gone rows)
  pub moved : (rows : List Row) (from to : ℕ) → Rises 0 rows → Rises 0 (renamed from to rows)

-- the slots in their order after each change
pub record ChangesOrderSlots : Type 0 where
  pub put : (rows : List Row) (parent slot : ℕ) → slots_of (put_behind parent slot rows) ≡ put_after parent slot (slots_of rows)
  pub taken : (rows : List Row) (gone : ℕ) → rows_of rows gone ≤ 1 → slots_of (taken_out gone rows) ≡ without gone (slots_of rows)
  pub moved : (rows : List Row) (from to : ℕ) → rows_of rows from ≤ 1 → from ≢ to →
      slots_of (renamed from to rows) ≡ without from (put_after from to (slots_of rows))

-- a slot that is put after one of a list occurs in it once more, and the others as often as before
pub record PutAfterAddsOne : Type 0 where
  pub own : (slots : List ℕ) (before slot : ℕ) → 0 < times_in slots before → times_in (put_after before slot slots) slot ≡ times_in slots slot + 1
  pub others : (slots : List ℕ) (before slot s : ℕ) → s ≢ slot → times_in (put_after before slot slots) s ≡ times_in slots s

-- ---- depths

-- the new depths are those of the rows after each change, if they are the old ones but for what changed
pub record ChangesKeepDepths : Type 0 where
  pub put : (rows : List Row) (old new : ℕ → ℕ) (parent slot : ℕ) → AreDeep old rows → ((s : ℕ) → 0 < rows_of rows s → new s ≡ old s)
      → new slot ≡ old parent + 1 → AreDeep new (put_behind parent slot rows)
  pub first : (rows : List Row) (old new : ℕ → ℕ) (slot : ℕ) → AreDeep old rows → ((s : ℕ) → 0 < rows_of rows s → new s ≡ old s) → new slot ≡ 0
      → AreDeep new (first_row slot ∷ rows)
  pub moved : (rows : List Row) (old new : ℕ → ℕ) (from to : ℕ) → AreDeep old rows → ((s : ℕ) → 0 < rows_of rows s → s ≢ from → new s ≡ old s)
      → new to ≡ old from → AreDeep new (renamed from to rows)

-- the run after a row is lowered along the links; what has no row keeps its depth
pub record LoweringKeepsDepths : Type 0 where
  pub taken : (rows : List Row) (next previous : Links) (depths : ℕ → ℕ) (gone n : ℕ) → IsLinked next previous depths rows → 0 < rows_of rows gone
      → length rows ≤ n → AreDeep (lowered_depths next (depths gone) n (next gone) depths) (taken_out gone rows)
  pub own : (rows : List Row) (next previous : Links) (depths : ℕ → ℕ) (d gone n : ℕ) → IsLinked next previous depths rows → 0 < rows_of rows gone
      → lowered_depths next d n (next gone) depths gone ≡ depths gone
  pub beside : (rows : List Row) (next previous : Links) (depths : ℕ → ℕ) (d gone n s : ℕ) → IsLinked next previous depths rows → 0 < rows_of rows gone
      → rows_of rows s ≡ 0 → lowered_depths next d n (next gone) depths s ≡ depths s

-- ---- chains

abbrev pub PutAfterKeepsChain : Type 0
PutAfterKeepsChain = (slots : List ℕ) (next previous : Links) (at slot : ℕ) → IsChain next previous None slots → ((s : ℕ) → times_in slots s ≤ 1)
    → times_in slots slot ≡ 0 → 0 < times_in slots at
    → IsChain (put (put next at (Some slot)) slot (next at)) (put (put_at previous (next at) (Some slot)) slot (Some at)) None (put_after at slot slots)

abbrev pub FirstKeepsChain : Type 0
FirstKeepsChain = (slots : List ℕ) (next previous : Links) (slot : ℕ) → IsChain next previous None slots → ((s : ℕ) → times_in slots s ≤ 1)
    → times_in slots slot ≡ 0 → IsChain (put next slot (first_of slots)) (put (put_at previous (first_of slots) (Some slot)) slot None) None (slot ∷ slots)

abbrev pub WithoutKeepsChain : Type 0
WithoutKeepsChain = (slots : List ℕ) (next previous : Links) (gone : ℕ) → IsChain next previous None slots → ((s : ℕ) → times_in slots s ≤ 1)
    → 0 < times_in slots gone → IsChain (put_at next (previous gone) (next gone)) (put_at previous (next gone) (previous gone)) None (without gone slots)

-- ---- walks

-- the rows are found along the links
abbrev pub LinksLeadThroughRows : Type 0
LinksLeadThroughRows = (rows : List Row) (next previous : Links) (depths : ℕ → ℕ) (n : ℕ) → IsLinked next previous depths rows → length rows ≤ n
    → rows_linked next depths n (first_of (slots_of rows)) ≡ rows

-- distinct slots below a number are at most as many
abbrev pub RowsAreFew : Type 0
RowsAreFew = (rows : List Row) (n : ℕ) → ((s : ℕ) → rows_of rows s ≤ 1) → ((s : ℕ) → 0 < rows_of rows s → s < n) → length rows ≤ n

-- the slot after another is the linked one
abbrev pub NextIsLinked : Type 0
NextIsLinked = (rows : List Row) (next previous : Links) (depths : ℕ → ℕ) (s : ℕ) → IsLinked next previous depths rows → 0 < rows_of rows s
    → next_after (slots_of rows) s ≡ next s

-- and among the descendants of a root it is the linked one, if that is deeper than the root
pub record NextBelowIsLinked : Type 0 where
  pub first : (rows : List Row) (next previous : Links) (depths : ℕ → ℕ) (root : ℕ) → IsLinked next previous depths rows → 0 < rows_of rows root
      → first_of (slots_of (run_behind root rows)) ≡ if_deeper depths (depths root) (next root)
  pub behind : (rows : List Row) (next previous : Links) (depths : ℕ → ℕ) (root s : ℕ) → IsLinked next previous depths rows
      → 0 < times_in (slots_of (run_behind root rows)) s → next_after (slots_of (run_behind root rows)) s ≡ if_deeper depths (depths root) (next s)
  pub none : (rows : List Row) (root : ℕ) → rows_of rows root ≡ 0 → run_behind root rows ≡ []

-- the parent of a slot is the first one back that is less deep
abbrev pub ParentIsBack : Type 0
ParentIsBack = (rows : List Row) (next previous : Links) (depths : ℕ → ℕ) (s n : ℕ) → IsLinked next previous depths rows → 0 < rows_of rows s → length rows ≤ n
    → parents_of rows s ≡ back_above previous depths n (depths s) (previous s)

-- a slot descends from another if the first one back that is as deep as that, or less deep, is that
abbrev pub DescentIsBack : Type 0
DescentIsBack = (rows : List Row) (next previous : Links) (depths : ℕ → ℕ) (root s n : ℕ) → IsLinked next previous depths rows
    → ((x : ℕ) → 0 < rows_of rows x → depths x ≤ 256) → 0 < rows_of rows s → length rows ≤ n
    → descends_by (parents_of rows) root s
    ≡ (nat_lt (depths root) (depths s) && option_map_or (λ x. x == root) (back_above previous depths n (depths root + 1) (previous s)) false)

-- ---- runs

-- the runs stay after each change; a list keeps them under keys that are the same at its slots
pub record ChangesKeepRuns (K : Type 0) : Type 0 where
  pub same : (rows : List Row) (old new : Keys K) → ((s : ℕ) → 0 < rows_of rows s → new s ≡ old s) → AreRuns old (slots_of rows) → AreRuns new (slots_of rows)
  pub put : (rows : List Row) (keys : Keys K) (parent slot : ℕ) → MayFollow keys parent slot (slots_of rows) → AreRuns keys (slots_of rows)
      → AreRuns keys (slots_of (put_behind parent slot rows))
  pub first : (rows : List Row) (keys : Keys K) (slot : ℕ) → ((key : K) → keys slot ≡ Some key → NoneHas keys key (slots_of rows)) →
      AreRuns keys (slots_of rows)
      → AreRuns keys (slots_of (first_row slot ∷ rows))
  pub taken : (rows : List Row) (keys : Keys K) (gone : ℕ) → rows_of rows gone ≤ 1 → AreRuns keys (slots_of rows) →
      AreRuns keys (slots_of (taken_out gone rows))
  pub moved : (rows : List Row) (keys : Keys K) (from to : ℕ) → rows_of rows from ≤ 1 → from ≢ to → keys to ≡ keys from → AreRuns keys (slots_of rows)
      → AreRuns keys (slots_of (renamed from to rows))

-- another slot has the key of a slot exactly if one of its neighbours has
pub record NeighboursTell (K : Type 0) : Type 0 where
  pub another : (rows : List Row) (keys : Keys K) (key : K) (next previous : Links) (depths : ℕ → ℕ) (s other : ℕ) → IsLinked next previous depths rows
      → AreRuns keys (slots_of rows) → 0 < rows_of rows s → keys s ≡ Some key → 0 < rows_of rows other → other ≢ s → keys other ≡ Some key
      → HasKey keys key (previous s) ⊎ HasKey keys key (next s)
  pub next : (rows : List Row) (next previous : Links) (depths : ℕ → ℕ) (s other : ℕ) → IsLinked next previous depths rows → 0 < rows_of rows s
      → next s ≡ Some other → (0 < rows_of rows other) × (other ≢ s)
  pub previous : (rows : List Row) (next previous : Links) (depths : ℕ → ℕ) (s other : ℕ) → IsLinked next previous depths rows → 0 < rows_of rows s
      → previous s ≡ Some other → (0 < rows_of rows other) × (other ≢ s)

-- a key that is among the descendants of a root, and at a slot beside them too, is at the root or at the first slot after them
abbrev pub RunsEndBeside : Type 0 → Type 0
RunsEndBeside K = (rows : List Row) (keys : Keys K) (key : K) (root s other : ℕ) → AreRuns keys (slots_of rows)
    → 0 < times_in (slots_of (run_behind root rows)) s → keys s ≡ Some key
    → 0 < rows_of rows other → times_in (slots_of (run_behind root rows)) other ≡ 0 → keys other ≡ Some key
    → (keys root ≡ Some key) ⊎ HasKey keys key (first_of (slots_of (behind_run root rows)))
