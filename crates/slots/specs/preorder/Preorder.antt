-- Slots in preorder with their depths: the parent of each is the last one before it with a smaller depth.
-- Knuth, The Art of Computer Programming 1, 2.3.3, "Other Representations of Trees": preorder sequences with levels.
use Rattle.std.specs.Prelude.{ℕ, zero, suc, ◌≡◌, ◌==◌, ◌+◌, ◌-◌, ◌≤◌, nat_lt, Bool, if◌then◌else◌, Option, Some, None, List, [], ◌∷◌}
use Rattle.model.specs.Capabilities.Slots.{depth_within, descends_within}
use Rattle.model.specs.Kernel.State.{put}
use Rattle.model.specs.Shared.Lists.{times_in}

pub record Row : Type 0 where
  pub slot : ℕ
  pub depth : ℕ

-- the slots of the rows, in their order
abbrev pub slots_of : List Row → List ℕ
slots_of [] = []
slots_of (r ∷ rest) = r.slot ∷ slots_of rest

-- the last slot so far at each depth
abbrev pub Path : Type 0
Path = ℕ → Option ℕ

abbrev pub above : Path → ℕ → Option ℕ
above path zero = None
above path (suc d) = path d

abbrev pub no_path : Path
no_path i = None

-- the parent of a slot among the rows after a path
abbrev pub parent_from : Path → List Row → ℕ → Option ℕ
parent_from path [] s = None
parent_from path (r ∷ rest) s =
    if r.slot == s then above path r.depth else parent_from (put path r.depth (Some r.slot)) rest s

-- the parents of slots in preorder
abbrev pub parents_of : List Row → ℕ → Option ℕ
parents_of rows = parent_from no_path rows

-- each row is at most one deeper than the one before it
abbrev pub Rises : ℕ → List Row → Type 0
Rises bound [] = Unit
Rises bound (r ∷ rest) = (r.depth ≤ bound) × Rises (r.depth + 1) rest

-- how often a slot has a row
abbrev pub rows_of : List Row → ℕ → ℕ
rows_of rows s = times_in (slots_of rows) s

-- the depths of the rows are those of a map
abbrev pub AreDeep : (ℕ → ℕ) → List Row → Type 0
AreDeep depths [] = Unit
AreDeep depths (r ∷ rest) = (depths r.slot ≡ r.depth) × AreDeep depths rest

-- a new row at the front, which has no parent
abbrev pub first_row : ℕ → Row
first_row slot = record { slot = slot; depth = 0 }

-- a new row right after its parent's, one deeper
abbrev pub put_behind : ℕ → ℕ → List Row → List Row
put_behind parent slot [] = []
put_behind parent slot (r ∷ rest) =
    if r.slot == parent then r ∷ (record { slot = slot; depth = r.depth + 1 }) ∷ rest else r ∷ put_behind parent slot rest

-- the rows deeper than a depth, up to the first that is not
abbrev pub run : ℕ → List Row → List Row
run depth [] = []
run depth (r ∷ rest) = if nat_lt depth r.depth then r ∷ run depth rest else []

-- the run of a slot's descendants, right after its row
abbrev pub run_behind : ℕ → List Row → List Row
run_behind root [] = []
run_behind root (r ∷ rest) = if r.slot == root then run r.depth rest else run_behind root rest

-- the run deeper than a depth, each row one less deep, and the rows after it
abbrev pub lowered : ℕ → List Row → List Row
lowered depth [] = []
lowered depth (r ∷ rest) =
    if nat_lt depth r.depth then (record { slot = r.slot; depth = r.depth - 1 }) ∷ lowered depth rest else r ∷ rest

-- without a row, whose descendants become one less deep
abbrev pub taken_out : ℕ → List Row → List Row
taken_out slot [] = []
taken_out slot (r ∷ rest) = if r.slot == slot then lowered r.depth rest else r ∷ taken_out slot rest

-- one slot under another name
abbrev pub renamed_slot : ℕ → ℕ → ℕ → ℕ
renamed_slot from to slot = if slot == from then to else slot

abbrev pub renamed : ℕ → ℕ → List Row → List Row
renamed from to [] = []
renamed from to (r ∷ rest) = (record { slot = renamed_slot from to r.slot; depth = r.depth }) ∷ renamed from to rest

-- whether a slot descends from another by a map of parents
abbrev pub descends_by : (ℕ → Option ℕ) → ℕ → ℕ → Bool
descends_by parents root s = descends_within (depth_within 256 parents s) parents root s
