-- Lists of slots that are linked in both directions.
use Rattle.std.specs.Prelude.{ℕ, zero, suc, ◌≡◌, ◌==◌, ◌-◌, ◌≤◌, nat_lt, if◌then◌else◌, Option, Some, None, List, [], ◌∷◌}
use Rattle.model.specs.Capabilities.Orders.{first_of}
use Rattle.model.specs.Kernel.State.{put}
use Rattle.slots.specs.preorder.Preorder.{AreDeep, Rises, Row, rows_of, slots_of}

-- the slot that each slot is linked to, if there is one
abbrev pub Links : Type 0
Links = ℕ → Option ℕ

-- the slots are after `before`, one after another
abbrev pub IsChain : Links → Links → Option ℕ → List ℕ → Type 0
IsChain next previous before [] = Unit
IsChain next previous before (slot ∷ rest) = (previous slot ≡ before) × (next slot ≡ first_of rest) × IsChain next previous (Some slot) rest

-- another link at a place, if there is one
abbrev pub put_at : Links → Option ℕ → Option ℕ → Links
put_at links None value = links
put_at links (Some place) value = put links place value

-- a slot right after another
abbrev pub put_after : ℕ → ℕ → List ℕ → List ℕ
put_after before slot [] = []
put_after before slot (s ∷ rest) = if s == before then s ∷ slot ∷ rest else s ∷ put_after before slot rest

-- the list of so many slots that links lead through from a slot on
abbrev pub rows_linked : Links → (ℕ → ℕ) → ℕ → Option ℕ → List Row
rows_linked next depths zero at = []
rows_linked next depths (suc n) None = []
rows_linked next depths (suc n) (Some slot) = (record { slot = slot; depth = depths slot }) ∷ rows_linked next depths n (next slot)

-- a slot, if there is one and it is deeper than a depth
abbrev pub if_deeper : (ℕ → ℕ) → ℕ → Option ℕ → Option ℕ
if_deeper depths depth None = None
if_deeper depths depth (Some slot) = if nat_lt depth (depths slot) then Some slot else None

-- the first slot from one on, back along so many links, that is less deep than a depth
abbrev pub back_above : Links → (ℕ → ℕ) → ℕ → ℕ → Option ℕ → Option ℕ
back_above previous depths zero depth at = None
back_above previous depths (suc n) depth None = None
back_above previous depths (suc n) depth (Some slot) =
    if nat_lt (depths slot) depth then Some slot else back_above previous depths n depth (previous slot)

-- depths of which those of a run, from a slot on along the links, are one less
abbrev pub lowered_depths : Links → ℕ → ℕ → Option ℕ → (ℕ → ℕ) → ℕ → ℕ
lowered_depths next depth zero at depths = depths
lowered_depths next depth (suc n) None depths = depths
lowered_depths next depth (suc n) (Some slot) depths =
    if nat_lt depth (depths slot) then lowered_depths next depth n (next slot) (put depths slot (depths slot - 1)) else depths

-- what a list of rows is linked as
pub record IsLinked (next previous : Links) (depths : ℕ → ℕ) (rows : List Row) : Type 0 where
  pub chain : IsChain next previous None (slots_of rows)
  pub deep : AreDeep depths rows
  pub rises : Rises 0 rows
  pub once : (s : ℕ) → rows_of rows s ≤ 1
