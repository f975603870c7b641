-- The records of a certificate that are left, in the order of their points.
use Rattle.std.specs.Prelude.{ℕ, ◌≡◌, ◌==◌, ◌≤◌, ◌≤ℤ◌, ◌^◌, negsuc, Option, Some, None, List, [], ◌∷◌, length, slice_get, if◌then◌else◌}
use Rattle.model.specs.Images.Image.{StateRecord}

-- the next one, and those after it
abbrev pub left_of : Option StateRecord → List StateRecord → List StateRecord
left_of None records = []
left_of (Some r) records = r ∷ records

-- the next one, if it is that of a point
abbrev pub taken : ℕ → List StateRecord → Option StateRecord
taken point [] = None
taken point (r ∷ rs) = if r.header.point == point then Some r else None

-- what is left after that point
abbrev pub behind : ℕ → List StateRecord → List StateRecord
behind point [] = []
behind point (r ∷ rs) = if r.header.point == point then rs else r ∷ rs

-- the record is one that a certificate may have: its measure has few terms, and is not far below 0
abbrev pub IsLimited : StateRecord → Type 0
IsLimited r = (length r.terms ≤ 4) × (negsuc (2 ^ 62) ≤ℤ r.header.constant)

abbrev pub AreLimited : List StateRecord → Type 0
AreLimited rs = (k : ℕ) (r : StateRecord) → slice_get rs k ≡ Some r → IsLimited r
