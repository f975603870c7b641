-- Parts that deal with each interrupt of a line as soon as they are to.
use Rattle.std.specs.Prelude.{ℕ, ◌≤◌, ◌&&◌, All, Bool, List, nat_le, nat_lt}
use Rattle.response.specs.Rates.{Rate}
use Rattle.settled_threads.specs.Tested.{TendsOnceRested}
use Rattle.responses.specs.Bounds.{IsRow}
use Rattle.responses.specs.Numbers.{is_among}
use Rattle.responses.specs.declared.bounds.Bound.{Bound}
use Rattle.responses.specs.declared.rows.Row.{Row}
use Rattle.response_lines.specs.declared.keeping.KeptWithin.{KeptWithin}

-- a level with this bound deals with the line, of those that there are, within so many steps
abbrev pub is_soon : Bound → ℕ → ℕ → Bool
is_soon b number most = nat_lt number 64 && nat_le b.later most && is_among b.tended.items number

-- Once the threads of the priority and above have rested, the line is dealt with within so many steps, and these are no more than are asked.
pub record IsKept (bytes : List ℕ) (rates : List Rate) (k : KeptWithin) : Type 0 where
  pub deals : TendsOnceRested bytes k.priority rates k.steps k.line
  pub soon : k.steps ≤ k.most

-- so it is wherever the row holds
abbrev pub IsKeptBy : Row → KeptWithin → Type 0
IsKeptBy row k = (bytes : List ℕ) (rates : List Rate) → IsRow bytes rates row → IsKept bytes rates k

-- and wherever all of these rows do
abbrev pub IsKeptByAll : List Row → KeptWithin → Type 0
IsKeptByAll rows k = (bytes : List ℕ) (rates : List Rate) → All (IsRow bytes rates) rows → IsKept bytes rates k
