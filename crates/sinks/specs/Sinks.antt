-- What a sink takes of a piece, and how it counts those of which it takes nothing.
use Rattle.std.specs.Prelude.{ℕ, ◌≡◌, ◌+◌, ◌-◌, ◌^◌, ◌≤◌, ◌==◌, Bool, true, false, min, List, [], ◌∷◌, ◌++◌, length, take, Option, Some, None, Result, Ok, Err}
use Rattle.std.specs.Prelude.{if◌then◌else◌}
use Rattle.sinks.specs.declared.sink.SinkFault.{SinkFault}

-- the bytes, where they are known, grew by so many
abbrev pub Grows : Option (List ℕ) → Option (List ℕ) → List ℕ → Type 0
Grows None new bytes = Unit {0}
Grows (Some xs) None bytes = ⊥
Grows (Some xs) (Some ys) bytes = ys ≡ xs ++ bytes

-- a front of the piece was taken, or nothing
abbrev pub TakesSome : Option (List ℕ) → Option (List ℕ) → List ℕ → Result ℕ SinkFault → Type 0
TakesSome old new piece (Ok count) = (count ≤ length piece) × Grows old new (take count piece)
TakesSome old new piece (Err fault) = Grows old new []

-- whether nothing was taken of a piece that is not empty
abbrev pub took_nothing : List ℕ → Result ℕ SinkFault → Bool
took_nothing piece (Err fault) = true
took_nothing [] (Ok count) = false
took_nothing (byte ∷ bytes) (Ok count) = count == 0

-- a count of failures and one more, which stays at 2 ^ 64 - 1
abbrev pub one_more : ℕ → ℕ
one_more failures = min (failures + 1) (2 ^ 64 - 1)

-- the count after a piece
abbrev pub failures_after : List ℕ → Result ℕ SinkFault → ℕ → ℕ
failures_after piece result failures = if took_nothing piece result then one_more failures else failures

-- the bytes, where they are known, grew by a beginning of these
abbrev pub GrowsByBeginning : Option (List ℕ) → Option (List ℕ) → List ℕ → Type 0
GrowsByBeginning old new bytes = (count : ℕ) × Grows old new (take count bytes)
