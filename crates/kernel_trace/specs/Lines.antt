-- What is put of a trace.
use Rattle.std.specs.Prelude.{ℕ, ◌≡◌, ◌<◌, ◌⊎◌, ◌-◌, ◌^◌, ◌++◌, List, [], ◌∷◌, flat_map, Option}
use Rattle.model.specs.declared.labels.Label.{Label}
use Rattle.model.specs.Shared.Trace.{line_of}
use Rattle.sinks.specs.Sinks.{Grows}

-- the line of a label with its line feed
abbrev pub ended : Label → List ℕ
ended label = line_of label ++ 0x0A ∷ []

-- the lines of a trace
unfoldable pub lines_of : List Label → List ℕ
lines_of labels = flat_map ended labels

-- of what was held a front was put, and the rest is held
abbrev pub PutsFront : Option (List ℕ) → Option (List ℕ) → List ℕ → List ℕ → Type 0
PutsFront old new held rest = (front : List ℕ) × Grows old new front × (held ≡ front ++ rest)

-- the count of failures grew, or is at its end
abbrev pub Failed : ℕ → ℕ → Type 0
Failed old new = (old < new) ⊎ (new ≡ 2 ^ 64 - 1)
