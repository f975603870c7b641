-- Lists of numbers: slots, or threads by their offsets.
use Rattle.std.specs.Prelude.{ℕ, ◌==◌, ◌+◌, not, List, [], ◌∷◌, filter, if◌then◌else◌}

-- how often a number occurs in a list
abbrev pub times_in : List ℕ → ℕ → ℕ
times_in [] wanted = 0
times_in (n ∷ rest) wanted = if n == wanted then times_in rest wanted + 1 else times_in rest wanted

-- a list without a number
abbrev pub without : ℕ → List ℕ → List ℕ
without gone numbers = filter (λ n. not (n == gone)) numbers
