-- A substituted measure, one coefficient at a time, and numbers that fit.
use Rattle.std.specs.Prelude.{ℕ, ℤ, pos, negsuc, ◌+ℤ◌, ◌*ℤ◌, ◌≤ℤ◌, List, fold}
use Rattle.model.specs.declared.entries.TermEntry.{TermEntry}
use Rattle.model.specs.Acceptance.Measures.{Form, Variable}

-- the coefficient of a variable where each register is what a form says
abbrev pub coefficient_sum : (ℕ → Form) → Variable → ℤ → List TermEntry → ℤ
coefficient_sum value_of variable start terms = fold (λ z t. z +ℤ (t.coefficient *ℤ (value_of t.register).coefficient variable)) start terms

abbrev pub constant_sum : (ℕ → Form) → ℤ → List TermEntry → ℤ
constant_sum value_of start terms = fold (λ z t. z +ℤ (t.coefficient *ℤ (value_of t.register).constant)) start terms

-- within a bound on either side of 0
abbrev pub IsSmall : ℕ → ℤ → Type 0
IsSmall bound z = (negsuc bound ≤ℤ z) × (z ≤ℤ pos bound)
