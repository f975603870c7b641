-- The variables that a form may count, by what the code keeps of them.
use Rattle.std.specs.Prelude.{ℕ, Bool, false, slice_index_or}
use Rattle.model.specs.Acceptance.Measures.{Variable, Before, After}
use Rattle.measure.specs.declared.variables.Variable.{Variable as Kept}
use Rattle.measure.specs.declared.variables.Variable.TheVariants as kept
use Rattle.measure.specs.declared.variables.Variables.{Variables}

abbrev pub variable_of : Kept → Variable
variable_of (kept.Before register) = Before register
variable_of (kept.After register) = After register

abbrev pub register_of : Variable → ℕ
register_of (Before register) = register
register_of (After register) = register

abbrev pub is_named : Variables → Variable → Bool
is_named variables (Before register) = slice_index_or variables.before register false
is_named variables (After register) = slice_index_or variables.after register false
