-- The type of object that Retype is asked for, of a size that it may have.
-- seL4 Reference Manual, "Kernel Memory Allocation", seL4_Untyped_Retype; type numbers and sizes are our own.
use Rattle.std.specs.Prelude.{ℕ, Result, Ok, Err}
use Rattle.model.specs.Kernel.Arguments.{◌>>=◌, check, wanted}
use Rattle.model.specs.Kernel.Retype.{NewObject, is_large_enough, is_small_enough, type_of}
use Rattle.model.specs.declared.errors.KError.{KError}
use Rattle.model.specs.declared.errors.KError.TheVariants.{InvalidArgument, RangeError}

-- what there is, in other words
abbrev pub in_words : {A B : Type 0} → (A → B) → Result A KError → Result B KError
in_words f (Ok x) = Ok (f x)
in_words f (Err error) = Err error

abbrev pub asked_type : ℕ → ℕ → Result NewObject KError
asked_type kind size = do
  new ← wanted (type_of kind size) InvalidArgument
  _ ← check (is_large_enough new) InvalidArgument
  _ ← check (is_small_enough new) RangeError
  Ok new
