-- What a kernel relies on and leaves true, beside what its objects always are.
use Rattle.std.specs.Prelude.{ℕ, List}
use Rattle.kernel_invariant.specs.Agreement.{Agrees}
use Rattle.model.specs.Kernel.Soundness.{IsSound}
use Rattle.model.specs.Kernel.State.{State}

-- the state is sound, and agrees with the bytes
pub record IsConsistent (s : State) (memory : List ℕ) : Type 0 where
  pub sound : IsSound s
  pub agrees : Agrees s memory
