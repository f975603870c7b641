-- The ready list holds no thread twice.
use Rattle.std.specs.Prelude.{ℕ, ◌≡◌, ◌<◌, ◌≤◌, List}
use Rattle.model.specs.Shared.Lists.{times_in}

-- no thread occurs twice in the list of one priority, or in those of two
pub record HoldsNoneTwice (ready : ℕ → List ℕ) : Type 0 where
  pub once : (thread priority : ℕ) → times_in (ready priority) thread ≤ 1
  pub one_priority : (thread first second : ℕ) → 0 < times_in (ready first) thread → 0 < times_in (ready second) thread → first ≡ second
