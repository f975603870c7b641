-- What a step leaves to the threads that it does not move.
use Rattle.std.specs.Prelude.{ℕ, ◌≡◌, Bool, false, Some}
use Rattle.model.specs.Kernel.State.{State, ThreadObject, ThreadState}
use Rattle.headline.specs.moves.Moving.{GoesOnAs, WaitsOn}

-- a thread that was there before, with this status
pub record HasBeen (s : State) (thread : ℕ) (new : ThreadState) : Type 0 where
  pub old : ThreadState
  pub was : s.objects thread ≡ Some (ThreadObject old)
  pub status : new.status ≡ old.status

pub record OthersRest (s after : State) (moves : ℕ → Bool) : Type 0 where
  pub goes : (thread : ℕ) (old : ThreadState) → moves thread ≡ false → s.objects thread ≡ Some (ThreadObject old) → GoesOnAs after thread old
  -- no thread is new
  pub been : (thread : ℕ) (new : ThreadState) → moves thread ≡ false → after.objects thread ≡ Some (ThreadObject new) → HasBeen s thread new
  pub queues : (thread : ℕ) → moves thread ≡ false → WaitsOn s after thread
