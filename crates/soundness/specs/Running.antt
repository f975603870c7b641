-- The thread that runs, and what its registers hold.
use Rattle.std.specs.Prelude.{ℕ, ◌≡◌, ◌^◌, ◌<◌, true, Some, All, length}
use Rattle.model.specs.Kernel.Kinds.{kind_at}
use Rattle.model.specs.Kernel.Retype.{NewThread}
use Rattle.model.specs.Kernel.Scheduling.{is_runnable}
use Rattle.model.specs.Kernel.State.{State, thread_at}
use Rattle.model.specs.Machine.ProgramMemory.{RegisterFile}

pub record IsRunning (s : State) (thread : ℕ) : Type 0 where
  pub kind : kind_at s thread ≡ Some NewThread
  pub runs : is_runnable (thread_at s thread).status ≡ true

pub record RegistersAreSound (r : RegisterFile) : Type 0 where
  pub count : length r.words ≡ 32
  pub words : All (λ word. word < 2 ^ 32) r.words
  pub pc : r.pc < 2 ^ 32
