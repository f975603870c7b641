-- What a kernel holds beside the registers of one thread.
use Rattle.std.specs.Prelude.{ℕ, []}
use Rattle.model.specs.Kernel.Messages.{with_registers}
use Rattle.model.specs.Kernel.State.{State}
use Rattle.model.specs.Machine.ProgramMemory.{RegisterFile}

-- no registers
abbrev pub blank : RegisterFile
blank = record { pc = 0; words = [] }

-- the state without the thread's registers, the thread, and which kernel it is
pub record BesideRegisters : Type 0 where
  pub state : State
  pub thread : ℕ
  pub kernel : ℕ

abbrev pub beside_registers : State → ℕ → ℕ → BesideRegisters
beside_registers s thread kernel = record { state = with_registers s thread blank; thread = thread; kernel = kernel }
