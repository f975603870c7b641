-- What instructions keep: registers, bytes and addresses stay in their sizes.
use Rattle.std.proofs.Common.{ℕ, ◌≡◌, ◌^◌, ◌<◌, Some}
use Rattle.model.specs.declared.instructions.Access.{Access}
use Rattle.model.specs.declared.instructions.Exec.TheVariants.{Memory}
use Rattle.model.specs.declared.instructions.Instr.{Instr}
use Rattle.model.specs.Machine.Decoding.{decoded}
use Rattle.model.specs.Machine.Effects.{Effect, effect}
use Rattle.model.specs.Machine.ProgramMemory.{Content, RegisterFile}
use Rattle.soundness.specs.Running.{RegistersAreSound}

pub record EffectIsSound (e : Effect) : Type 0 where
  pub registers : RegistersAreSound e.registers
  pub bytes : (place : ℕ) → e.content.byte place < 2 ^ 8
  pub addresses : (address : ℕ) (access : Access) → e.exec ≡ Memory address access → address < 2 ^ 32

pub record InstructionsKeep : Type 0 where
  pub effects : (word : ℕ) (instruction : Instr) (r : RegisterFile) (content : Content) → decoded word ≡ Some instruction → RegistersAreSound r
      → ((place : ℕ) → content.byte place < 2 ^ 8) → EffectIsSound (effect r content instruction)
