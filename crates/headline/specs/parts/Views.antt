-- Two views of memory that name the same places, which hold the same bytes.
use Rattle.std.specs.Prelude.{ℕ, ◌≡◌, Some}
use Rattle.model.specs.declared.instructions.Access.{Access}
use Rattle.model.specs.declared.instructions.Instr.{Instr}
use Rattle.model.specs.Machine.Effects.{effect}
use Rattle.model.specs.Machine.ProgramMemory.{Content, RegisterFile}

pub record SameView (Inside : ℕ → Type 0) (c d : Content) : Type 0 where
  pub place : (access : Access) (address : ℕ) → c.place access address ≡ d.place access address
  pub named : (access : Access) (address place : ℕ) → c.place access address ≡ Some place → Inside place
  pub byte : (place : ℕ) → Inside place → c.byte place ≡ d.byte place

-- an instruction does the same on both
pub record DoesSame (Inside : ℕ → Type 0) (r : RegisterFile) (c d : Content) (instr : Instr) : Type 0 where
  pub registers : (effect r c instr).registers ≡ (effect r d instr).registers
  pub exec : (effect r c instr).exec ≡ (effect r d instr).exec
  pub view : SameView Inside (effect r c instr).content (effect r d instr).content
