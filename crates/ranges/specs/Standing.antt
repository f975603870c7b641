-- Where a machine is after an instruction.
use Rattle.std.specs.Prelude.{ℕ, ◌≡◌, ◌⊎◌, ◌<◌, ◌^◌, Bool, true, false, Option, Some, None, length}
use Rattle.model.specs.declared.instructions.Instr.{Instr}
use Rattle.model.specs.declared.instructions.Instr.TheVariants.{Jalr}
use Rattle.model.specs.declared.instructions.Register.{Register}
use Rattle.model.specs.Acceptance.ThreadInvariants.{LieWithin}
use Rattle.model.specs.Machine.ProgramMemory.{Content, RegisterFile, read}
use Rattle.ranges.specs.declared.edges.Edge.{Edge as Way}
use Rattle.ranges.specs.declared.edges.Edges.{Edges as Ways}

-- there are 32 registers, which hold words, and memory holds bytes
pub record AreWords (r : RegisterFile) (content : Content) : Type 0 where
  pub count : length r.words ≡ 32
  pub words : (x : Register) → read r x < 2 ^ 32
  pub bytes : (place : ℕ) → content.byte place < 2 ^ 8

-- a jump to an address that a register says
abbrev pub is_computed_jump : Instr → Bool
is_computed_jump (Jalr rd rs1 offset) = true
is_computed_jump _ = false

-- at the target of a way, with the registers in its ranges
abbrev pub StandsOn : RegisterFile → Option Way → Type 0
StandsOn r None = ⊥
StandsOn r (Some way) = (r.pc ≡ way.target) × LieWithin r way.bounds

-- on one of the ways
abbrev pub TakesWay : RegisterFile → Ways → Type 0
TakesWay r ways = StandsOn r ways.fall_through ⊎ StandsOn r ways.taken
