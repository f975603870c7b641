-- What is decoded is an instruction whose fields are in range.
use Rattle.std.proofs.Common.{ℕ, ◌≡◌, Option, Some, None, IfSome, subst}
use Rattle.std.proofs.lemmas.Option.{same_Some}
use Rattle.model.specs.Machine.Instructions.{IsInstr, Spells}
use Rattle.model.specs.declared.instructions.Instr.{Instr}
use Rattle.model.specs.declared.instructions.Instr.TheVariants.{Upper, Jal, Jalr, Branch, Load, Store, Immediate, Shift, Registers, Fence, Ecall, Ebreak}

is-instr : (word : ℕ) (instr : Instr) → Spells word instr → IsInstr instr
is-instr word (Upper op rd immediate) spells = spells.0
is-instr word (Jal rd offset) spells = spells.0
is-instr word (Jalr rd rs1 offset) spells = spells.0
is-instr word (Branch op rs1 rs2 offset) spells = spells.0
is-instr word (Load op rd rs1 offset) spells = spells.0
is-instr word (Store op rs1 rs2 offset) spells = spells.0
is-instr word (Immediate op rd rs1 immediate) spells = spells.0
is-instr word (Shift op rd rs1 amount) spells = spells.0
is-instr word (Registers op rd rs1 rs2) spells = spells.0
is-instr word Fence spells = tt
is-instr word Ecall spells = tt
is-instr word Ebreak spells = tt

pub valid-instr : (word : ℕ) (decoded : Option Instr) → IfSome decoded (Spells word) → (i : Instr) → decoded ≡ Some i → IsInstr i
valid-instr word None spells i is = absurd (let clash : ◌≡◌ {A = Option Instr} None (Some i) = is in cc)
valid-instr word (Some j) spells i is = subst IsInstr (same_Some j i is) (is-instr word j spells)
