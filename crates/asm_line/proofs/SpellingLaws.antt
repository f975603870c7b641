-- The word of an instruction is the one that spells it, and of the words of FENCE one.
use Rattle.std.proofs.Common.{◌≡◌, ◌⊎◌, ℕ, inl, inr, refl, arith}
use Rattle.model.specs.declared.instructions.Instr.{Instr}
use Rattle.model.specs.declared.instructions.Instr.TheVariants.{Upper, Jal, Jalr, Branch, Load, Store, Immediate, Shift, Registers, Fence, Ecall, Ebreak}
use Rattle.model.specs.Machine.Instructions.{IsInstr, Spells}
use Rattle.asm_line.specs.Instructions.{spelling}

pub spelling-spells : (instr : Instr) → IsInstr instr → Spells (spelling instr) instr
unfolding spelling
spelling-spells (Upper op rd immediate) h = (h, refl)
spelling-spells (Jal rd offset) h = (h, refl)
spelling-spells (Jalr rd rs1 offset) h = (h, refl)
spelling-spells (Branch op rs1 rs2 offset) h = (h, refl)
spelling-spells (Load op rd rs1 offset) h = (h, refl)
spelling-spells (Store op rs1 rs2 offset) h = (h, refl)
spelling-spells (Immediate op rd rs1 immediate) h = (h, refl)
spelling-spells (Shift op rd rs1 amount) h = (h, refl)
spelling-spells (Registers op rd rs1 rs2) h = (h, refl)
spelling-spells Fence h = (omega arith, refl, refl)
spelling-spells Ecall h = refl
spelling-spells Ebreak h = refl

pub spelled-once : (word : ℕ) (instr : Instr) → Spells word instr → (instr ≡ Fence) ⊎ (word ≡ spelling instr)
unfolding spelling
spelled-once word (Upper op rd immediate) h = inr h.1
spelled-once word (Jal rd offset) h = inr h.1
spelled-once word (Jalr rd rs1 offset) h = inr h.1
spelled-once word (Branch op rs1 rs2 offset) h = inr h.1
spelled-once word (Load op rd rs1 offset) h = inr h.1
spelled-once word (Store op rs1 rs2 offset) h = inr h.1
spelled-once word (Immediate op rd rs1 immediate) h = inr h.1
spelled-once word (Shift op rd rs1 amount) h = inr h.1
spelled-once word (Registers op rd rs1 rs2) h = inr h.1
spelled-once word Fence h = inl refl
spelled-once word Ecall h = inr h
spelled-once word Ebreak h = inr h
