-- The instruction that a word spells, as a function of the word: the spelling read backwards (RISC-V Unprivileged ISA,
-- chapter 2).
use Rattle.std.specs.Prelude.{ℕ, ◌+◌, ◌*◌, ◌^◌, ◌==◌, nat_lt, ◌&&◌, ◌||◌, ℤ, pos, ◌-ℤ◌, [], ◌∷◌, Option, Some, None, option_map, if◌then◌else◌}
use Rattle.std.specs.List.{find}
use Rattle.model.specs.declared.instructions.Register.{Register}
use Rattle.model.specs.declared.instructions.UpperOp.{UpperOp}
use Rattle.model.specs.declared.instructions.UpperOp.TheVariants.{Lui, Auipc}
use Rattle.model.specs.declared.instructions.BranchOp.{BranchOp}
use Rattle.model.specs.declared.instructions.BranchOp.TheVariants.{Beq, Bne, Blt, Bge, Bltu, Bgeu}
use Rattle.model.specs.declared.instructions.LoadOp.{LoadOp}
use Rattle.model.specs.declared.instructions.LoadOp.TheVariants.{Lb, Lh, Lw, Lbu, Lhu}
use Rattle.model.specs.declared.instructions.StoreOp.{StoreOp}
use Rattle.model.specs.declared.instructions.StoreOp.TheVariants.{Sb, Sh, Sw}
use Rattle.model.specs.declared.instructions.ImmediateOp.{ImmediateOp}
use Rattle.model.specs.declared.instructions.ImmediateOp.TheVariants.{Addi, Slti, Sltiu, Xori, Ori, Andi}
use Rattle.model.specs.declared.instructions.ShiftOp.{ShiftOp}
use Rattle.model.specs.declared.instructions.ShiftOp.TheVariants.{Slli, Srli, Srai}
use Rattle.model.specs.declared.instructions.RegisterOp.{RegisterOp}
use Rattle.model.specs.declared.instructions.RegisterOp.TheVariants.{Add, Sub, Sll, Slt, Sltu, Xor, Srl, Sra, Or, And}
use Rattle.model.specs.declared.instructions.Instr.{Instr}
use Rattle.model.specs.declared.instructions.Instr.TheVariants.{Upper, Jal, Jalr, Branch, Load, Store, Immediate, Shift, Registers, Fence, Ecall, Ebreak}
use Rattle.model.specs.Machine.Instructions.{bits, branch_funct3, load_funct3, store_funct3, immediate_funct3, shift_funct3, shift_funct7, register_funct3}
use Rattle.model.specs.Machine.Instructions.{register_funct7}

-- a number in two's complement whose highest bit is worth `sign`
abbrev pub sign_extended : ℕ → ℕ → ℤ
sign_extended n sign = if nat_lt n sign then pos n else pos n -ℤ pos (2 * sign)

abbrev pub register_at : ℕ → ℕ → Register
register_at word low = record { 0 = bits word low 5 }

abbrev pub rd_of : ℕ → Register
rd_of word = register_at word 7

abbrev pub rs1_of : ℕ → Register
rs1_of word = register_at word 15

abbrev pub rs2_of : ℕ → Register
rs2_of word = register_at word 20

abbrev pub funct3_of : ℕ → ℕ
funct3_of word = bits word 12 3

abbrev pub funct7_of : ℕ → ℕ
funct7_of word = bits word 25 7

abbrev pub i_immediate : ℕ → ℤ
i_immediate word = sign_extended (bits word 20 12) (2 ^ 11)

abbrev pub s_immediate : ℕ → ℤ
s_immediate word = sign_extended (bits word 7 5 + 2 ^ 5 * bits word 25 7) (2 ^ 11)

abbrev pub b_offset : ℕ → ℤ
b_offset word =
    sign_extended (2 * bits word 8 4 + 2 ^ 5 * bits word 25 6 + 2 ^ 11 * bits word 7 1 + 2 ^ 12 * bits word 31 1) (2 ^ 12)

abbrev pub j_offset : ℕ → ℤ
j_offset word =
    sign_extended (2 * bits word 21 10 + 2 ^ 11 * bits word 20 1 + 2 ^ 12 * bits word 12 8 + 2 ^ 20 * bits word 31 1) (2 ^ 20)

abbrev pub branch_op : ℕ → Option BranchOp
branch_op funct3 = find (λ op. branch_funct3 op == funct3) (Beq ∷ Bne ∷ Blt ∷ Bge ∷ Bltu ∷ Bgeu ∷ [])

abbrev pub load_op : ℕ → Option LoadOp
load_op funct3 = find (λ op. load_funct3 op == funct3) (Lb ∷ Lh ∷ Lw ∷ Lbu ∷ Lhu ∷ [])

abbrev pub store_op : ℕ → Option StoreOp
store_op funct3 = find (λ op. store_funct3 op == funct3) (Sb ∷ Sh ∷ Sw ∷ [])

abbrev pub immediate_op : ℕ → Option ImmediateOp
immediate_op funct3 =
    find (λ op. immediate_funct3 op == funct3) (Addi ∷ Slti ∷ Sltiu ∷ Xori ∷ Ori ∷ Andi ∷ [])

abbrev pub shift_op : ℕ → ℕ → Option ShiftOp
shift_op funct3 funct7 =
    find (λ op. (shift_funct3 op == funct3) && (shift_funct7 op == funct7)) (Slli ∷ Srli ∷ Srai ∷ [])

abbrev pub register_op : ℕ → ℕ → Option RegisterOp
register_op funct3 funct7 =
    let ops = Add ∷ Sub ∷ Sll ∷ Slt ∷ Sltu ∷ Xor ∷ Srl ∷ Sra ∷ Or ∷ And ∷ [] in
    find (λ op. (register_funct3 op == funct3) && (register_funct7 op == funct7)) ops

abbrev pub decoded_upper : UpperOp → ℕ → Instr
decoded_upper op word = Upper op (rd_of word) (bits word 12 20)

abbrev pub decoded_jal : ℕ → Instr
decoded_jal word = Jal (rd_of word) (j_offset word)

abbrev pub decoded_jalr : ℕ → Option Instr
decoded_jalr word = if funct3_of word == 0 then Some (Jalr (rd_of word) (rs1_of word) (i_immediate word)) else None

abbrev pub decoded_branch : ℕ → Option Instr
decoded_branch word =
    option_map (λ op. Branch op (rs1_of word) (rs2_of word) (b_offset word)) (branch_op (funct3_of word))

abbrev pub decoded_load : ℕ → Option Instr
decoded_load word =
    option_map (λ op. Load op (rd_of word) (rs1_of word) (i_immediate word)) (load_op (funct3_of word))

abbrev pub decoded_store : ℕ → Option Instr
decoded_store word =
    option_map (λ op. Store op (rs1_of word) (rs2_of word) (s_immediate word)) (store_op (funct3_of word))

abbrev pub decoded_shift : ℕ → Option Instr
decoded_shift word =
    option_map (λ op. Shift op (rd_of word) (rs1_of word) (bits word 20 5)) (shift_op (funct3_of word) (funct7_of word))

abbrev pub decoded_immediate : ℕ → Option Instr
decoded_immediate word =
    if (funct3_of word == 1) || (funct3_of word == 5)
    then decoded_shift word
    else option_map (λ op. Immediate op (rd_of word) (rs1_of word) (i_immediate word)) (immediate_op (funct3_of word))

abbrev pub decoded_registers : ℕ → Option Instr
decoded_registers word =
    option_map (λ op. Registers op (rd_of word) (rs1_of word) (rs2_of word)) (register_op (funct3_of word) (funct7_of word))

abbrev pub decoded_fence : ℕ → Option Instr
decoded_fence word = if funct3_of word == 0 then Some Fence else None

abbrev pub decoded_system : ℕ → Option Instr
decoded_system word =
    if word == 0x00000073 then Some Ecall else
    if word == 0x00100073 then Some Ebreak else None

-- The instruction that a word below 2 ^ 32 spells, if it spells one. `rv32_isa::decode` is proved to answer this, and to
-- answer an instruction exactly where `Spells` holds.
unfoldable pub decoded : ℕ → Option Instr
decoded word =
    let opcode = bits word 0 7 in
    if opcode == 0x37 then Some (decoded_upper Lui word) else
    if opcode == 0x17 then Some (decoded_upper Auipc word) else
    if opcode == 0x6F then Some (decoded_jal word) else
    if opcode == 0x67 then decoded_jalr word else
    if opcode == 0x63 then decoded_branch word else
    if opcode == 0x03 then decoded_load word else
    if opcode == 0x23 then decoded_store word else
    if opcode == 0x13 then decoded_immediate word else
    if opcode == 0x33 then decoded_registers word else
    if opcode == 0x0F then decoded_fence word else
    if opcode == 0x73 then decoded_system word else None
