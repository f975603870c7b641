-- How the instructions of RV32I are spelled in words (RISC-V Unprivileged ISA, chapter 2).
use Rattle.std.specs.Prelude.{◌≡◌, ℕ, ◌+◌, ◌*◌, ◌/◌, ◌%◌, ◌^◌, ◌<◌, ℤ, pos, negsuc, ◌≤ℤ◌}
use Rattle.std.specs.Int.{w32, cast_signed, cast_unsigned}
use Rattle.model.specs.declared.instructions.Register.{Register}
use Rattle.model.specs.declared.instructions.UpperOp.{UpperOp}
use Rattle.model.specs.declared.instructions.UpperOp.TheVariants.{Lui, Auipc}
use Rattle.model.specs.declared.instructions.BranchOp.{BranchOp}
use Rattle.model.specs.declared.instructions.BranchOp.TheVariants.{Beq, Bne, Blt, Bge, Bltu, Bgeu}
use Rattle.model.specs.declared.instructions.LoadOp.{LoadOp}
use Rattle.model.specs.declared.instructions.LoadOp.TheVariants.{Lb, Lh, Lw, Lbu, Lhu}
use Rattle.model.specs.declared.instructions.StoreOp.{StoreOp}
use Rattle.model.specs.declared.instructions.StoreOp.TheVariants.{Sb, Sh, Sw}
use Rattle.model.specs.declared.instructions.ImmediateOp.{ImmediateOp}
use Rattle.model.specs.declared.instructions.ImmediateOp.TheVariants.{Addi, Slti, Sltiu, Xori, Ori, Andi}
use Rattle.model.specs.declared.instructions.ShiftOp.{ShiftOp}
use Rattle.model.specs.declared.instructions.ShiftOp.TheVariants.{Slli, Srli, Srai}
use Rattle.model.specs.declared.instructions.RegisterOp.{RegisterOp}
use Rattle.model.specs.declared.instructions.RegisterOp.TheVariants.{Add, Sub, Sll, Slt, Sltu, Xor, Srl, Sra, Or, And}
use Rattle.model.specs.declared.instructions.Instr.{Instr}
use Rattle.model.specs.declared.instructions.Instr.TheVariants.{Upper, Jal, Jalr, Branch, Load, Store, Immediate, Shift, Registers, Fence, Ecall, Ebreak}

-- ---- the fields of a word (2.2, 2.3)

-- `count` bits of a number from bit `low` up
abbrev pub bits : ℕ → ℕ → ℕ → ℕ
bits n low count = n / 2 ^ low % 2 ^ count

-- a word as a signed number in two's complement, and back
abbrev pub signed : ℕ → ℤ
signed n = cast_signed w32 n

abbrev pub word_of : ℤ → ℕ
word_of z = cast_unsigned w32 z

-- a register's number fits its five bits
abbrev pub IsRegister : Register → Type 0
IsRegister x = x.0 < 2 ^ 5

-- an I-type or S-type immediate has 12 bits, with its sign
abbrev pub IsImmediate : ℤ → Type 0
IsImmediate z = (negsuc 2047 ≤ℤ z) × (z ≤ℤ pos 2047)

-- a B-type offset has 13 bits and a J-type offset 21, with their sign; the lowest is 0
abbrev pub IsBranchOffset : ℤ → Type 0
IsBranchOffset z = (negsuc 4095 ≤ℤ z) × (z ≤ℤ pos 4094) × (bits (word_of z) 0 1 ≡ 0)

abbrev pub IsJumpOffset : ℤ → Type 0
IsJumpOffset z = (negsuc 1048575 ≤ℤ z) × (z ≤ℤ pos 1048574) × (bits (word_of z) 0 1 ≡ 0)

-- the formats: the opcode is in bits 0 to 6, rd in 7 to 11, funct3 in 12 to 14, rs1 in 15 to 19, rs2 in 20 to 24,
-- funct7 in 25 to 31, and the immediate in the places that are left
abbrev pub r_type : ℕ → Register → ℕ → Register → ℕ → ℕ → ℕ
r_type opcode rd funct3 rs1 rs2 funct7 =
    opcode + 2 ^ 7 * rd.0 + 2 ^ 12 * funct3 + 2 ^ 15 * rs1.0 + 2 ^ 20 * rs2 + 2 ^ 25 * funct7

abbrev pub i_type : ℕ → Register → ℕ → Register → ℤ → ℕ
i_type opcode rd funct3 rs1 immediate =
    opcode + 2 ^ 7 * rd.0 + 2 ^ 12 * funct3 + 2 ^ 15 * rs1.0 + 2 ^ 20 * bits (word_of immediate) 0 12

abbrev pub s_type : ℕ → ℕ → Register → Register → ℤ → ℕ
s_type opcode funct3 rs1 rs2 immediate =
    let n = word_of immediate in
    opcode + 2 ^ 7 * bits n 0 5 + 2 ^ 12 * funct3 + 2 ^ 15 * rs1.0 + 2 ^ 20 * rs2.0 + 2 ^ 25 * bits n 5 7

abbrev pub b_type : ℕ → ℕ → Register → Register → ℤ → ℕ
b_type opcode funct3 rs1 rs2 offset =
    let n = word_of offset in
    opcode + 2 ^ 7 * bits n 11 1 + 2 ^ 8 * bits n 1 4 + 2 ^ 12 * funct3 + 2 ^ 15 * rs1.0 + 2 ^ 20 * rs2.0
    + 2 ^ 25 * bits n 5 6 + 2 ^ 31 * bits n 12 1

abbrev pub u_type : ℕ → Register → ℕ → ℕ
u_type opcode rd immediate = opcode + 2 ^ 7 * rd.0 + 2 ^ 12 * immediate

abbrev pub j_type : ℕ → Register → ℤ → ℕ
j_type opcode rd offset =
    let n = word_of offset in
    opcode + 2 ^ 7 * rd.0 + 2 ^ 12 * bits n 12 8 + 2 ^ 20 * bits n 11 1 + 2 ^ 21 * bits n 1 10 + 2 ^ 31 * bits n 20 1

-- ---- the opcodes (RV32/64G Instruction Set Listings)

abbrev pub upper_opcode : UpperOp → ℕ
upper_opcode Lui = 0x37
upper_opcode Auipc = 0x17

abbrev pub branch_funct3 : BranchOp → ℕ
branch_funct3 Beq = 0
branch_funct3 Bne = 1
branch_funct3 Blt = 4
branch_funct3 Bge = 5
branch_funct3 Bltu = 6
branch_funct3 Bgeu = 7

abbrev pub load_funct3 : LoadOp → ℕ
load_funct3 Lb = 0
load_funct3 Lh = 1
load_funct3 Lw = 2
load_funct3 Lbu = 4
load_funct3 Lhu = 5

abbrev pub store_funct3 : StoreOp → ℕ
store_funct3 Sb = 0
store_funct3 Sh = 1
store_funct3 Sw = 2

abbrev pub immediate_funct3 : ImmediateOp → ℕ
immediate_funct3 Addi = 0
immediate_funct3 Slti = 2
immediate_funct3 Sltiu = 3
immediate_funct3 Xori = 4
immediate_funct3 Ori = 6
immediate_funct3 Andi = 7

abbrev pub shift_funct3 : ShiftOp → ℕ
shift_funct3 Slli = 1
shift_funct3 Srli = 5
shift_funct3 Srai = 5

abbrev pub shift_funct7 : ShiftOp → ℕ
shift_funct7 Slli = 0
shift_funct7 Srli = 0
shift_funct7 Srai = 0x20

abbrev pub register_funct3 : RegisterOp → ℕ
register_funct3 Add = 0
register_funct3 Sub = 0
register_funct3 Sll = 1
register_funct3 Slt = 2
register_funct3 Sltu = 3
register_funct3 Xor = 4
register_funct3 Srl = 5
register_funct3 Sra = 5
register_funct3 Or = 6
register_funct3 And = 7

abbrev pub register_funct7 : RegisterOp → ℕ
register_funct7 Add = 0
register_funct7 Sub = 0x20
register_funct7 Sll = 0
register_funct7 Slt = 0
register_funct7 Sltu = 0
register_funct7 Xor = 0
register_funct7 Srl = 0
register_funct7 Sra = 0x20
register_funct7 Or = 0
register_funct7 And = 0

-- ---- the spelling

-- the fields lie in their ranges
abbrev pub IsInstr : Instr → Type 0
IsInstr (Upper op rd immediate) = IsRegister rd × (immediate < 2 ^ 20)
IsInstr (Jal rd offset) = IsRegister rd × IsJumpOffset offset
IsInstr (Jalr rd rs1 offset) = IsRegister rd × IsRegister rs1 × IsImmediate offset
IsInstr (Branch op rs1 rs2 offset) = IsRegister rs1 × IsRegister rs2 × IsBranchOffset offset
IsInstr (Load op rd rs1 offset) = IsRegister rd × IsRegister rs1 × IsImmediate offset
IsInstr (Store op rs1 rs2 offset) = IsRegister rs1 × IsRegister rs2 × IsImmediate offset
IsInstr (Immediate op rd rs1 immediate) = IsRegister rd × IsRegister rs1 × IsImmediate immediate
IsInstr (Shift op rd rs1 amount) = IsRegister rd × IsRegister rs1 × (amount < 2 ^ 5)
IsInstr (Registers op rd rs1 rs2) = IsRegister rd × IsRegister rs1 × IsRegister rs2
IsInstr Fence = Unit {0}
IsInstr Ecall = Unit {0}
IsInstr Ebreak = Unit {0}

-- The word represents the instruction. Each has one word but for FENCE, whose fields rd, rs1 and immediate are ignored
-- (2.7).
abbrev pub Spells : ℕ → Instr → Type 0
Spells word (Upper op rd immediate) = IsInstr (Upper op rd immediate) × (word ≡ u_type (upper_opcode op) rd immediate)
Spells word (Jal rd offset) = IsInstr (Jal rd offset) × (word ≡ j_type 0x6F rd offset)
Spells word (Jalr rd rs1 offset) = IsInstr (Jalr rd rs1 offset) × (word ≡ i_type 0x67 rd 0 rs1 offset)
Spells word (Branch op rs1 rs2 offset) =
    IsInstr (Branch op rs1 rs2 offset) × (word ≡ b_type 0x63 (branch_funct3 op) rs1 rs2 offset)
Spells word (Load op rd rs1 offset) =
    IsInstr (Load op rd rs1 offset) × (word ≡ i_type 0x03 rd (load_funct3 op) rs1 offset)
Spells word (Store op rs1 rs2 offset) =
    IsInstr (Store op rs1 rs2 offset) × (word ≡ s_type 0x23 (store_funct3 op) rs1 rs2 offset)
Spells word (Immediate op rd rs1 immediate) =
    IsInstr (Immediate op rd rs1 immediate) × (word ≡ i_type 0x13 rd (immediate_funct3 op) rs1 immediate)
Spells word (Shift op rd rs1 amount) =
    IsInstr (Shift op rd rs1 amount) × (word ≡ r_type 0x13 rd (shift_funct3 op) rs1 amount (shift_funct7 op))
Spells word (Registers op rd rs1 rs2) =
    IsInstr (Registers op rd rs1 rs2) × (word ≡ r_type 0x33 rd (register_funct3 op) rs1 rs2.0 (register_funct7 op))
Spells word Fence = (word < 2 ^ 32) × (bits word 0 7 ≡ 0x0F) × (bits word 12 3 ≡ 0)
Spells word Ecall = word ≡ 0x00000073
Spells word Ebreak = word ≡ 0x00100073
