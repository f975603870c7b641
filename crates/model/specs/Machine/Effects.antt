-- What each instruction of RV32I does (RISC-V Unprivileged ISA, chapter 2).
use Rattle.std.specs.Prelude.{ℕ, ◌+◌, ◌-◌, ◌*◌, ◌/◌, ◌%◌, ◌^◌, ◌==◌, nat_lt, int_lt, Bool, not, bit_and, bit_or, bit_xor, ℤ, Result, Ok, Err, if◌then◌else◌}
use Rattle.std.specs.Int.{w8, w16, cast_signed, int_shr}
use Rattle.model.specs.declared.instructions.Register.{Register}
use Rattle.model.specs.declared.instructions.UpperOp.{UpperOp}
use Rattle.model.specs.declared.instructions.UpperOp.TheVariants.{Lui, Auipc}
use Rattle.model.specs.declared.instructions.BranchOp.{BranchOp}
use Rattle.model.specs.declared.instructions.BranchOp.TheVariants.{Beq, Bne, Blt, Bge, Bltu, Bgeu}
use Rattle.model.specs.declared.instructions.LoadOp.{LoadOp}
use Rattle.model.specs.declared.instructions.LoadOp.TheVariants.{Lb, Lh, Lw, Lbu, Lhu}
use Rattle.model.specs.declared.instructions.StoreOp.{StoreOp}
use Rattle.model.specs.declared.instructions.StoreOp.TheVariants.{Sb, Sh, Sw}
use Rattle.model.specs.declared.instructions.ImmediateOp.{ImmediateOp}
use Rattle.model.specs.declared.instructions.ImmediateOp.TheVariants.{Addi, Slti, Sltiu, Xori, Ori, Andi}
use Rattle.model.specs.declared.instructions.ShiftOp.{ShiftOp}
use Rattle.model.specs.declared.instructions.ShiftOp.TheVariants.{Slli, Srli, Srai}
use Rattle.model.specs.declared.instructions.RegisterOp.{RegisterOp}
use Rattle.model.specs.declared.instructions.RegisterOp.TheVariants.{Add, Sub, Sll, Slt, Sltu, Xor, Srl, Sra, Or, And}
use Rattle.model.specs.declared.instructions.Instr.{Instr}
use Rattle.model.specs.declared.instructions.Instr.TheVariants.{Upper, Jal, Jalr, Branch, Load, Store, Immediate, Shift, Registers, Fence, Ecall, Ebreak}
use Rattle.model.specs.declared.instructions.AccessSize.{AccessSize}
use Rattle.model.specs.declared.instructions.AccessSize.TheVariants.{Byte, Halfword, Word}
use Rattle.model.specs.declared.instructions.Access.{Access}
use Rattle.model.specs.declared.instructions.Access.TheVariants as accesses
use Rattle.model.specs.declared.instructions.MemoryFault.{MemoryFault}
use Rattle.model.specs.declared.instructions.Cause.{Cause}
use Rattle.model.specs.declared.instructions.Cause.TheVariants.{Illegal, Misaligned}
use Rattle.model.specs.declared.instructions.Exec.{Exec}
use Rattle.model.specs.declared.instructions.Exec.TheVariants as outcomes
use Rattle.model.specs.Machine.Instructions.{signed, word_of}
use Rattle.model.specs.Machine.ProgramMemory.{RegisterFile, read, write, Content, loaded, stored}

-- ---- the numbers in fault messages

abbrev pub access_number : Access → ℕ
access_number accesses.Load = 1
access_number accesses.Store = 2
access_number accesses.Fetch = 3

abbrev pub cause_number : Cause → ℕ
cause_number Illegal = 1
cause_number Misaligned = 2

-- ---- the results of operations (2.4 to 2.6)

-- a sum of a word and a signed number, which wraps
abbrev pub plus : ℕ → ℤ → ℕ
plus n z = (n + word_of z) % 2 ^ 32

-- 1 if the test holds, else 0
abbrev pub one_if : Bool → ℕ
one_if test = if test then 1 else 0

abbrev pub upper_result : UpperOp → ℕ → ℕ → ℕ
upper_result Lui pc immediate = 2 ^ 12 * immediate
upper_result Auipc pc immediate = (pc + 2 ^ 12 * immediate) % 2 ^ 32

abbrev pub is_taken : BranchOp → ℕ → ℕ → Bool
is_taken Beq a b = a == b
is_taken Bne a b = not (a == b)
is_taken Blt a b = int_lt (signed a) (signed b)
is_taken Bge a b = not (int_lt (signed a) (signed b))
is_taken Bltu a b = nat_lt a b
is_taken Bgeu a b = not (nat_lt a b)

abbrev pub load_size : LoadOp → AccessSize
load_size Lb = Byte
load_size Lh = Halfword
load_size Lw = Word
load_size Lbu = Byte
load_size Lhu = Halfword

abbrev pub load_result : LoadOp → ℕ → ℕ
load_result Lb n = word_of (cast_signed w8 n)
load_result Lh n = word_of (cast_signed w16 n)
load_result Lw n = n
load_result Lbu n = n
load_result Lhu n = n

abbrev pub store_size : StoreOp → AccessSize
store_size Sb = Byte
store_size Sh = Halfword
store_size Sw = Word

abbrev pub immediate_result : ImmediateOp → ℕ → ℤ → ℕ
immediate_result Addi n immediate = plus n immediate
immediate_result Slti n immediate = one_if (int_lt (signed n) immediate)
immediate_result Sltiu n immediate = one_if (nat_lt n (word_of immediate))
immediate_result Xori n immediate = bit_xor n (word_of immediate)
immediate_result Ori n immediate = bit_or n (word_of immediate)
immediate_result Andi n immediate = bit_and n (word_of immediate)

abbrev pub shift_result : ShiftOp → ℕ → ℕ → ℕ
shift_result Slli n amount = n * 2 ^ amount % 2 ^ 32
shift_result Srli n amount = n / 2 ^ amount
shift_result Srai n amount = word_of (int_shr (signed n) amount)

abbrev pub register_result : RegisterOp → ℕ → ℕ → ℕ
register_result Add a b = (a + b) % 2 ^ 32
register_result Sub a b = (a + (2 ^ 32 - b)) % 2 ^ 32
register_result Sll a b = shift_result Slli a (b % 2 ^ 5)
register_result Slt a b = one_if (int_lt (signed a) (signed b))
register_result Sltu a b = one_if (nat_lt a b)
register_result Xor a b = bit_xor a b
register_result Srl a b = shift_result Srli a (b % 2 ^ 5)
register_result Sra a b = shift_result Srai a (b % 2 ^ 5)
register_result Or a b = bit_or a b
register_result And a b = bit_and a b

-- ---- the effect

-- registers and memory after an instruction, and what came of it
pub record Effect : Type 0 where
  pub registers : RegisterFile
  pub content : Content
  pub exec : Exec

-- nothing changes
abbrev pub stays : RegisterFile → Content → Exec → Effect
stays r content exec = record { registers = r; content = content; exec = exec }

-- the next instruction is the one at the pc of these registers
abbrev pub goes_on : RegisterFile → Content → Effect
goes_on r content = record { registers = r; content = content; exec = outcomes.Next }

-- the address after the instruction
abbrev pub next_pc : RegisterFile → ℕ
next_pc r = (r.pc + 4) % 2 ^ 32

abbrev pub advanced : RegisterFile → RegisterFile
advanced r = record r { pc = next_pc r }

-- Goes on at the target, with the registers that the jump has written. A misaligned target traps, and no register is
-- written (2.5).
abbrev pub jumps : RegisterFile → Content → RegisterFile → ℕ → Effect
jumps r content written target =
    if target % 4 == 0
    then goes_on (record written { pc = target }) content
    else stays r content (outcomes.Trap Misaligned)

abbrev pub branches : RegisterFile → Content → Bool → ℕ → Effect
branches r content taken target = if taken then jumps r content r target else goes_on (advanced r) content

-- a load that faults writes no register, and a store that faults no byte
abbrev pub loads : RegisterFile → Content → LoadOp → Register → Result ℕ MemoryFault → Effect
loads r content op rd (Ok n) = goes_on (advanced (write r rd (load_result op n))) content
loads r content op rd (Err fault) = stays r content (outcomes.Memory fault.address fault.access)

abbrev pub stores : RegisterFile → Content → Result Content MemoryFault → Effect
stores r content (Ok after) = goes_on (advanced r) after
stores r content (Err fault) = stays r content (outcomes.Memory fault.address fault.access)

unfoldable pub effect : RegisterFile → Content → Instr → Effect
effect r content (Upper op rd immediate) = goes_on (advanced (write r rd (upper_result op r.pc immediate))) content
effect r content (Jal rd offset) = jumps r content (write r rd (next_pc r)) (plus r.pc offset)
effect r content (Jalr rd rs1 offset) =
    let target = plus (read r rs1) offset in
    jumps r content (write r rd (next_pc r)) (target - target % 2)
effect r content (Branch op rs1 rs2 offset) =
    branches r content (is_taken op (read r rs1) (read r rs2)) (plus r.pc offset)
effect r content (Load op rd rs1 offset) =
    loads r content op rd (loaded content accesses.Load (load_size op) (plus (read r rs1) offset))
effect r content (Store op rs1 rs2 offset) =
    stores r content (stored content (store_size op) (plus (read r rs1) offset) (read r rs2))
effect r content (Immediate op rd rs1 immediate) =
    goes_on (advanced (write r rd (immediate_result op (read r rs1) immediate))) content
effect r content (Shift op rd rs1 amount) =
    goes_on (advanced (write r rd (shift_result op (read r rs1) amount))) content
effect r content (Registers op rd rs1 rs2) =
    goes_on (advanced (write r rd (register_result op (read r rs1) (read r rs2)))) content
effect r content Fence = goes_on (advanced r) content
effect r content Ecall = stays r content outcomes.Ecall
effect r content Ebreak = stays r content (outcomes.Trap Illegal)
