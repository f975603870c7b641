-- What an instruction makes of the ranges of registers: the range of its result, and the ranges on each way on.
-- RISC-V Unprivileged ISA, 2.4 to 2.6, for the results that have to lie in them.
use Rattle.std.specs.Prelude.{ℕ, zero, suc, ◌==◌, ◌+◌, ◌-◌, ◌*◌, ◌/◌, ◌%◌, ◌^◌, min, max, Bool, ◌&&◌, nat_le, nat_lt, ℤ, List, Option, Some, None}
use Rattle.std.specs.Prelude.{if◌then◌else◌}
use Rattle.model.specs.declared.ranges.Range.{Range}
use Rattle.model.specs.declared.instructions.Register.{Register}
use Rattle.model.specs.declared.instructions.LoadOp.{LoadOp}
use Rattle.model.specs.declared.instructions.LoadOp.TheVariants.{Lb, Lh, Lw, Lbu, Lhu}
use Rattle.model.specs.declared.instructions.ImmediateOp.{ImmediateOp}
use Rattle.model.specs.declared.instructions.ImmediateOp.TheVariants.{Addi, Slti, Sltiu, Xori, Ori, Andi}
use Rattle.model.specs.declared.instructions.ShiftOp.{ShiftOp}
use Rattle.model.specs.declared.instructions.ShiftOp.TheVariants.{Slli, Srli, Srai}
use Rattle.model.specs.declared.instructions.RegisterOp.{RegisterOp}
use Rattle.model.specs.declared.instructions.RegisterOp.TheVariants.{Add, Sub, Sll, Slt, Sltu, Xor, Srl, Sra, Or, And}
use Rattle.model.specs.declared.instructions.Instr.{Instr}
use Rattle.model.specs.declared.instructions.Instr.TheVariants.{Upper, Jal, Jalr, Branch, Load, Store, Immediate, Shift, Registers, Fence, Ecall, Ebreak}
use Rattle.model.specs.Machine.Instructions.{word_of}
use Rattle.model.specs.Machine.Effects.{upper_result, immediate_result, shift_result, register_result}
use Rattle.model.specs.Acceptance.Ranges.{full, single, range_of, with_range, moved}

-- ---- ranges of results

abbrev pub range : ℕ → ℕ → Range
range low high = record { low = low; high = high }

abbrev pub is_single : Range → Bool
is_single r = r.low == r.high

-- the range, if its ends are words
abbrev pub if_words : ℕ → ℕ → Range
if_words low high = if nat_lt high (2 ^ 32) then range low high else full

-- the least number with so many low bits, all 1, that is at least n; n has at most so many
unfoldable pub ones_within : ℕ → ℕ → ℕ
ones_within zero n = 0
ones_within (suc count) n = if nat_le (2 ^ count) n then 2 ^ suc count - 1 else ones_within count n

-- the least number of the form 2 ^ k - 1 that is at least n, a word
abbrev pub ones_above : ℕ → ℕ
ones_above n = ones_within 32 n

-- whether no sum, and no difference, of two values of these ranges wraps
abbrev pub sum_fits : Range → Range → Bool
sum_fits r s = nat_lt (r.high + s.high) (2 ^ 32)

abbrev pub difference_fits : Range → Range → Bool
difference_fits r s = nat_le s.high r.low

abbrev pub sum_range : Range → Range → Range
sum_range r s = if sum_fits r s then range (r.low + s.low) (r.high + s.high) else full

abbrev pub difference_range : Range → Range → Range
difference_range r s = if difference_fits r s then range (r.low - s.high) (r.high - s.low) else full

abbrev pub and_range : Range → Range → Range
and_range r s = range 0 (min r.high s.high)

abbrev pub or_range : Range → Range → Range
or_range r s = range (max r.low s.low) (ones_above (max r.high s.high))

abbrev pub xor_range : Range → Range → Range
xor_range r s = range 0 (ones_above (max r.high s.high))

-- by a shift of so many bits
abbrev pub left_range : Range → ℕ → Range
left_range r count = if_words (r.low * 2 ^ count) (r.high * 2 ^ count)

abbrev pub right_range : Range → ℕ → Range
right_range r count = range (r.low / 2 ^ count) (r.high / 2 ^ count)

-- where no value has its sign bit set
abbrev pub if_positive : Range → Range → Range
if_positive r result = if nat_lt r.high (2 ^ 31) then result else full

abbrev pub shift_range : ShiftOp → Range → ℕ → Range
shift_range Slli r count = left_range r count
shift_range Srli r count = right_range r count
shift_range Srai r count = if_positive r (right_range r count)

-- by a shift of as many bits as a range says in its low 5 bits: known where it is single
abbrev pub left_by : Range → Range → Range
left_by r s = if is_single s then left_range r (s.low % 2 ^ 5) else full

abbrev pub right_by : Range → Range → Range
right_by r s = if is_single s then right_range r (s.low % 2 ^ 5) else range 0 r.high

abbrev pub register_range : RegisterOp → Range → Range → Range
register_range Add r s = sum_range r s
register_range Sub r s = difference_range r s
register_range Sll r s = left_by r s
register_range Slt r s = range 0 1
register_range Sltu r s = range 0 1
register_range Xor r s = xor_range r s
register_range Srl r s = right_by r s
register_range Sra r s = if_positive r (right_by r s)
register_range Or r s = or_range r s
register_range And r s = and_range r s

abbrev pub immediate_range : ImmediateOp → Range → ℤ → Range
immediate_range Addi r immediate = moved r immediate
immediate_range Slti r immediate = range 0 1
immediate_range Sltiu r immediate = range 0 1
immediate_range Xori r immediate = xor_range r (single (word_of immediate))
immediate_range Ori r immediate = or_range r (single (word_of immediate))
immediate_range Andi r immediate = and_range r (single (word_of immediate))

abbrev pub load_range : LoadOp → Range
load_range Lb = full
load_range Lh = full
load_range Lw = full
load_range Lbu = range 0 255
load_range Lhu = range 0 65535

-- the value, where the sources have one each
abbrev pub value_or : Bool → ℕ → Range → Range
value_or is_known value otherwise = if is_known then single value else otherwise

-- the register that an instruction writes
abbrev pub destination : Instr → Option Register
destination (Upper op rd immediate) = Some rd
destination (Jal rd offset) = Some rd
destination (Jalr rd rs1 offset) = Some rd
destination (Branch op rs1 rs2 offset) = None
destination (Load op rd rs1 offset) = Some rd
destination (Store op rs1 rs2 offset) = None
destination (Immediate op rd rs1 immediate) = Some rd
destination (Shift op rd rs1 amount) = Some rd
destination (Registers op rd rs1 rs2) = Some rd
destination Fence = None
destination Ecall = None
destination Ebreak = None

-- What the instruction at a pc, which is no branch, makes of the ranges: the register that it writes, if it writes one, gets the
-- range of its result. An instruction that is no load has its value where each source is a single value.
unfoldable pub ranges_after : ℕ → Instr → List Range → List Range
ranges_after pc (Upper op rd immediate) ranges = with_range ranges rd (single (upper_result op pc immediate))
ranges_after pc (Jal rd offset) ranges = with_range ranges rd (single ((pc + 4) % 2 ^ 32))
ranges_after pc (Jalr rd rs1 offset) ranges = with_range ranges rd (single ((pc + 4) % 2 ^ 32))
ranges_after pc (Load op rd rs1 offset) ranges = with_range ranges rd (load_range op)
ranges_after pc (Immediate op rd rs1 immediate) ranges =
    let r = range_of ranges rs1 in
    with_range ranges rd (value_or (is_single r) (immediate_result op r.low immediate) (immediate_range op r immediate))
ranges_after pc (Shift op rd rs1 amount) ranges =
    let r = range_of ranges rs1 in
    with_range ranges rd (value_or (is_single r) (shift_result op r.low amount) (shift_range op r amount))
ranges_after pc (Registers op rd rs1 rs2) ranges =
    let r = range_of ranges rs1 in
    let s = range_of ranges rs2 in
    with_range ranges rd (value_or (is_single r && is_single s) (register_result op r.low s.low) (register_range op r s))
ranges_after pc _ ranges = ranges
