-- Measures: a whole number that falls with each instruction, as a constant and a sum of coefficients times registers.
use Rattle.std.specs.Prelude.{ℕ, ◌==◌, ◌^◌, Bool, false, ◌&&◌, int_le, int_lt, ℤ, pos, negsuc, ◌+ℤ◌, ◌-ℤ◌, ◌*ℤ◌, List, map, Option, Some}
use Rattle.std.specs.Prelude.{None, if◌then◌else◌}
use Rattle.std.specs.Option.{option_map_or}
use Rattle.std.specs.List.{list_any, fold, range_with_len}
use Rattle.std.specs.Int.{is_negative}
use Rattle.model.specs.declared.entries.TermEntry.{TermEntry}
use Rattle.model.specs.declared.ranges.Range.{Range}
use Rattle.model.specs.declared.instructions.Register.{Register}
use Rattle.model.specs.declared.instructions.ImmediateOp.{ImmediateOp}
use Rattle.model.specs.declared.instructions.ImmediateOp.TheVariants.{Addi, Slti, Sltiu, Xori, Ori, Andi}
use Rattle.model.specs.declared.instructions.RegisterOp.{RegisterOp}
use Rattle.model.specs.declared.instructions.RegisterOp.TheVariants.{Add, Sub, Sll, Slt, Sltu, Xor, Srl, Sra, Or, And}
use Rattle.model.specs.declared.instructions.Instr.{Instr}
use Rattle.model.specs.declared.instructions.Instr.TheVariants.{Upper, Jal, Jalr, Branch, Load, Store, Immediate, Shift, Registers, Fence, Ecall, Ebreak}
use Rattle.model.specs.Machine.ProgramMemory.{RegisterFile, read}
use Rattle.model.specs.Acceptance.Ranges.{range_of}
use Rattle.model.specs.Acceptance.RangeRules.{destination, difference_fits, is_single, sum_fits}

pub record Measure : Type 0 where
  pub constant : ℤ
  pub terms : List TermEntry

abbrev pub register_numbered : ℕ → Register
register_numbered number = record { 0 = number }

abbrev pub sum_of : List ℤ → ℤ
sum_of ns = fold (λ n m. n +ℤ m) (pos 0) ns

-- the measure's value
abbrev pub measured : Measure → RegisterFile → ℤ
measured m r = m.constant +ℤ sum_of (map (λ t. t.coefficient *ℤ pos (read r (register_numbered t.register))) m.terms)

-- whether it has a term of this register
abbrev pub has_term : Measure → ℕ → Bool
has_term m register = list_any (λ t. t.register == register) m.terms

abbrev pub lowered : Measure → ℤ → Measure
lowered m n = record m { constant = m.constant -ℤ n }

-- ---- linear forms: a constant, and a coefficient for each variable

pub data Variable : Type 0 where
  -- what this register is before an instruction
  Before : ℕ → Variable
  -- what it is after it, where that is no sum
  After : ℕ → Variable

abbrev pub is_variable : Variable → Variable → Bool
is_variable (Before x) (Before y) = x == y
is_variable (Before x) (After y) = false
is_variable (After x) (Before y) = false
is_variable (After x) (After y) = x == y

pub record Form : Type 0 where
  pub constant : ℤ
  pub coefficient : Variable → ℤ

abbrev pub constant_form : ℤ → Form
constant_form n = record { constant = n; coefficient = λ variable. pos 0 }

abbrev pub variable_form : Variable → Form
variable_form variable = record { constant = pos 0; coefficient = λ other. if is_variable other variable then pos 1 else pos 0 }

abbrev pub before_form : ℕ → Form
before_form register = variable_form (Before register)

abbrev pub after_form : ℕ → Form
after_form register = variable_form (After register)

abbrev pub sum_form : Form → Form → Form
sum_form f g = record { constant = f.constant +ℤ g.constant; coefficient = λ variable. f.coefficient variable +ℤ g.coefficient variable }

abbrev pub times_form : ℤ → Form → Form
times_form n f = record { constant = n *ℤ f.constant; coefficient = λ variable. n *ℤ f.coefficient variable }

abbrev pub difference_form : Form → Form → Form
difference_form f g = sum_form f (times_form (negsuc 0) g)

-- the measure where each register is what a form says
unfoldable pub substituted : Measure → (ℕ → Form) → Form
substituted m value_of =
    fold (λ f t. sum_form f (times_form t.coefficient (value_of t.register))) (constant_form m.constant) m.terms

-- ---- extremes over ranges, each variable by itself

abbrev pub greatest_term : ℤ → Range → ℤ
greatest_term n r = n *ℤ pos (if is_negative n then r.low else r.high)

abbrev pub least_term : ℤ → Range → ℤ
least_term n r = n *ℤ pos (if is_negative n then r.high else r.low)

-- the sum over the registers
abbrev pub sum_over : (ℕ → ℤ) → ℤ
sum_over term = sum_of (map term (range_with_len 0 32))

unfoldable pub greatest : Form → (Variable → Range) → ℤ
greatest f range_at =
    let term : Variable → ℤ = λ variable. greatest_term (f.coefficient variable) (range_at variable) in
    f.constant +ℤ (sum_over (λ register. term (Before register)) +ℤ sum_over (λ register. term (After register)))

-- of a form of registers before an instruction alone
unfoldable pub least : Form → (ℕ → Range) → ℤ
least f range_at = f.constant +ℤ sum_over (λ register. least_term (f.coefficient (Before register)) (range_at register))

-- the measure's least value over the ranges of the registers
abbrev pub least_value : Measure → List Range → ℤ
least_value m ranges = least (substituted m before_form) (λ register. range_of ranges (register_numbered register))

-- ---- a measure on an edge

-- whether ADDI of a range stays within the words
abbrev pub moves_within : Range → ℤ → Bool
moves_within r n = int_le (pos 0) (pos r.low +ℤ n) && int_lt (pos r.high +ℤ n) (pos (2 ^ 32))

abbrev pub form_if : Bool → Form → Option Form
form_if holds form = if holds then Some form else None

abbrev pub register_sum : RegisterOp → Register → Register → Range → Range → Option Form
register_sum Add rs1 rs2 r s = form_if (sum_fits r s) (sum_form (before_form rs1.0) (before_form rs2.0))
register_sum Sub rs1 rs2 r s = form_if (difference_fits r s) (difference_form (before_form rs1.0) (before_form rs2.0))
register_sum Sll rs1 rs2 r s = None
register_sum Slt rs1 rs2 r s = None
register_sum Sltu rs1 rs2 r s = None
register_sum Xor rs1 rs2 r s = None
register_sum Srl rs1 rs2 r s = None
register_sum Sra rs1 rs2 r s = None
register_sum Or rs1 rs2 r s = None
register_sum And rs1 rs2 r s = None

abbrev pub immediate_sum : ImmediateOp → Register → ℤ → Range → Option Form
immediate_sum Addi rs1 immediate r = form_if (moves_within r immediate) (sum_form (before_form rs1.0) (constant_form immediate))
immediate_sum Slti rs1 immediate r = None
immediate_sum Sltiu rs1 immediate r = None
immediate_sum Xori rs1 immediate r = None
immediate_sum Ori rs1 immediate r = None
immediate_sum Andi rs1 immediate r = None

-- what ADDI, ADD or SUB writes, as a sum or difference of registers before it, where that does not wrap
unfoldable pub exact_sum : Instr → List Range → Option Form
exact_sum (Immediate op rd rs1 immediate) before = immediate_sum op rs1 immediate (range_of before rs1)
exact_sum (Registers op rd rs1 rs2) before = register_sum op rs1 rs2 (range_of before rs1) (range_of before rs2)
exact_sum (Upper op rd immediate) before = None
exact_sum (Jal rd offset) before = None
exact_sum (Jalr rd rs1 offset) before = None
exact_sum (Branch op rs1 rs2 offset) before = None
exact_sum (Load op rd rs1 offset) before = None
exact_sum (Store op rs1 rs2 offset) before = None
exact_sum (Shift op rd rs1 amount) before = None
exact_sum Fence before = None
exact_sum Ecall before = None
exact_sum Ebreak before = None

-- a register that an instruction writes otherwise: its value where it has one, and else what it is after it
abbrev pub other_value : List Range → ℕ → Form
other_value behind register =
    let r = range_of behind (register_numbered register) in
    if is_single r then constant_form (pos r.low) else after_form register

abbrev pub is_register : Option Register → ℕ → Bool
is_register x register = option_map_or (λ y. y.0 == register) x false

-- a register after an instruction
abbrev pub behind_form : Instr → List Range → List Range → ℕ → Form
behind_form instr before behind register =
    if is_register (destination instr) register
    then option_map_or (λ form. form) (exact_sum instr before) (other_value behind register)
    else before_form register

-- a register after a call that writes these registers
abbrev pub call_form : List Register → ℕ → Form
call_form written register = if list_any (λ x. x.0 == register) written then after_form register else before_form register

-- the range of a variable on an edge, by the ranges before and after it
abbrev pub range_at : List Range → List Range → Variable → Range
range_at before behind (Before register) = range_of before (register_numbered register)
range_at before behind (After register) = range_of behind (register_numbered register)

-- the greatest value over an edge
abbrev pub greatest_on : List Range → List Range → Form → ℤ
greatest_on before behind form = greatest form (range_at before behind)

-- whether the measure after an edge is always less than the one before it
unfoldable pub falls : Measure → Measure → (ℕ → Form) → List Range → List Range → Bool
falls from to value_of before behind =
    int_lt (greatest_on before behind (difference_form (substituted to value_of) (substituted from before_form))) (pos 0)

-- whether the measure after an edge is never above a budget
unfoldable pub stays_below : ℕ → Measure → (ℕ → Form) → List Range → List Range → Bool
stays_below budget to value_of before behind =
    int_le (greatest_on before behind (substituted to value_of)) (pos budget)
