-- A register after an instruction has the value of the form that the rules give it.
use Rattle.std.proofs.Common.{ℕ, suc, ◌≡◌, ◌≢◌, ◌∙◌, ◌==◌, ◌+◌, ◌-◌, ◌%◌, ◌^◌, ◌<◌, ◌≤◌, Bool, true, false, if◌then◌else◌, List, length, get_or, Option, Some}
use Rattle.std.proofs.Common.{None, Result, Ok, Err, ℤ, pos, negsuc, ◌+ℤ◌, ◌*ℤ◌, refl, sym, ap, arith}
use Rattle.std.specs.Prelude.{int_le, int_lt, slice_set}
use Rattle.std.specs.Option.{option_map_or}
use Rattle.std.proofs.lemmas.Int.{ints}
use Rattle.std.proofs.lemmas.Bool.{and_parts, eqb-true, eqb-false, leb-true, ltb-true, ne_eqb}
use Rattle.std.proofs.lemmas.List.{get_or-set_same, get_or-set_other}
use Rattle.model.specs.declared.instructions.Access.TheVariants as accesses
use Rattle.model.specs.declared.instructions.ImmediateOp.{ImmediateOp}
use Rattle.model.specs.declared.instructions.ImmediateOp.TheVariants.{Addi, Slti, Sltiu, Xori, Ori, Andi}
use Rattle.model.specs.declared.instructions.Instr.{Instr}
use Rattle.model.specs.declared.instructions.Instr.TheVariants.{Upper, Jal, Jalr, Branch, Load, Store, Immediate, Shift, Registers, Fence, Ecall, Ebreak}
use Rattle.model.specs.declared.instructions.Cause.TheVariants.{Misaligned}
use Rattle.model.specs.declared.instructions.Exec.TheVariants as outcomes
use Rattle.model.specs.declared.instructions.LoadOp.{LoadOp}
use Rattle.model.specs.declared.instructions.MemoryFault.{MemoryFault}
use Rattle.model.specs.declared.instructions.Register.{Register}
use Rattle.model.specs.declared.instructions.RegisterOp.{RegisterOp}
use Rattle.model.specs.declared.instructions.RegisterOp.TheVariants.{Add, Sub, Sll, Slt, Sltu, Xor, Srl, Sra, Or, And}
use Rattle.model.specs.declared.ranges.Range.{Range}
use Rattle.model.specs.Machine.Instructions.{IsInstr, IsRegister}
use Rattle.model.specs.Machine.ProgramMemory.{Content, RegisterFile, loaded, read, stored, write}
use Rattle.model.specs.Machine.Effects.{branches, effect, goes_on, immediate_result, is_taken, jumps, load_size, loads, next_pc, plus, register_result, stays}
use Rattle.model.specs.Machine.Effects.{store_size, stores}
use Rattle.model.specs.Acceptance.Measures.{After, Before, Form, Variable, after_form, before_form, behind_form, constant_form, difference_form, exact_sum}
use Rattle.model.specs.Acceptance.Measures.{form_if, immediate_sum, is_register, moves_within, other_value, register_numbered, register_sum, sum_form}
use Rattle.model.specs.Acceptance.RangeRules.{destination, difference_fits, is_single, sum_fits}
use Rattle.model.specs.Acceptance.Ranges.{range_of}
use Rattle.model.specs.Acceptance.ThreadInvariants.{LieWithin}
use Rattle.ranges.specs.Inside.{LiesIn}
use Rattle.ranges.specs.Standing.{AreWords}
use Rattle.headline.proofs.measure_facts.FormValues.{value, value-after, value-before, value-constant, value-difference, value-sum}

-- ---- what is read after a write

abbrev word : RegisterFile → ℕ → ℕ
word r k = read r (register_numbered k)

read-word : (r : RegisterFile) (k : ℕ) → k ≢ 0 → word r k ≡ get_or r.words k 0
read-word r k some = ap (λ (b : Bool). if b then 0 else get_or r.words k 0) (ne_eqb k 0 some)

written-other : (r : RegisterFile) (rd : Register) (n k : ℕ) → (rd.0 == k) ≡ false → word (write r rd n) k ≡ word r k
written-other r rd n k other =
    elim (rd.0 == 0) as (λ b. word (if b then r else record r { words = slice_set r.words rd.0 n }) k ≡ word r k) [
      | true ↦ refl
      | false ↦ ap (λ (x : ℕ). if k == 0 then 0 else x) (get_or-set_other r.words rd.0 k n 0 (λ same. eqb-false rd.0 k other (sym same)))
    ]

written-same : (r : RegisterFile) (rd : Register) (n k : ℕ) → length r.words ≡ 32 → 1 ≤ k → k < 32 → (rd.0 == k) ≡ true → word (write r rd n) k ≡ n
written-same r rd n k long some less is =
    let same : rd.0 ≡ k = eqb-true rd.0 k is in
    let full : RegisterFile = record r { words = slice_set r.words rd.0 n } in
    let whole : write r rd n ≡ full = ap (λ (b : Bool). if b then r else full) (ne_eqb rd.0 0 (λ none. omega (arith, some, same, none))) in
    ap (λ (x : RegisterFile). word x k) whole
    ∙ read-word full k (λ none. omega (arith, some, none))
    ∙ ap (λ (m : ℕ). get_or (slice_set r.words rd.0 n) m 0) (sym same)
    ∙ get_or-set_same r.words rd.0 n 0 (omega (arith, same, less, long))

-- ---- registers that an instruction does not write

jump-leaves : (r : RegisterFile) (content : Content) (written : RegisterFile) (target k : ℕ) → word written k ≡ word r k →
    word (jumps r content written target).registers k ≡ word r k
jump-leaves r content written target k same =
    elim (target % 4 == 0) as (λ b. word (if b then goes_on (record written { pc = target }) content else stays r content (outcomes.Trap Misaligned)).registers
    k ≡ word r k) [
      | true ↦ same
      | false ↦ refl
    ]

branch-leaves : (r : RegisterFile) (content : Content) (taken : Bool) (target k : ℕ) → word (branches r content taken target).registers k ≡ word r k
branch-leaves r content true target k = jump-leaves r content r target k refl
branch-leaves r content false target k = refl

load-leaves : (r : RegisterFile) (content : Content) (op : LoadOp) (rd : Register) (found : Result ℕ MemoryFault) (k : ℕ) → (rd.0 == k) ≡ false →
    word (loads r content op rd found).registers k ≡ word r k
load-leaves r content op rd (Ok n) k other = written-other r rd _ k other
load-leaves r content op rd (Err fault) k other = refl

store-leaves : (r : RegisterFile) (content : Content) (left : Result Content MemoryFault) (k : ℕ) → word (stores r content left).registers k ≡ word r k
store-leaves r content (Ok left) k = refl
store-leaves r content (Err fault) k = refl

pub others-stay : (r : RegisterFile) (content : Content) (instr : Instr) (k : ℕ) → is_register (destination instr) k ≡ false
    → word (effect r content instr).registers k ≡ word r k
unfolding effect
others-stay r content (Upper op rd immediate) k other = written-other r rd _ k other
others-stay r content (Jal rd offset) k other = jump-leaves r content (write r rd (next_pc r)) (plus r.pc offset) k (written-other r rd (next_pc r) k other)
others-stay r content (Jalr rd rs1 offset) k other =
    let target = plus (read r rs1) offset in
    jump-leaves r content (write r rd (next_pc r)) (target - target % 2) k (written-other r rd (next_pc r) k other)
others-stay r content (Branch op rs1 rs2 offset) k other = branch-leaves r content (is_taken op (read r rs1) (read r rs2)) (plus r.pc offset) k
others-stay r content (Load op rd rs1 offset) k other = load-leaves r content op rd (loaded content accesses.Load (load_size op) (plus (read r rs1) offset)) k
    other
others-stay r content (Store op rs1 rs2 offset) k other = store-leaves r content (stored content (store_size op) (plus (read r rs1) offset) (read r rs2)) k
others-stay r content (Immediate op rd rs1 immediate) k other = written-other r rd _ k other
others-stay r content (Shift op rd rs1 amount) k other = written-other r rd _ k other
others-stay r content (Registers op rd rs1 rs2) k other = written-other r rd _ k other
others-stay r content Fence k other = refl
others-stay r content Ecall k other = refl
others-stay r content Ebreak k other = refl

-- ---- sums that do not wrap

if-form : (b : Bool) (f form : Form) → form_if b f ≡ Some form → (b ≡ true) × (f ≡ form)
if-form true f form is = (refl, (let same : ◌≡◌ {A = Option Form} (Some f) (Some form) = is in cc))
if-form false f form is = absurd (let clash : ◌≡◌ {A = Option Form} None (Some form) = is in cc)

added-up : (x low high m : ℕ) → low ≤ x → x ≤ high → int_lt (pos high +ℤ pos m) (pos (2 ^ 32)) ≡ true → pos x +ℤ pos m ≡ pos (plus x (pos m))
added-up x low high m under over fits =
    let few : high + m < 2 ^ 32 = ltb-true (high + m) (2 ^ 32) fits in
    ap pos (omega (arith, few, under, over))

sum-left : (low m x : ℕ) → int_le (pos 0) (pos low +ℤ negsuc m) ≡ true → low ≤ x → suc m ≤ x
sum-left low m x fits under = grind (arith, ints)

added-down : (x low m : ℕ) → x < 2 ^ 32 → low ≤ x → int_le (pos 0) (pos low +ℤ negsuc m) ≡ true → pos x +ℤ negsuc m ≡ pos (plus x (negsuc m))
added-down x low m small under fits =
    let room : suc m ≤ x = sum-left low m x fits under in
    let same : (x + (2 ^ 32 - suc m)) % 2 ^ 32 ≡ x - suc m = omega (arith, room, small) in
    let less : pos x +ℤ negsuc m ≡ pos (x - suc m) = omega (arith, ints, room) in
    less ∙ ap pos (sym same)

pub moved-exactly : (x : ℕ) (s : Range) (z : ℤ) → x < 2 ^ 32 → LiesIn x s → moves_within s z ≡ true → pos x +ℤ z ≡ pos (plus x z)
moved-exactly x s (pos m) small inside fits =
    let parts = and_parts (int_le (pos 0) (pos s.low +ℤ pos m)) (int_lt (pos s.high +ℤ pos m) (pos (2 ^ 32))) fits in
    added-up x s.low s.high m inside.0 inside.1 parts.1
moved-exactly x s (negsuc m) small inside fits =
    let parts = and_parts (int_le (pos 0) (pos s.low +ℤ negsuc m)) (int_lt (pos s.high +ℤ negsuc m) (pos (2 ^ 32))) fits in
    added-down x s.low m small inside.0 parts.0

summed-exactly : (x y : ℕ) (s t : Range) → LiesIn x s → LiesIn y t → sum_fits s t ≡ true → pos x +ℤ pos y ≡ pos ((x + y) % 2 ^ 32)
summed-exactly x y s t here there fits =
    let few : s.high + t.high < 2 ^ 32 = ltb-true (s.high + t.high) (2 ^ 32) fits in
    let same : x + y ≡ (x + y) % 2 ^ 32 = omega (arith, few, here.1, there.1) in
    ap pos same

subtracted-exactly : (x y : ℕ) (s t : Range) → x < 2 ^ 32 → LiesIn x s → LiesIn y t → difference_fits s t ≡ true →
    pos x +ℤ (negsuc 0 *ℤ pos y) ≡ pos ((x + (2 ^ 32 - y)) % 2 ^ 32)
subtracted-exactly x y s t small here there fits =
    let room : t.high ≤ s.low = leb-true t.high s.low fits in
    let under : y ≤ x = omega (arith, room, here.0, there.1) in
    let same : (x + (2 ^ 32 - y)) % 2 ^ 32 ≡ x - y = omega (arith, under, small) in
    let less : pos x +ℤ (negsuc 0 *ℤ pos y) ≡ pos (x - y) = omega (arith, ints, under) in
    less ∙ ap pos (sym same)

-- ---- what exact sums are worth

abbrev Reads : RegisterFile → (Variable → ℕ) → Type 0
Reads r v = (k : ℕ) → k < 32 → v (Before k) ≡ word r k

before-value : (r : RegisterFile) (v : Variable → ℕ) (x : Register) → Reads r v → IsRegister x → value v (before_form x.0) ≡ pos (read r x)
before-value r v x reads fits = value-before v x.0 fits ∙ ap pos (reads x.0 fits)

immediate-exact : (r : RegisterFile) (v : Variable → ℕ) (op : ImmediateOp) (rs1 : Register) (z : ℤ) (s : Range) (form : Form) → Reads r v → IsRegister rs1 →
    read r rs1 < 2 ^ 32 → LiesIn (read r rs1) s
    → immediate_sum op rs1 z s ≡ Some form → value v form ≡ pos (immediate_result op (read r rs1) z)
immediate-exact r v Addi rs1 z s form reads fits small inside is =
    let found = if-form (moves_within s z) (sum_form (before_form rs1.0) (constant_form z)) form is in
    sym (ap (λ (f : Form). value v f) found.1) ∙ value-sum v (before_form rs1.0) (constant_form z)
    ∙ ap (λ (y : ℤ). y +ℤ value v (constant_form z)) (before-value r v rs1 reads fits)
    ∙ ap (λ (y : ℤ). pos (read r rs1) +ℤ y) (value-constant v z)
    ∙ moved-exactly (read r rs1) s z small inside found.0
immediate-exact r v Slti rs1 z s form reads fits small inside is = absurd (let clash : ◌≡◌ {A = Option Form} None (Some form) = is in cc)
immediate-exact r v Sltiu rs1 z s form reads fits small inside is = absurd (let clash : ◌≡◌ {A = Option Form} None (Some form) = is in cc)
immediate-exact r v Xori rs1 z s form reads fits small inside is = absurd (let clash : ◌≡◌ {A = Option Form} None (Some form) = is in cc)
immediate-exact r v Ori rs1 z s form reads fits small inside is = absurd (let clash : ◌≡◌ {A = Option Form} None (Some form) = is in cc)
immediate-exact r v Andi rs1 z s form reads fits small inside is = absurd (let clash : ◌≡◌ {A = Option Form} None (Some form) = is in cc)

abbrev IsExact : RegisterFile → (Variable → ℕ) → RegisterOp → Register → Register → Range → Range → Type 0
IsExact r v op rs1 rs2 s t = (form : Form) → register_sum op rs1 rs2 s t ≡ Some form → value v form ≡ pos (register_result op (read r rs1) (read r rs2))

register-exact : (r : RegisterFile) (v : Variable → ℕ) (op : RegisterOp) (rs1 rs2 : Register) (s t : Range) → Reads r v → IsRegister rs1 → IsRegister rs2 →
    read r rs1 < 2 ^ 32
    → LiesIn (read r rs1) s → LiesIn (read r rs2) t → IsExact r v op rs1 rs2 s t
register-exact r v Add rs1 rs2 s t reads first second small here there form is =
    let found = if-form (sum_fits s t) (sum_form (before_form rs1.0) (before_form rs2.0)) form is in
    sym (ap (λ (f : Form). value v f) found.1) ∙ value-sum v (before_form rs1.0) (before_form rs2.0)
    ∙ ap (λ (y : ℤ). y +ℤ value v (before_form rs2.0)) (before-value r v rs1 reads first)
    ∙ ap (λ (y : ℤ). pos (read r rs1) +ℤ y) (before-value r v rs2 reads second)
    ∙ summed-exactly (read r rs1) (read r rs2) s t here there found.0
register-exact r v Sub rs1 rs2 s t reads first second small here there form is =
    let found = if-form (difference_fits s t) (difference_form (before_form rs1.0) (before_form rs2.0)) form is in
    sym (ap (λ (f : Form). value v f) found.1) ∙ value-difference v (before_form rs1.0) (before_form rs2.0)
    ∙ ap (λ (y : ℤ). y +ℤ (negsuc 0 *ℤ value v (before_form rs2.0))) (before-value r v rs1 reads first)
    ∙ ap (λ (y : ℤ). pos (read r rs1) +ℤ (negsuc 0 *ℤ y)) (before-value r v rs2 reads second)
    ∙ subtracted-exactly (read r rs1) (read r rs2) s t small here there found.0
register-exact r v Sll rs1 rs2 s t reads first second small here there form is = absurd (let clash : ◌≡◌ {A = Option Form} None (Some form) = is in cc)
register-exact r v Slt rs1 rs2 s t reads first second small here there form is = absurd (let clash : ◌≡◌ {A = Option Form} None (Some form) = is in cc)
register-exact r v Sltu rs1 rs2 s t reads first second small here there form is = absurd (let clash : ◌≡◌ {A = Option Form} None (Some form) = is in cc)
register-exact r v Xor rs1 rs2 s t reads first second small here there form is = absurd (let clash : ◌≡◌ {A = Option Form} None (Some form) = is in cc)
register-exact r v Srl rs1 rs2 s t reads first second small here there form is = absurd (let clash : ◌≡◌ {A = Option Form} None (Some form) = is in cc)
register-exact r v Sra rs1 rs2 s t reads first second small here there form is = absurd (let clash : ◌≡◌ {A = Option Form} None (Some form) = is in cc)
register-exact r v Or rs1 rs2 s t reads first second small here there form is = absurd (let clash : ◌≡◌ {A = Option Form} None (Some form) = is in cc)
register-exact r v And rs1 rs2 s t reads first second small here there form is = absurd (let clash : ◌≡◌ {A = Option Form} None (Some form) = is in cc)

sum-exact : (r : RegisterFile) (content : Content) (v : Variable → ℕ) (instr : Instr) (before : List Range) (k : ℕ) (form : Form) → AreWords r content →
    IsInstr instr → LieWithin r before → Reads r v
    → 1 ≤ k → k < 32 → is_register (destination instr) k ≡ true → exact_sum instr before ≡ Some form →
    value v form ≡ pos (word (effect r content instr).registers k)
unfolding effect exact_sum
sum-exact r content v (Immediate op rd rs1 z) before k form are fits within reads some less here is =
    immediate-exact r v op rs1 z (range_of before rs1) form reads fits.1 (are.words rs1) (within rs1.0 fits.1) is
    ∙ ap pos (sym (written-same r rd (immediate_result op (read r rs1) z) k are.count some less here))
sum-exact r content v (Registers op rd rs1 rs2) before k form are fits within reads some less here is =
    register-exact r v op rs1 rs2 (range_of before rs1) (range_of before rs2) reads fits.1 fits.2 (are.words rs1) (within rs1.0 fits.1) (within rs2.0 fits.2)
    form is
    ∙ ap pos (sym (written-same r rd (register_result op (read r rs1) (read r rs2)) k are.count some less here))
sum-exact r content v (Upper op rd z) before k form are fits within reads some less here is =
    absurd (let clash : ◌≡◌ {A = Option Form} None (Some form) = is in cc)
sum-exact r content v (Jal rd z) before k form are fits within reads some less here is = absurd (let clash : ◌≡◌ {A = Option Form} None (Some form) = is in cc)
sum-exact r content v (Jalr rd rs1 z) before k form are fits within reads some less here is =
    absurd (let clash : ◌≡◌ {A = Option Form} None (Some form) = is in cc)
sum-exact r content v (Branch op rs1 rs2 z) before k form are fits within reads some less here is =
    absurd (let clash : ◌≡◌ {A = Option Form} None (Some form) = is in cc)
sum-exact r content v (Load op rd rs1 z) before k form are fits within reads some less here is =
    absurd (let clash : ◌≡◌ {A = Option Form} None (Some form) = is in cc)
sum-exact r content v (Store op rs1 rs2 z) before k form are fits within reads some less here is =
    absurd (let clash : ◌≡◌ {A = Option Form} None (Some form) = is in cc)
sum-exact r content v (Shift op rd rs1 amount) before k form are fits within reads some less here is =
    absurd (let clash : ◌≡◌ {A = Option Form} None (Some form) = is in cc)
sum-exact r content v Fence before k form are fits within reads some less here is = absurd (let clash : ◌≡◌ {A = Option Form} None (Some form) = is in cc)
sum-exact r content v Ecall before k form are fits within reads some less here is = absurd (let clash : ◌≡◌ {A = Option Form} None (Some form) = is in cc)
sum-exact r content v Ebreak before k form are fits within reads some less here is = absurd (let clash : ◌≡◌ {A = Option Form} None (Some form) = is in cc)

-- ---- other registers that are written

single-value : (s : Range) (x : ℕ) → LiesIn x s → is_single s ≡ true → s.low ≡ x
single-value s x inside is =
    let ends : s.low ≡ s.high = eqb-true s.low s.high is in
    omega (arith, ends, inside.0, inside.1)

by-single : (v : Variable → ℕ) (s : Range) (k x : ℕ) (b : Bool) → k < 32 → v (After k) ≡ x → (b ≡ true → s.low ≡ x)
    → value v (if b then constant_form (pos s.low) else after_form k) ≡ pos x
by-single v s k x true less is single = value-constant v (pos s.low) ∙ ap pos (single refl)
by-single v s k x false less is single = value-after v k less ∙ ap pos is

-- ---- the form of each register

abbrev ReadsBehind : RegisterFile → (Variable → ℕ) → Type 0
ReadsBehind r v = (k : ℕ) → k < 32 → v (After k) ≡ word r k

by-sum : (r : RegisterFile) (content : Content) (v : Variable → ℕ) (instr : Instr) (before behind : List Range) (k : ℕ) (found : Option Form) →
    AreWords r content →
    IsInstr instr
    → LieWithin r before → LieWithin (effect r content instr).registers behind → Reads r v → ReadsBehind (effect r content instr).registers v → 1 ≤ k → k < 32
    → is_register (destination instr) k ≡ true → exact_sum instr before ≡ found
    → value v (option_map_or (λ form. form) found (other_value behind k)) ≡ pos (word (effect r content instr).registers k)
by-sum r content v instr before behind k (Some form) are fits within after reads later some less here is =
    sum-exact r content v instr before k form are fits within reads some less here is
by-sum r content v instr before behind k None are fits within after reads later some less here is =
    let s : Range = range_of behind (register_numbered k) in
    let x : ℕ = word (effect r content instr).registers k in
    by-single v s k x (is_single s) less (later k less) (single-value s x (after k less))

pub behind-valued : (r : RegisterFile) (content : Content) (v : Variable → ℕ) (instr : Instr) (before behind : List Range) (k : ℕ) → AreWords r content →
    IsInstr instr
    → LieWithin r before → LieWithin (effect r content instr).registers behind → Reads r v → ReadsBehind (effect r content instr).registers v → 1 ≤ k → k < 32
    → value v (behind_form instr before behind k) ≡ pos (word (effect r content instr).registers k)
behind-valued r content v instr before behind k are fits within after reads later some less =
    elim (is_register (destination instr) k) as (λ b. is_register (destination instr) k ≡ b
    → value v (if b then option_map_or (λ form. form) (exact_sum instr before) (other_value behind k) else before_form k) ≡ pos
    (word (effect r content instr).registers k)) [
      | true ↦ λ here. by-sum r content v instr before behind k (exact_sum instr before) are fits within after reads later some less here refl
      | false ↦ λ here. value-before v k less ∙ ap pos (reads k less ∙ sym (others-stay r content instr k here))
    ] refl
