-- A word spells what `decoded` reads of it, and so no more than one instruction.
use Rattle.std.proofs.Common.{ℕ, ◌≡◌, ◌∙◌, ◌==◌, ◌||◌, ◌+◌, ◌*◌, ◌^◌, ◌<◌, if◌then◌else◌}
use Rattle.std.proofs.Common.{true, false, Option, Some, None, ℤ, refl, sym, ap, arith}
use Rattle.std.specs.Prelude.{option_map}
use Rattle.model.specs.declared.instructions.UpperOp.{UpperOp}
use Rattle.model.specs.declared.instructions.UpperOp.TheVariants.{Lui, Auipc}
use Rattle.model.specs.declared.instructions.BranchOp.{BranchOp}
use Rattle.model.specs.declared.instructions.BranchOp.TheVariants.{Beq, Bne, Blt, Bge, Bltu, Bgeu}
use Rattle.model.specs.declared.instructions.LoadOp.{LoadOp}
use Rattle.model.specs.declared.instructions.LoadOp.TheVariants.{Lb, Lh, Lw, Lbu, Lhu}
use Rattle.model.specs.declared.instructions.StoreOp.{StoreOp}
use Rattle.model.specs.declared.instructions.StoreOp.TheVariants.{Sb, Sh, Sw}
use Rattle.model.specs.declared.instructions.ImmediateOp.{ImmediateOp}
use Rattle.model.specs.declared.instructions.ImmediateOp.TheVariants.{Addi, Slti, Sltiu, Xori, Ori, Andi}
use Rattle.model.specs.declared.instructions.ShiftOp.{ShiftOp}
use Rattle.model.specs.declared.instructions.ShiftOp.TheVariants.{Slli, Srli, Srai}
use Rattle.model.specs.declared.instructions.RegisterOp.{RegisterOp}
use Rattle.model.specs.declared.instructions.RegisterOp.TheVariants.{Add, Sub, Sll, Slt, Sltu, Xor, Srl, Sra, Or, And}
use Rattle.model.specs.declared.instructions.Instr.{Instr}
use Rattle.model.specs.declared.instructions.Instr.TheVariants.{Upper, Jal, Jalr, Branch, Load, Store, Immediate, Shift, Registers, Fence, Ecall, Ebreak}
use Rattle.model.specs.declared.instructions.Register.{Register}
use Rattle.model.specs.Machine.Instructions.{IsInstr, Spells, b_type, bits, branch_funct3, i_type, immediate_funct3, load_funct3, r_type, register_funct3}
use Rattle.model.specs.Machine.Instructions.{register_funct7, s_type, shift_funct3, shift_funct7, store_funct3, word_of}
use Rattle.model.specs.Machine.Decoding.{b_offset, branch_op, decoded, decoded_branch, decoded_fence, decoded_immediate, decoded_jal, decoded_jalr}
use Rattle.model.specs.Machine.Decoding.{decoded_load, decoded_registers, decoded_shift, decoded_store, decoded_system, decoded_upper, funct3_of, funct7_of}
use Rattle.model.specs.Machine.Decoding.{i_immediate, immediate_op, j_offset, load_op, rd_of, register_op, rs1_of, rs2_of, s_immediate, shift_op, sign_extended}
use Rattle.model.specs.Machine.Decoding.{store_op}
use Rattle.rv32_isa.proofs.Signs.{i-sign, b-sign, j-sign}

-- `decoded`, with the opcode as a value of its own
abbrev by_opcode : ℕ → ℕ → Option Instr
by_opcode opcode word =
    if opcode == 0x37 then Some (decoded_upper Lui word) else
    if opcode == 0x17 then Some (decoded_upper Auipc word) else
    if opcode == 0x6F then Some (decoded_jal word) else
    if opcode == 0x67 then decoded_jalr word else
    if opcode == 0x63 then decoded_branch word else
    if opcode == 0x03 then decoded_load word else
    if opcode == 0x23 then decoded_store word else
    if opcode == 0x13 then decoded_immediate word else
    if opcode == 0x33 then decoded_registers word else
    if opcode == 0x0F then decoded_fence word else
    if opcode == 0x73 then decoded_system word else None

decoded-by : (word opcode : ℕ) → bits word 0 7 ≡ opcode → decoded word ≡ by_opcode opcode word
unfolding decoded
decoded-by word opcode is = ap (λ o. by_opcode o word) is

same_register : (x y : Register) → x.0 ≡ y.0 → x ≡ y
same_register x y e = let register : ℕ → Register = λ n. record { 0 = n } in ap register e

upper : (word : ℕ) (op : UpperOp) (rd : Register) (immediate : ℕ) → Spells word (Upper op rd immediate) → decoded word ≡ Some (Upper op rd immediate)
upper word Lui rd immediate s =
    let opcode : bits word 0 7 ≡ 0x37 = omega (arith, s) in
    let rd_same : rd_of word ≡ rd = same_register (rd_of word) rd (omega (arith, s)) in
    let value : bits word 12 20 ≡ immediate = omega (arith, s) in
    decoded-by word 0x37 opcode ∙ cc (rd_same, value)
upper word Auipc rd immediate s =
    let opcode : bits word 0 7 ≡ 0x17 = omega (arith, s) in
    let rd_same : rd_of word ≡ rd = same_register (rd_of word) rd (omega (arith, s)) in
    let value : bits word 12 20 ≡ immediate = omega (arith, s) in
    decoded-by word 0x17 opcode ∙ cc (rd_same, value)

jal : (word : ℕ) (rd : Register) (offset : ℤ) → Spells word (Jal rd offset) → decoded word ≡ Some (Jal rd offset)
jal word rd offset s =
    let opcode : bits word 0 7 ≡ 0x6F = omega (arith, s) in
    let rd_same : rd_of word ≡ rd = same_register (rd_of word) rd (omega (arith, s)) in
    let parts : 2 * bits word 21 10 + 2 ^ 11 * bits word 20 1 + 2 ^ 12 * bits word 12 8 + 2 ^ 20 * bits word 31 1
    ≡ 2 * bits (word_of offset) 1 10 + 2 ^ 11 * bits (word_of offset) 11 1 + 2 ^ 12 * bits (word_of offset) 12 8 + 2 ^ 20 * bits (word_of offset) 20 1 =
    omega (arith, s) in
    let same : j_offset word ≡ offset = ap (λ n. sign_extended n (2 ^ 20)) parts ∙ j-sign offset s.0.1 in
    decoded-by word 0x6F opcode ∙ cc (rd_same, same)

jalr : (word : ℕ) (rd rs1 : Register) (offset : ℤ) → Spells word (Jalr rd rs1 offset) → decoded word ≡ Some (Jalr rd rs1 offset)
jalr word rd rs1 offset s =
    let opcode : bits word 0 7 ≡ 0x67 = omega (arith, s) in
    let f3 : funct3_of word ≡ 0 = omega (arith, s) in
    let rd_same : rd_of word ≡ rd = same_register (rd_of word) rd (omega (arith, s)) in
    let rs1_same : rs1_of word ≡ rs1 = same_register (rs1_of word) rs1 (omega (arith, s)) in
    let cut : bits word 20 12 ≡ bits (word_of offset) 0 12 = omega (arith, s) in
    let signed_same : i_immediate word ≡ offset = ap (λ n. sign_extended n (2 ^ 11)) cut ∙ i-sign offset s.0.2 in
    decoded-by word 0x67 opcode
    ∙ ap (λ f. if f == 0 then Some (Jalr (rd_of word) (rs1_of word) (i_immediate word)) else None) f3
    ∙ cc (rd_same, rs1_same, signed_same)

-- ---- instructions whose operation is a number of three bits, or of three and seven: each number leads to its operation

branch-code : (op : BranchOp) → (branch_funct3 op < 8) × (branch_op (branch_funct3 op) ≡ Some op)
branch-code Beq = (omega arith, refl)
branch-code Bne = (omega arith, refl)
branch-code Blt = (omega arith, refl)
branch-code Bge = (omega arith, refl)
branch-code Bltu = (omega arith, refl)
branch-code Bgeu = (omega arith, refl)

branch-by : (word f : ℕ) (op : BranchOp) (rs1 rs2 : Register) (offset : ℤ) → (f < 8) × (branch_op f ≡ Some op)
    → IsInstr (Branch op rs1 rs2 offset) × (word ≡ b_type 0x63 f rs1 rs2 offset) → decoded word ≡ Some (Branch op rs1 rs2 offset)
branch-by word f op rs1 rs2 offset code s =
    let small = code.0 in
    let opcode : bits word 0 7 ≡ 0x63 = omega (arith, s, small) in
    let f3 : funct3_of word ≡ f = omega (arith, s, small) in
    let rs1_same : rs1_of word ≡ rs1 = same_register (rs1_of word) rs1 (omega (arith, s, small)) in
    let rs2_same : rs2_of word ≡ rs2 = same_register (rs2_of word) rs2 (omega (arith, s, small)) in
    let parts : 2 * bits word 8 4 + 2 ^ 5 * bits word 25 6 + 2 ^ 11 * bits word 7 1 + 2 ^ 12 * bits word 31 1
    ≡ 2 * bits (word_of offset) 1 4 + 2 ^ 5 * bits (word_of offset) 5 6 + 2 ^ 11 * bits (word_of offset) 11 1 + 2 ^ 12 * bits (word_of offset) 12 1 =
    omega (arith, s, small) in
    let same : b_offset word ≡ offset = ap (λ n. sign_extended n (2 ^ 12)) parts ∙ b-sign offset s.0.2 in
    let made : BranchOp → Instr = λ o. Branch o (rs1_of word) (rs2_of word) (b_offset word) in
    decoded-by word 0x63 opcode ∙ ap (λ f. option_map made (branch_op f)) f3 ∙ ap (option_map made) code.1 ∙ cc (rs1_same, rs2_same, same)

load-code : (op : LoadOp) → (load_funct3 op < 8) × (load_op (load_funct3 op) ≡ Some op)
load-code Lb = (omega arith, refl)
load-code Lh = (omega arith, refl)
load-code Lw = (omega arith, refl)
load-code Lbu = (omega arith, refl)
load-code Lhu = (omega arith, refl)

load-by : (word f : ℕ) (op : LoadOp) (rd rs1 : Register) (offset : ℤ) → (f < 8) × (load_op f ≡ Some op)
    → IsInstr (Load op rd rs1 offset) × (word ≡ i_type 0x03 rd f rs1 offset) → decoded word ≡ Some (Load op rd rs1 offset)
load-by word f op rd rs1 offset code s =
    let small = code.0 in
    let opcode : bits word 0 7 ≡ 0x03 = omega (arith, s, small) in
    let f3 : funct3_of word ≡ f = omega (arith, s, small) in
    let rd_same : rd_of word ≡ rd = same_register (rd_of word) rd (omega (arith, s, small)) in
    let rs1_same : rs1_of word ≡ rs1 = same_register (rs1_of word) rs1 (omega (arith, s, small)) in
    let cut : bits word 20 12 ≡ bits (word_of offset) 0 12 = omega (arith, s, small) in
    let same : i_immediate word ≡ offset = ap (λ n. sign_extended n (2 ^ 11)) cut ∙ i-sign offset s.0.2 in
    let made : LoadOp → Instr = λ o. Load o (rd_of word) (rs1_of word) (i_immediate word) in
    decoded-by word 0x03 opcode ∙ ap (λ f. option_map made (load_op f)) f3 ∙ ap (option_map made) code.1 ∙ cc (rd_same, rs1_same, same)

store-code : (op : StoreOp) → (store_funct3 op < 8) × (store_op (store_funct3 op) ≡ Some op)
store-code Sb = (omega arith, refl)
store-code Sh = (omega arith, refl)
store-code Sw = (omega arith, refl)

store-by : (word f : ℕ) (op : StoreOp) (rs1 rs2 : Register) (offset : ℤ) → (f < 8) × (store_op f ≡ Some op)
    → IsInstr (Store op rs1 rs2 offset) × (word ≡ s_type 0x23 f rs1 rs2 offset) → decoded word ≡ Some (Store op rs1 rs2 offset)
store-by word f op rs1 rs2 offset code s =
    let small = code.0 in
    let opcode : bits word 0 7 ≡ 0x23 = omega (arith, s, small) in
    let f3 : funct3_of word ≡ f = omega (arith, s, small) in
    let rs1_same : rs1_of word ≡ rs1 = same_register (rs1_of word) rs1 (omega (arith, s, small)) in
    let rs2_same : rs2_of word ≡ rs2 = same_register (rs2_of word) rs2 (omega (arith, s, small)) in
    let cut : bits word 7 5 + 2 ^ 5 * bits word 25 7 ≡ bits (word_of offset) 0 12 = omega (arith, s, small) in
    let same : s_immediate word ≡ offset = ap (λ n. sign_extended n (2 ^ 11)) cut ∙ i-sign offset s.0.2 in
    let made : StoreOp → Instr = λ o. Store o (rs1_of word) (rs2_of word) (s_immediate word) in
    decoded-by word 0x23 opcode ∙ ap (λ f. option_map made (store_op f)) f3 ∙ ap (option_map made) code.1 ∙ cc (rs1_same, rs2_same, same)

immediate-code : (op : ImmediateOp) → let f = immediate_funct3 op in (f < 8) × (((f == 1) || (f == 5)) ≡ false) × (immediate_op f ≡ Some op)
immediate-code Addi = (omega arith, refl, refl)
immediate-code Slti = (omega arith, refl, refl)
immediate-code Sltiu = (omega arith, refl, refl)
immediate-code Xori = (omega arith, refl, refl)
immediate-code Ori = (omega arith, refl, refl)
immediate-code Andi = (omega arith, refl, refl)

immediate-by : (word f : ℕ) (op : ImmediateOp) (rd rs1 : Register) (immediate : ℤ)
    → (f < 8) × (((f == 1) || (f == 5)) ≡ false) × (immediate_op f ≡ Some op)
    → IsInstr (Immediate op rd rs1 immediate) × (word ≡ i_type 0x13 rd f rs1 immediate) → decoded word ≡ Some (Immediate op rd rs1 immediate)
immediate-by word f op rd rs1 immediate code s =
    let small = code.0 in
    let opcode : bits word 0 7 ≡ 0x13 = omega (arith, s, small) in
    let f3 : funct3_of word ≡ f = omega (arith, s, small) in
    let rd_same : rd_of word ≡ rd = same_register (rd_of word) rd (omega (arith, s, small)) in
    let rs1_same : rs1_of word ≡ rs1 = same_register (rs1_of word) rs1 (omega (arith, s, small)) in
    let cut : bits word 20 12 ≡ bits (word_of immediate) 0 12 = omega (arith, s, small) in
    let same : i_immediate word ≡ immediate = ap (λ n. sign_extended n (2 ^ 11)) cut ∙ i-sign immediate s.0.2 in
    let made : ImmediateOp → Instr = λ o. Immediate o (rd_of word) (rs1_of word) (i_immediate word) in
    decoded-by word 0x13 opcode
    ∙ ap (λ f. if (f == 1) || (f == 5) then decoded_shift word else option_map made (immediate_op f)) f3
    ∙ ap (λ b. if b then decoded_shift word else option_map made (immediate_op f)) code.1
    ∙ ap (option_map made) code.2 ∙ cc (rd_same, rs1_same, same)

shift-code : (op : ShiftOp) → let f = shift_funct3 op in let g = shift_funct7 op in
    (f < 8) × (g < 128) × (((f == 1) || (f == 5)) ≡ true) × (shift_op f g ≡ Some op)
shift-code Slli = (omega arith, omega arith, refl, refl)
shift-code Srli = (omega arith, omega arith, refl, refl)
shift-code Srai = (omega arith, omega arith, refl, refl)

shift-by : (word f g : ℕ) (op : ShiftOp) (rd rs1 : Register) (amount : ℕ)
    → (f < 8) × (g < 128) × (((f == 1) || (f == 5)) ≡ true) × (shift_op f g ≡ Some op)
    → IsInstr (Shift op rd rs1 amount) × (word ≡ r_type 0x13 rd f rs1 amount g) → decoded word ≡ Some (Shift op rd rs1 amount)
shift-by word f g op rd rs1 amount code s =
    let small = code.0 in let narrow = code.1 in
    let opcode : bits word 0 7 ≡ 0x13 = omega (arith, s, small, narrow) in
    let f3 : funct3_of word ≡ f = omega (arith, s, small, narrow) in
    let f7 : funct7_of word ≡ g = omega (arith, s, small, narrow) in
    let rd_same : rd_of word ≡ rd = same_register (rd_of word) rd (omega (arith, s, small, narrow)) in
    let rs1_same : rs1_of word ≡ rs1 = same_register (rs1_of word) rs1 (omega (arith, s, small, narrow)) in
    let value : bits word 20 5 ≡ amount = omega (arith, s, small, narrow) in
    let made : ShiftOp → Instr = λ o. Shift o (rd_of word) (rs1_of word) (bits word 20 5) in
    let other : Option Instr = option_map (λ o. Immediate o (rd_of word) (rs1_of word) (i_immediate word)) (immediate_op (funct3_of word)) in
    decoded-by word 0x13 opcode
    ∙ ap (λ (k : ℕ). if (k == 1) || (k == 5) then decoded_shift word else other) f3
    ∙ ap (λ b. if b then decoded_shift word else other) code.2
    ∙ ap (λ f. option_map made (shift_op f (funct7_of word))) f3 ∙ ap (λ g. option_map made (shift_op f g)) f7
    ∙ ap (option_map made) code.3 ∙ cc (rd_same, rs1_same, value)

registers-code : (op : RegisterOp) → let f = register_funct3 op in let g = register_funct7 op in
    (f < 8) × (g < 128) × (register_op f g ≡ Some op)
registers-code Add = (omega arith, omega arith, refl)
registers-code Sub = (omega arith, omega arith, refl)
registers-code Sll = (omega arith, omega arith, refl)
registers-code Slt = (omega arith, omega arith, refl)
registers-code Sltu = (omega arith, omega arith, refl)
registers-code Xor = (omega arith, omega arith, refl)
registers-code Srl = (omega arith, omega arith, refl)
registers-code Sra = (omega arith, omega arith, refl)
registers-code Or = (omega arith, omega arith, refl)
registers-code And = (omega arith, omega arith, refl)

registers-by : (word f g : ℕ) (op : RegisterOp) (rd rs1 rs2 : Register) → (f < 8) × (g < 128) × (register_op f g ≡ Some op)
    → IsInstr (Registers op rd rs1 rs2) × (word ≡ r_type 0x33 rd f rs1 rs2.0 g) → decoded word ≡ Some (Registers op rd rs1 rs2)
registers-by word f g op rd rs1 rs2 code s =
    let small = code.0 in let narrow = code.1 in
    let opcode : bits word 0 7 ≡ 0x33 = omega (arith, s, small, narrow) in
    let f3 : funct3_of word ≡ f = omega (arith, s, small, narrow) in
    let f7 : funct7_of word ≡ g = omega (arith, s, small, narrow) in
    let rd_same : rd_of word ≡ rd = same_register (rd_of word) rd (omega (arith, s, small, narrow)) in
    let rs1_same : rs1_of word ≡ rs1 = same_register (rs1_of word) rs1 (omega (arith, s, small, narrow)) in
    let rs2_same : rs2_of word ≡ rs2 = same_register (rs2_of word) rs2 (omega (arith, s, small, narrow)) in
    let made : RegisterOp → Instr = λ o. Registers o (rd_of word) (rs1_of word) (rs2_of word) in
    decoded-by word 0x33 opcode
    ∙ ap (λ f. option_map made (register_op f (funct7_of word))) f3 ∙ ap (λ g. option_map made (register_op f g)) f7
    ∙ ap (option_map made) code.2 ∙ cc (rd_same, rs1_same, rs2_same)

fence : (word : ℕ) → Spells word Fence → decoded word ≡ Some Fence
fence word s = decoded-by word 0x0F s.1 ∙ ap (λ f. if f == 0 then Some Fence else None) s.2

ecall : (word : ℕ) → Spells word Ecall → decoded word ≡ Some Ecall
unfolding decoded
ecall word s = ap decoded s

ebreak : (word : ℕ) → Spells word Ebreak → decoded word ≡ Some Ebreak
unfolding decoded
ebreak word s = ap decoded s

pub spelled-decoded : (word : ℕ) (i : Instr) → Spells word i → decoded word ≡ Some i
spelled-decoded word (Upper op rd n) s = upper word op rd n s
spelled-decoded word (Jal rd offset) s = jal word rd offset s
spelled-decoded word (Jalr rd rs1 offset) s = jalr word rd rs1 offset s
spelled-decoded word (Branch op rs1 rs2 offset) s = branch-by word (branch_funct3 op) op rs1 rs2 offset (branch-code op) s
spelled-decoded word (Load op rd rs1 offset) s = load-by word (load_funct3 op) op rd rs1 offset (load-code op) s
spelled-decoded word (Store op rs1 rs2 offset) s = store-by word (store_funct3 op) op rs1 rs2 offset (store-code op) s
spelled-decoded word (Immediate op rd rs1 n) s = immediate-by word (immediate_funct3 op) op rd rs1 n (immediate-code op) s
spelled-decoded word (Shift op rd rs1 amount) s = shift-by word (shift_funct3 op) (shift_funct7 op) op rd rs1 amount (shift-code op) s
spelled-decoded word (Registers op rd rs1 rs2) s = registers-by word (register_funct3 op) (register_funct7 op) op rd rs1 rs2 (registers-code op) s
spelled-decoded word Fence s = fence word s
spelled-decoded word Ecall s = ecall word s
spelled-decoded word Ebreak s = ebreak word s

pub one-spelled : (word : ℕ) (i j : Instr) → Spells word i → Spells word j → i ≡ j
one-spelled word i j s t = let same : Some i ≡ Some j = sym (spelled-decoded word i s) ∙ spelled-decoded word j t in cc same
