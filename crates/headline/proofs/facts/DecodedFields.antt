-- What a word spells has fields in their ranges.
use Rattle.std.proofs.Common.{◌≡◌, ◌==◌, ◌||◌, ℕ, ◌+◌, ◌*◌, ◌^◌, ◌<◌, ◌≤◌, Bool, true, false, pos, Option, Some, None, if◌then◌else◌, nat_lt, refl, subst}
use Rattle.std.proofs.Common.{arith}
use Rattle.std.specs.Prelude.{◌-ℤ◌, option_map}
use Rattle.std.proofs.lemmas.Bool.{ltb-false, ltb-true}
use Rattle.std.proofs.lemmas.Int.{ints}
use Rattle.model.specs.declared.instructions.BranchOp.{BranchOp}
use Rattle.model.specs.declared.instructions.ImmediateOp.{ImmediateOp}
use Rattle.model.specs.declared.instructions.Instr.{Instr}
use Rattle.model.specs.declared.instructions.Instr.TheVariants.{Branch, Load, Store, Immediate, Shift, Registers}
use Rattle.model.specs.declared.instructions.LoadOp.{LoadOp}
use Rattle.model.specs.declared.instructions.RegisterOp.{RegisterOp}
use Rattle.model.specs.declared.instructions.ShiftOp.{ShiftOp}
use Rattle.model.specs.declared.instructions.StoreOp.{StoreOp}
use Rattle.model.specs.Machine.Instructions.{IsBranchOffset, IsImmediate, IsInstr, IsJumpOffset, bits}
use Rattle.model.specs.Machine.Decoding.{b_offset, branch_op, decoded, funct3_of, funct7_of, i_immediate, immediate_op, j_offset, load_op, rd_of, register_op}
use Rattle.model.specs.Machine.Decoding.{rs1_of, rs2_of, s_immediate, shift_op, sign_extended, store_op}

abbrev HaveFields : Option Instr → Type 0
HaveFields None = Unit {0}
HaveFields (Some instr) = IsInstr instr

either : (test : Bool) (a b : Option Instr) → HaveFields a → HaveFields b → HaveFields (if test then a else b)
either true a b first second = first
either false a b first second = second

five_bits : (word low : ℕ) → bits word low 5 < 2 ^ 5
five_bits word low = omega arith

extended : (n : ℕ) (b : Bool) → n < 2 ^ 12 → nat_lt n (2 ^ 11) ≡ b → IsImmediate (if b then pos n else (pos n -ℤ pos (2 * 2 ^ 11)))
extended n true fits test = let less : n < 2 ^ 11 = ltb-true n (2 ^ 11) test in grind (arith, ints, less)
extended n false fits test = let least : 2 ^ 11 ≤ n = ltb-false n (2 ^ 11) test in grind (arith, ints, least, fits)

i-bits : (word : ℕ) → IsImmediate (i_immediate word)
i-bits word = extended (bits word 20 12) (nat_lt (bits word 20 12) (2 ^ 11)) (omega arith) refl

s-bits : (word : ℕ) → IsImmediate (s_immediate word)
s-bits word = extended (bits word 7 5 + 2 ^ 5 * bits word 25 7) (nat_lt (bits word 7 5 + 2 ^ 5 * bits word 25 7) (2 ^ 11)) (omega arith) refl

even-branch : (m : ℕ) → m < 2 ^ 12 → IsBranchOffset (sign_extended (2 * m) (2 ^ 12))
even-branch m fits = grind arith

even-jump : (m : ℕ) → m < 2 ^ 20 → IsJumpOffset (sign_extended (2 * m) (2 ^ 20))
even-jump m fits = grind arith

b-bits : (word : ℕ) → IsBranchOffset (b_offset word)
b-bits word =
    let m : ℕ = bits word 8 4 + 2 ^ 4 * bits word 25 6 + 2 ^ 10 * bits word 7 1 + 2 ^ 11 * bits word 31 1 in
    let same : 2 * m ≡ 2 * bits word 8 4 + 2 ^ 5 * bits word 25 6 + 2 ^ 11 * bits word 7 1 + 2 ^ 12 * bits word 31 1 = omega arith in
    subst (λ (n : ℕ). IsBranchOffset (sign_extended n (2 ^ 12))) same (even-branch m (omega arith))

j-bits : (word : ℕ) → IsJumpOffset (j_offset word)
j-bits word =
    let m : ℕ = bits word 21 10 + 2 ^ 10 * bits word 20 1 + 2 ^ 11 * bits word 12 8 + 2 ^ 19 * bits word 31 1 in
    let same : 2 * m ≡ 2 * bits word 21 10 + 2 ^ 11 * bits word 20 1 + 2 ^ 12 * bits word 12 8 + 2 ^ 20 * bits word 31 1 = omega arith in
    subst (λ (n : ℕ). IsJumpOffset (sign_extended n (2 ^ 20))) same (even-jump m (omega arith))

of_branch : (o : Option BranchOp) (word : ℕ) → HaveFields (option_map (λ op. Branch op (rs1_of word) (rs2_of word) (b_offset word)) o)
of_branch None word = tt
of_branch (Some op) word = (five_bits word 15, five_bits word 20, b-bits word)

of_load : (o : Option LoadOp) (word : ℕ) → HaveFields (option_map (λ op. Load op (rd_of word) (rs1_of word) (i_immediate word)) o)
of_load None word = tt
of_load (Some op) word = (five_bits word 7, five_bits word 15, i-bits word)

of_store : (o : Option StoreOp) (word : ℕ) → HaveFields (option_map (λ op. Store op (rs1_of word) (rs2_of word) (s_immediate word)) o)
of_store None word = tt
of_store (Some op) word = (five_bits word 15, five_bits word 20, s-bits word)

of_shift : (o : Option ShiftOp) (word : ℕ) → HaveFields (option_map (λ op. Shift op (rd_of word) (rs1_of word) (bits word 20 5)) o)
of_shift None word = tt
of_shift (Some op) word = (five_bits word 7, five_bits word 15, five_bits word 20)

of_registers : (o : Option RegisterOp) (word : ℕ) → HaveFields (option_map (λ op. Registers op (rd_of word) (rs1_of word) (rs2_of word)) o)
of_registers None word = tt
of_registers (Some op) word = (five_bits word 7, five_bits word 15, five_bits word 20)

of_immediate : (o : Option ImmediateOp) (word : ℕ) → HaveFields (option_map (λ op. Immediate op (rd_of word) (rs1_of word) (i_immediate word)) o)
of_immediate None word = tt
of_immediate (Some op) word = (five_bits word 7, five_bits word 15, i-bits word)

have-fields : (word : ℕ) → HaveFields (decoded word)
unfolding decoded
have-fields word =
    either (bits word 0 7 == 0x37) _ _ (five_bits word 7, omega arith) (
    either (bits word 0 7 == 0x17) _ _ (five_bits word 7, omega arith) (
    either (bits word 0 7 == 0x6F) _ _ (five_bits word 7, j-bits word) (
    either (bits word 0 7 == 0x67) _ _ (either (funct3_of word == 0) _ _ (five_bits word 7, five_bits word 15, i-bits word) tt) (
    either (bits word 0 7 == 0x63) _ _ (of_branch (branch_op (funct3_of word)) word) (
    either (bits word 0 7 == 0x03) _ _ (of_load (load_op (funct3_of word)) word) (
    either (bits word 0 7 == 0x23) _ _ (of_store (store_op (funct3_of word)) word) (
    either (bits word 0 7 == 0x13) _ _ (either ((funct3_of word == 1) || (funct3_of word == 5)) _ _ (of_shift (shift_op (funct3_of word) (funct7_of word)) word)
    (of_immediate (immediate_op (funct3_of word)) word)) (
    either (bits word 0 7 == 0x33) _ _ (of_registers (register_op (funct3_of word) (funct7_of word)) word) (
    either (bits word 0 7 == 0x0F) _ _ (either (funct3_of word == 0) _ _ tt tt) (
    either (bits word 0 7 == 0x73) _ _ (either (word == 0x73) _ _ tt (either (word == 0x100073) _ _ tt tt)) tt))))))))))

pub decoded-instr : (word : ℕ) (instr : Instr) → decoded word ≡ Some instr → IsInstr instr
decoded-instr word instr is = subst HaveFields is (have-fields word)
