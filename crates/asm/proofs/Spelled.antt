-- Whether a jump or a branch has a word, as a test.
use Rattle.std.specs.Prelude.{Result, ◌&&◌, ◌⊎◌, IsTrue, int_le, not, if◌then◌else◌}
use Rattle.std.proofs.Common.{◌≡◌, ℕ, ◌==◌, ◌↔◌, Bool, true, false, Ok, Err, ℤ, pos, negsuc, ◌≤ℤ◌, refl, sym, ap, ◌∙◌, arith, lt-ltb, eq-eqb}
use Rattle.std.proofs.lemmas.Int.{ints}
use Rattle.std.proofs.lemmas.Bool.{and_from, and_parts, eqb-true, ltb-true}
use Rattle.model.specs.declared.instructions.BranchOp.{BranchOp}
use Rattle.model.specs.declared.instructions.Register.{Register}
use Rattle.model.specs.declared.instructions.Instr.TheVariants.{Jal, Branch}
use Rattle.model.specs.Machine.Instructions.{IsInstr, bits, word_of}
use Rattle.asm.specs.Meaning.{is_offset, is_register}

le-true : (a b : ℤ) → a ≤ℤ b → int_le a b ≡ true
le-true a b h = grind (arith, ints)

le-from : (a b : ℤ) → int_le a b ≡ true → a ≤ℤ b
le-from a b h = grind (arith, ints)

offset-true : (least greatest z : ℤ) → least ≤ℤ z → z ≤ℤ greatest → bits (word_of z) 0 1 ≡ 0 → is_offset least greatest z ≡ true
offset-true least greatest z low high even =
    and_from (int_le least z && int_le z greatest) (bits (word_of z) 0 1 == 0)
    (and_from (int_le least z) (int_le z greatest) (le-true least z low) (le-true z greatest high)) (eq-eqb _ _ even)

record IsOffset (least greatest z : ℤ) : Type 0 where
  low : least ≤ℤ z
  high : z ≤ℤ greatest
  even : bits (word_of z) 0 1 ≡ 0

offset-from : (least greatest z : ℤ) → is_offset least greatest z ≡ true → IsOffset least greatest z
offset-from least greatest z h =
    let both = and_parts (int_le least z && int_le z greatest) (bits (word_of z) 0 1 == 0) h in
    let ends = and_parts (int_le least z) (int_le z greatest) both.0 in
    record { low = le-from least z ends.0; high = le-from z greatest ends.1; even = eqb-true _ _ both.1 }

abbrev pub jump_fits : Register → ℤ → Bool
jump_fits rd offset = is_register rd && is_offset (negsuc 1048575) (pos 1048574) offset

pub jump-true : (rd : Register) (offset : ℤ) → IsInstr (Jal rd offset) → jump_fits rd offset ≡ true
jump-true rd offset (small, (low, high, even)) = and_from _ _ (lt-ltb rd.0 32 small) (offset-true (negsuc 1048575) (pos 1048574) offset low high even)

pub jump-from : (rd : Register) (offset : ℤ) → jump_fits rd offset ≡ true → IsInstr (Jal rd offset)
jump-from rd offset h =
    let both = and_parts (is_register rd) (is_offset (negsuc 1048575) (pos 1048574) offset) h in
    let far = offset-from (negsuc 1048575) (pos 1048574) offset both.1 in
    (ltb-true rd.0 32 both.0, (far.low, far.high, far.even))

abbrev pub branch_fits : Register → Register → ℤ → Bool
branch_fits rs1 rs2 offset = is_register rs1 && is_register rs2 && is_offset (negsuc 4095) (pos 4094) offset

pub branch-true : (op : BranchOp) (rs1 rs2 : Register) (offset : ℤ) → IsInstr (Branch op rs1 rs2 offset) → branch_fits rs1 rs2 offset ≡ true
branch-true op rs1 rs2 offset (small, few, (low, high, even)) =
    and_from (is_register rs1 && is_register rs2) _ (and_from _ _ (lt-ltb rs1.0 32 small) (lt-ltb rs2.0 32 few))
    (offset-true (negsuc 4095) (pos 4094) offset low high even)

pub branch-from : (op : BranchOp) (rs1 rs2 : Register) (offset : ℤ) → branch_fits rs1 rs2 offset ≡ true → IsInstr (Branch op rs1 rs2 offset)
branch-from op rs1 rs2 offset h =
    let both = and_parts (is_register rs1 && is_register rs2) (is_offset (negsuc 4095) (pos 4094) offset) h in
    let registers = and_parts (is_register rs1) (is_register rs2) both.0 in
    let far = offset-from (negsuc 4095) (pos 4094) offset both.1 in
    (ltb-true rs1.0 32 registers.0, ltb-true rs2.0 32 registers.1, (far.low, far.high, far.even))
