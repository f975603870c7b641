-- What ADDI and JAL write lies in the range after them, and the other registers stay in theirs.
use Rattle.std.proofs.Common.{ℕ, suc, ◌≡◌, ◌==◌, ◌&&◌, ◌+◌, ◌-◌, ◌%◌, ◌^◌, ◌<◌, ◌≤◌, ℤ, pos, negsuc, Bool, true, false, if◌then◌else◌, nat_lt, nat_le, List}
use Rattle.std.proofs.Common.{length, refl, ap, arith}
use Rattle.std.proofs.lemmas.Bool.{eqb-true, and_parts, ltb-true, leb-true}
use Rattle.model.specs.declared.instructions.Cause.TheVariants.{Misaligned}
use Rattle.model.specs.declared.instructions.Exec.{Exec}
use Rattle.model.specs.declared.instructions.Exec.TheVariants.{Next, Trap}
use Rattle.model.specs.declared.instructions.ImmediateOp.TheVariants.{Addi}
use Rattle.model.specs.declared.instructions.Instr.TheVariants.{Immediate, Jal}
use Rattle.model.specs.declared.instructions.Register.{Register}
use Rattle.model.specs.declared.ranges.Range.{Range}
use Rattle.model.specs.Machine.Instructions.{IsImmediate, IsRegister}
use Rattle.model.specs.Machine.ProgramMemory.{Content, RegisterFile, read, write}
use Rattle.model.specs.Machine.Effects.{effect, goes_on, jumps, next_pc, plus, stays}
use Rattle.model.specs.Acceptance.RangeRules.{is_single, ranges_after, value_or}
use Rattle.model.specs.Acceptance.Ranges.{full, moved, range_of, single, with_range}
use Rattle.model.specs.Acceptance.ThreadInvariants.{LieWithin}
use Rattle.ranges.specs.Inside.{LiesIn}
use Rattle.ranges.proofs.Laws.{written_within}

-- ---- ADDI

up_in : (r : Range) (n m : ℕ) (b : Bool) → LiesIn n r → n < 2 ^ 32 → m ≤ 2047 → (b ≡ true → r.high + m < 2 ^ 32)
    → LiesIn ((n + m) % 2 ^ 32) (if b then record { low = r.low + m; high = r.high + m } else full)
up_in r n m true inside small less fits = let fit = fits refl in (omega (arith, fit, inside.0, inside.1), omega (arith, fit, inside.0, inside.1))
up_in r n m false inside small less fits = (omega arith, omega arith)

down_in : (r : Range) (n m : ℕ) (b : Bool) → LiesIn n r → n < 2 ^ 32 → m ≤ 2047 → (b ≡ true → m + 1 ≤ r.low)
    → LiesIn ((n + (2 ^ 32 - suc m)) % 2 ^ 32) (if b then record { low = r.low - (m + 1); high = r.high - (m + 1) } else full)
down_in r n m true inside small less fits = let fit = fits refl in (omega (arith, fit, inside.0, inside.1), omega (arith, fit, inside.0, inside.1))
down_in r n m false inside small less fits = (omega arith, omega arith)

moved_in : (r : Range) (n : ℕ) (z : ℤ) → LiesIn n r → n < 2 ^ 32 → IsImmediate z → LiesIn (plus n z) (moved r z)
moved_in r n (pos m) inside small fits =
    let less : m ≤ 2047 = grind (arith, fits) in
    up_in r n m (nat_lt (r.low + m) (2 ^ 32) && nat_lt (r.high + m) (2 ^ 32)) inside small less
    (λ h. ltb-true (r.high + m) (2 ^ 32) (and_parts _ _ h).1)
moved_in r n (negsuc m) inside small fits =
    let less : m ≤ 2047 = grind (arith, fits) in
    down_in r n m (nat_le (m + 1) r.low && nat_le (m + 1) r.high) inside small less
    (λ h. leb-true (m + 1) r.low (and_parts _ _ h).0)

addi_in : (r : Range) (n : ℕ) (z : ℤ) → LiesIn n r → n < 2 ^ 32 → IsImmediate z
    → LiesIn (plus n z) (value_or (is_single r) (plus r.low z) (moved r z))
addi_in r n z inside small fits =
    elim (is_single r) as (λ b. is_single r ≡ b → LiesIn (plus n z) (value_or b (plus r.low z) (moved r z))) [
      | true ↦ λ is.
          let ends : r.low ≡ r.high = eqb-true r.low r.high is in
          let same : n ≡ r.low = omega (arith, ends, inside.0, inside.1) in
          let sum : plus n z ≡ plus r.low z = ap (λ (m : ℕ). plus m z) same in
          (omega (arith, sum), omega (arith, sum))
      | false ↦ λ isnt. moved_in r n z inside small fits
    ] refl

-- ---- the two instructions

pub addi-keeps : (r : RegisterFile) (content : Content) (ranges : List Range) (rd rs1 : Register) (immediate : ℤ)
    → length r.words ≡ 32 → length ranges ≡ 31 → ((x : Register) → read r x < 2 ^ 32) → IsRegister rd → IsRegister rs1 → IsImmediate immediate →
    LieWithin r ranges
    → LieWithin (effect r content (Immediate Addi rd rs1 immediate)).registers (ranges_after r.pc (Immediate Addi rd rs1 immediate) ranges)
unfolding effect ranges_after
addi-keeps r content ranges rd rs1 immediate words long small target source fits before =
    written_within r ranges rd (plus (read r rs1) immediate)
    (value_or (is_single (range_of ranges rs1)) (plus (range_of ranges rs1).low immediate) (moved (range_of ranges rs1) immediate))
    words long target before (addi_in (range_of ranges rs1) (read r rs1) immediate (before rs1.0 source) (small rs1) fits)

jumped : (r : RegisterFile) (content : Content) (written : RegisterFile) (target : ℕ) (behind : List Range) → LieWithin written behind
    → (jumps r content written target).exec ≡ Next → LieWithin (jumps r content written target).registers behind
jumped r content written target behind kept goes =
    elim (target % 4 == 0) as (λ b. (if b then goes_on (record written { pc = target }) content else stays r content (Trap Misaligned)).exec ≡ Next
    → LieWithin (if b then goes_on (record written { pc = target }) content else stays r content (Trap Misaligned)).registers behind) [
      | true ↦ λ h. kept
      | false ↦ λ h. absurd (let clash : ◌≡◌ {A = Exec} (Trap Misaligned) Next = h in cc)
    ] goes

pub jal-keeps : (r : RegisterFile) (content : Content) (ranges : List Range) (rd : Register) (offset : ℤ)
    → length r.words ≡ 32 → length ranges ≡ 31 → IsRegister rd → LieWithin r ranges
    → (effect r content (Jal rd offset)).exec ≡ Next
    → LieWithin (effect r content (Jal rd offset)).registers (ranges_after r.pc (Jal rd offset) ranges)
unfolding effect ranges_after
jal-keeps r content ranges rd offset words long target before goes =
    jumped r content (write r rd (next_pc r)) (plus r.pc offset) (with_range ranges rd (single (next_pc r)))
    (written_within r ranges rd (next_pc r) (single (next_pc r)) words long target before (omega arith, omega arith)) goes
