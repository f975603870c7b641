-- The results of operations lie in the ranges of the rules: one lemma a case, over plain numbers.
use Rattle.std.proofs.Common.{ℕ, zero, suc, ◌≡◌, ◌∙◌, ◌&&◌, ◌+◌, ◌-◌, ◌*◌, ◌/◌, ◌%◌, ◌^◌, ◌<◌, ◌≤◌, ℤ, pos, negsuc, Bool, true, false, if◌then◌else◌, nat_lt}
use Rattle.std.proofs.Common.{nat_le, inl, inr, refl, sym, ap, subst, arith}
use Rattle.std.specs.Prelude.{bit_and, bit_or, bit_xor, int_lt, max}
use Rattle.std.proofs.lemmas.Bool.{eqb-true, and_parts, ltb-true, leb-true}
use Rattle.std.proofs.lemmas.Bool.Decides.{leb_tells}
use Rattle.std.proofs.Math.Nat.{div-le_self, div-mul-le_self}
use Rattle.std.specs.Int.{int_shr}
use Rattle.std.proofs.lemmas.Nat.{and_le_l, and_le_r, le-div, le_or_l, le_or_r, mul-le, or_lt, pow_pos, xor_lt}
use Rattle.model.specs.declared.instructions.LoadOp.{LoadOp}
use Rattle.model.specs.declared.instructions.LoadOp.TheVariants.{Lb, Lh, Lw, Lbu, Lhu}
use Rattle.model.specs.declared.instructions.ImmediateOp.{ImmediateOp}
use Rattle.model.specs.declared.instructions.ImmediateOp.TheVariants.{Addi, Slti, Sltiu, Xori, Ori, Andi}
use Rattle.model.specs.declared.instructions.ShiftOp.{ShiftOp}
use Rattle.model.specs.declared.instructions.ShiftOp.TheVariants.{Slli, Srli, Srai}
use Rattle.model.specs.declared.instructions.RegisterOp.{RegisterOp}
use Rattle.model.specs.declared.instructions.RegisterOp.TheVariants.{Add, Sub, Sll, Slt, Sltu, Xor, Srl, Sra, Or, And}
use Rattle.model.specs.declared.ranges.Range.{Range}
use Rattle.model.specs.Machine.Instructions.{IsImmediate, signed, word_of}
use Rattle.model.specs.Machine.ProgramMemory.{FitsSize}
use Rattle.model.specs.Machine.Effects.{immediate_result, load_result, load_size, one_if, plus, register_result, shift_result}
use Rattle.model.specs.Acceptance.RangeRules.{and_range, difference_range, if_positive, immediate_range, is_single, left_by, left_range, load_range, ones_above}
use Rattle.model.specs.Acceptance.RangeRules.{ones_within, or_range, range, register_range, right_by, right_range, shift_range, sum_range, xor_range}
use Rattle.model.specs.Acceptance.Ranges.{full, moved, single}
use Rattle.ranges.specs.Inside.{LiesIn}

-- ---- tests

one-in : (test : Bool) → LiesIn (one_if test) (range 0 1)
one-in true = (omega arith, omega arith)
one-in false = (omega arith, omega arith)

-- a number lies in one range where a test holds, and else in the other
pub chosen : (n : ℕ) (r other : Range) (b : Bool) → LiesIn n other → (b ≡ true → LiesIn n r) → LiesIn n (if b then r else other)
chosen n r other true otherwise inside = inside refl
chosen n r other false otherwise inside = otherwise

-- the other is the full one for a word
tested : (n : ℕ) (r : Range) (b : Bool) → n < 2 ^ 32 → (b ≡ true → LiesIn n r) → LiesIn n (if b then r else full)
tested n r b small inside = chosen n r full b (omega arith, omega arith) inside

-- ---- sums and differences

sum-in : (a b : ℕ) (r s : Range) → LiesIn a r → LiesIn b s → LiesIn ((a + b) % 2 ^ 32) (sum_range r s)
sum-in a b r s here there =
    tested ((a + b) % 2 ^ 32) (range (r.low + s.low) (r.high + s.high)) (nat_lt (r.high + s.high) (2 ^ 32)) (omega arith)
    (λ h. let fits = ltb-true (r.high + s.high) (2 ^ 32) h in
    (omega (arith, fits, here.0, here.1, there.0, there.1), omega (arith, fits, here.0, here.1, there.0, there.1)))

difference-in : (a b : ℕ) (r s : Range) → a < 2 ^ 32 → b < 2 ^ 32 → LiesIn a r → LiesIn b s → LiesIn ((a + (2 ^ 32 - b)) % 2 ^ 32) (difference_range r s)
difference-in a b r s small less here there =
    tested ((a + (2 ^ 32 - b)) % 2 ^ 32) (range (r.low - s.high) (r.high - s.low)) (nat_le s.high r.low) (omega arith)
    (λ h. let fits = leb-true s.high r.low h in
    (omega (arith, fits, small, less, here.0, here.1, there.0, there.1), omega (arith, fits, small, less, here.0, here.1, there.0, there.1)))

-- ---- bits

-- a number with some low bits, all 1, that covers what a bound does
record Ones (count n m : ℕ) : Type 0 where
  size : ℕ
  covers : (a : ℕ) → a ≤ n → a < 2 ^ count → a < 2 ^ size
  form : m ≡ 2 ^ size - 1

ones-in : (count n : ℕ) → Ones count n (ones_within count n)
unfolding ones_within
ones-in zero n = record { size = 0; covers = λ a under less. less; form = refl }
ones-in (suc count) n =
    elim (leb_tells (2 ^ count) n) [
      | inl above ↦ record {
        size = suc count;
        covers = λ a under less. less;
        form =
            ap (λ (b : Bool). if b then 2 ^ suc count - 1 else ones_within count n) above.0;
      }
      | inr below ↦
          let rest = ones-in count n in
          record {
            size = rest.size;
            covers = λ a under less. rest.covers a under (omega (arith, under, below.1));
            form = ap (λ (b : Bool). if b then 2 ^ suc count - 1 else ones_within count n) below.0 ∙ rest.form;
          }
    ]

or-below : (a b n : ℕ) → a ≤ n → b ≤ n → a < 2 ^ 32 → b < 2 ^ 32 → bit_or a b ≤ ones_above n
or-below a b n left right small less =
    let ones = ones-in 32 n in
    let under = or_lt ones.size a b (ones.covers a left small) (ones.covers b right less) in
    omega (arith, under, ones.form)

xor-below : (a b n : ℕ) → a ≤ n → b ≤ n → a < 2 ^ 32 → b < 2 ^ 32 → bit_xor a b ≤ ones_above n
xor-below a b n left right small less =
    let ones = ones-in 32 n in
    let under = xor_lt ones.size a b (ones.covers a left small) (ones.covers b right less) in
    omega (arith, under, ones.form)

and-in : (a b : ℕ) (r s : Range) → LiesIn a r → LiesIn b s → LiesIn (bit_and a b) (and_range r s)
and-in a b r s here there = (omega arith, omega (arith, and_le_l a b, and_le_r a b, here.1, there.1))

or-in : (a b : ℕ) (r s : Range) → a < 2 ^ 32 → b < 2 ^ 32 → LiesIn a r → LiesIn b s → LiesIn (bit_or a b) (or_range r s)
or-in a b r s small less here there = (
  omega (arith, le_or_l a b, le_or_r a b, here.0, there.0),
  or-below a b (max r.high s.high) (omega (arith, here.1)) (omega (arith, there.1)) small less,
)

xor-in : (a b : ℕ) (r s : Range) → a < 2 ^ 32 → b < 2 ^ 32 → LiesIn a r → LiesIn b s → LiesIn (bit_xor a b) (xor_range r s)
xor-in a b r s small less here there =
    (omega arith, xor-below a b (max r.high s.high) (omega (arith, here.1)) (omega (arith, there.1)) small less)

-- ---- loads

pub loads-in : (op : LoadOp) (n : ℕ) → FitsSize (load_size op) n → LiesIn (load_result op n) (load_range op)
loads-in Lb n fits = (omega arith, grind arith)
loads-in Lh n fits = (omega arith, grind arith)
loads-in Lw n fits = (omega arith, grind arith)
loads-in Lbu n fits = (omega arith, grind arith)
loads-in Lhu n fits = (omega arith, grind arith)

-- ---- shifts

left-in : (a count : ℕ) (r : Range) → LiesIn a r → LiesIn (a * 2 ^ count % 2 ^ 32) (left_range r count)
left-in a count r here =
    tested (a * 2 ^ count % 2 ^ 32) (range (r.low * 2 ^ count) (r.high * 2 ^ count)) (nat_lt (r.high * 2 ^ count) (2 ^ 32)) (omega arith)
    (λ h.
    let fits = ltb-true (r.high * 2 ^ count) (2 ^ 32) h in
    let low : r.low * 2 ^ count ≤ a * 2 ^ count = mul-le r.low (2 ^ count) a (2 ^ count) here.0 (omega arith) in
    let high : a * 2 ^ count ≤ r.high * 2 ^ count = mul-le a (2 ^ count) r.high (2 ^ count) here.1 (omega arith) in
    (omega (arith, fits, low, high), omega (arith, fits, low, high)))

quotients : (m n k : ℕ) → 0 < k → m ≤ n → m / k ≤ n / k
quotients m n k some below = le-div (m / k) n k some (omega (arith, div-mul-le_self m k, below))

right-in : (a count : ℕ) (r : Range) → LiesIn a r → LiesIn (a / 2 ^ count) (right_range r count)
right-in a count r here = (quotients r.low a (2 ^ count) (pow_pos count) here.0, quotients a r.high (2 ^ count) (pow_pos count) here.1)

unsigned : (a : ℕ) → a < 2 ^ 31 → signed a ≡ pos a
unsigned a small = grind arith

small-word : (n : ℕ) → n < 2 ^ 31 → word_of (pos n) ≡ n
small-word n small = grind arith

-- what an arithmetic shift makes of a word is a word
shift-small : (z : ℤ) (count : ℕ) → word_of z < 2 ^ 32 → word_of (int_shr z count) < 2 ^ 32
shift-small (pos n) count less = omega (arith, div-le_self n (2 ^ count), less)
shift-small (negsuc n) count less = omega arith

signed-word : (a : ℕ) → a < 2 ^ 32 → word_of (signed a) < 2 ^ 32
signed-word a small = grind arith

-- a shift of a number without its sign bit is one without sign
unsigned-shift : (a count : ℕ) → a < 2 ^ 31 → word_of (int_shr (signed a) count) ≡ a / 2 ^ count
unsigned-shift a count small =
    ap (λ (z : ℤ). word_of (int_shr z count)) (unsigned a small) ∙ small-word (a / 2 ^ count) (omega (arith, div-le_self a (2 ^ count), small))

arithmetic-in : (a count : ℕ) (r out : Range) → a < 2 ^ 32 → LiesIn a r → LiesIn (a / 2 ^ count) out → LiesIn (shift_result Srai a count) (if_positive r out)
arithmetic-in a count r out small here inside =
    tested (shift_result Srai a count) out (nat_lt r.high (2 ^ 31)) (shift-small (signed a) count (signed-word a small))
    (λ h.
    let fits = ltb-true r.high (2 ^ 31) h in
    subst (λ (n : ℕ). LiesIn n out) (sym (unsigned-shift a count (omega (arith, fits, here.1)))) inside)

pub shifts-in : (op : ShiftOp) (a amount : ℕ) (r : Range) → a < 2 ^ 32 → amount < 2 ^ 5 → LiesIn a r →
    LiesIn (shift_result op a amount) (shift_range op r amount)
shifts-in Slli a amount r small less here = left-in a amount r here
shifts-in Srli a amount r small less here = right-in a amount r here
shifts-in Srai a amount r small less here = arithmetic-in a amount r (right_range r amount) small here (right-in a amount r here)

-- by an amount that is known where its range is single
pub known : (b : ℕ) (s : Range) → LiesIn b s → is_single s ≡ true → b ≡ s.low
known b s there is =
    let ends : s.low ≡ s.high = eqb-true s.low s.high is in
    omega (arith, ends, there.0, there.1)

left-by-in : (a b : ℕ) (r s : Range) → LiesIn a r → LiesIn b s → LiesIn (a * 2 ^ (b % 2 ^ 5) % 2 ^ 32) (left_by r s)
left-by-in a b r s here there =
    tested (a * 2 ^ (b % 2 ^ 5) % 2 ^ 32) (left_range r (s.low % 2 ^ 5)) (is_single s) (omega arith)
    (λ h. subst (λ (m : ℕ). LiesIn (a * 2 ^ (b % 2 ^ 5) % 2 ^ 32) (left_range r (m % 2 ^ 5))) (known b s there h) (left-in a (b % 2 ^ 5) r here))

right-by-in : (a b : ℕ) (r s : Range) → LiesIn a r → LiesIn b s → LiesIn (a / 2 ^ (b % 2 ^ 5)) (right_by r s)
right-by-in a b r s here there =
    chosen (a / 2 ^ (b % 2 ^ 5)) (right_range r (s.low % 2 ^ 5)) (range 0 r.high) (is_single s)
    (omega arith, omega (arith, div-le_self a (2 ^ (b % 2 ^ 5)), here.1))
    (λ h. subst (λ (m : ℕ). LiesIn (a / 2 ^ (b % 2 ^ 5)) (right_range r (m % 2 ^ 5))) (known b s there h) (right-in a (b % 2 ^ 5) r here))

-- ---- operations of two registers

pub registers-in : (op : RegisterOp) (a b : ℕ) (r s : Range) → a < 2 ^ 32 → b < 2 ^ 32 → LiesIn a r → LiesIn b s →
    LiesIn (register_result op a b) (register_range op r s)
registers-in Add a b r s small less here there = sum-in a b r s here there
registers-in Sub a b r s small less here there = difference-in a b r s small less here there
registers-in Sll a b r s small less here there = left-by-in a b r s here there
registers-in Slt a b r s small less here there = one-in (int_lt (signed a) (signed b))
registers-in Sltu a b r s small less here there = one-in (nat_lt a b)
registers-in Xor a b r s small less here there = xor-in a b r s small less here there
registers-in Srl a b r s small less here there = right-by-in a b r s here there
registers-in Sra a b r s small less here there = arithmetic-in a (b % 2 ^ 5) r (right_by r s) small here (right-by-in a b r s here there)
registers-in Or a b r s small less here there = or-in a b r s small less here there
registers-in And a b r s small less here there = and-in a b r s here there

-- ---- operations with an immediate

up-in : (r : Range) (n m : ℕ) → LiesIn n r → m ≤ 2047 → LiesIn ((n + m) % 2 ^ 32) (moved r (pos m))
up-in r n m here less =
    tested ((n + m) % 2 ^ 32) (range (r.low + m) (r.high + m)) (nat_lt (r.low + m) (2 ^ 32) && nat_lt (r.high + m) (2 ^ 32)) (omega arith)
    (λ h.
    let fits : r.high + m < 2 ^ 32 = ltb-true (r.high + m) (2 ^ 32) (and_parts (nat_lt (r.low + m) (2 ^ 32)) (nat_lt (r.high + m) (2 ^ 32)) h).1 in
    (omega (arith, fits, here.0, here.1), omega (arith, fits, here.0, here.1)))

down-in : (r : Range) (n m : ℕ) → n < 2 ^ 32 → LiesIn n r → m ≤ 2047 → LiesIn ((n + (2 ^ 32 - suc m)) % 2 ^ 32) (moved r (negsuc m))
down-in r n m small here less =
    tested ((n + (2 ^ 32 - suc m)) % 2 ^ 32) (range (r.low - (m + 1)) (r.high - (m + 1))) (nat_le (m + 1) r.low && nat_le (m + 1) r.high) (omega arith)
    (λ h.
    let fits : m + 1 ≤ r.low = leb-true (m + 1) r.low (and_parts (nat_le (m + 1) r.low) (nat_le (m + 1) r.high) h).0 in
    (omega (arith, fits, small, here.0, here.1), omega (arith, fits, small, here.0, here.1)))

moved-in : (r : Range) (n : ℕ) (z : ℤ) → n < 2 ^ 32 → IsImmediate z → LiesIn n r → LiesIn (plus n z) (moved r z)
moved-in r n (pos m) small fits here =
    let less : m ≤ 2047 = grind (arith, fits) in
    up-in r n m here less
moved-in r n (negsuc m) small fits here =
    let less : m ≤ 2047 = grind (arith, fits) in
    down-in r n m small here less

immediate-small : (z : ℤ) → IsImmediate z → word_of z < 2 ^ 32
immediate-small z fits = grind arith

pub single-in : (n : ℕ) → LiesIn n (single n)
single-in n = (omega arith, omega arith)

pub immediates-in : (op : ImmediateOp) (a : ℕ) (immediate : ℤ) (r : Range) → a < 2 ^ 32 → IsImmediate immediate → LiesIn a r
    → LiesIn (immediate_result op a immediate) (immediate_range op r immediate)
immediates-in Addi a immediate r small fits here = moved-in r a immediate small fits here
immediates-in Slti a immediate r small fits here = one-in (int_lt (signed a) immediate)
immediates-in Sltiu a immediate r small fits here = one-in (nat_lt a (word_of immediate))
immediates-in Xori a immediate r small fits here =
    xor-in a (word_of immediate) r (single (word_of immediate)) small (immediate-small immediate fits) here (single-in (word_of immediate))
immediates-in Ori a immediate r small fits here =
    or-in a (word_of immediate) r (single (word_of immediate)) small (immediate-small immediate fits) here (single-in (word_of immediate))
immediates-in Andi a immediate r small fits here =
    and-in a (word_of immediate) r (single (word_of immediate)) here (single-in (word_of immediate))
