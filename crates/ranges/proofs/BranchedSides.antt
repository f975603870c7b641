-- The ranges that a branch leaves its two sides hold the values of the sides.
use Rattle.std.proofs.Common.{ℕ, ◌≡◌, ◌≢◌, ◌==◌, ◌&&◌, ◌||◌, ◌+◌, ◌-◌, ◌^◌, ◌<◌, ◌≤◌, min, Bool, true, false, if◌then◌else◌, int_lt, nat_lt, nat_le, refl, sym}
use Rattle.std.proofs.Common.{◌∙◌, arith}
use Rattle.std.proofs.lemmas.Int.{ints}
use Rattle.std.proofs.lemmas.Bool.{and_parts, eqb-true, eqb-false, ltb-true, ltb-false, leb-true, not-true, not-false}
use Rattle.model.specs.declared.instructions.BranchOp.{BranchOp}
use Rattle.model.specs.declared.instructions.BranchOp.TheVariants.{Beq, Bne, Blt, Bge, Bltu, Bgeu}
use Rattle.model.specs.declared.ranges.Range.{Range}
use Rattle.model.specs.Acceptance.Edges.{empty_range, equal_sides, have_one_sign, if_one_sign, joined, lesser_sides, narrowed, not_lesser_sides, unequal_side}
use Rattle.model.specs.Acceptance.Edges.{unequal_sides, without_value}
use Rattle.model.specs.Machine.Effects.{is_taken}
use Rattle.model.specs.Machine.Instructions.{signed}
use Rattle.model.specs.Acceptance.RangeRules.{is_single, range}
use Rattle.ranges.specs.Inside.{LiesIn}

-- each value in its side
abbrev pub AreInside : ℕ → ℕ → Range × Range → Type 0
AreInside a b sides = LiesIn a sides.0 × LiesIn b sides.1

-- ---- equal sides

pub equal_kept : (a b : ℕ) (r s : Range) → a ≡ b → LiesIn a r → LiesIn b s → AreInside a b (equal_sides r s)
equal_kept a b r s same first second = (
  (omega (arith, same, first.0, second.0), omega (arith, same, first.1, second.1)),
  (omega (arith, same, first.0, second.0), omega (arith, same, first.1, second.1)),
)

-- ---- unequal sides

low_kept : (a n low : ℕ) (b : Bool) → (b ≡ true → low ≡ n) → a ≢ n → low ≤ a → (if b then n + 1 else low) ≤ a
low_kept a n low true is apart least = let same = is refl in omega (arith, same, apart, least)
low_kept a n low false is apart least = least

high_kept : (a n high : ℕ) (b : Bool) → (b ≡ true → high ≡ n) → a ≢ n → a ≤ high → a ≤ (if b then n - 1 else high)
high_kept a n high true is apart most = let same = is refl in omega (arith, same, apart, most)
high_kept a n high false is apart most = most

without_kept : (a n : ℕ) (r : Range) → a ≢ n → LiesIn a r → LiesIn a (without_value r n)
without_kept a n r apart inside =
    (low_kept a n r.low (r.low == n) (eqb-true r.low n) apart inside.0, high_kept a n r.high (r.high == n) (eqb-true r.high n) apart inside.1)

unequal_side_kept : (a b : ℕ) (r s : Range) → a ≢ b → LiesIn a r → LiesIn b s → LiesIn a (unequal_side r s)
unequal_side_kept a b r s apart first second =
    elim (is_single s) as (λ one. is_single s ≡ one → LiesIn a (if one then without_value r s.low else r)) [
      | true ↦ λ is.
          let ends : s.low ≡ s.high = eqb-true s.low s.high is in
          let same : b ≡ s.low = omega (arith, ends, second.0, second.1) in
          without_kept a s.low r (λ equal. apart (equal ∙ sym same)) first
      | false ↦ λ isnt. first
    ] refl

unequal_kept : (a b : ℕ) (r s : Range) → a ≢ b → LiesIn a r → LiesIn b s → AreInside a b (unequal_sides r s)
unequal_kept a b r s apart first second =
    (unequal_side_kept a b r s apart first second, unequal_side_kept b a s r (λ same. apart (sym same)) second first)

-- ---- lesser sides, and others

lesser_side : (a b low high : ℕ) (r : Range) (none : Bool) → (none ≡ true → high ≡ 0) → a < b → b ≤ high → LiesIn a r
    → LiesIn a (if none then empty_range else range r.low (min r.high (high - 1)))
lesser_side a b low high r true is less most inside = let zero = is refl in absurd (omega (arith, zero, less, most))
lesser_side a b low high r false is less most inside = (inside.0, omega (arith, less, most, inside.1))

lesser_kept : (a b : ℕ) (r s : Range) → a < b → LiesIn a r → LiesIn b s → AreInside a b (lesser_sides r s)
lesser_kept a b r s less first second =
    (lesser_side a b s.low s.high r (s.high == 0) (eqb-true s.high 0) less second.1 first, (omega (arith, less, first.0, second.0), second.1))

not_lesser_kept : (a b : ℕ) (r s : Range) → b ≤ a → LiesIn a r → LiesIn b s → AreInside a b (not_lesser_sides r s)
not_lesser_kept a b r s more first second =
    ((omega (arith, more, first.0, second.0), first.1), (second.0, omega (arith, more, first.1, second.1)))

-- ---- signed numbers of one sign

low_signs : (a b : ℕ) → a < 2 ^ 31 → b < 2 ^ 31 → int_lt (signed a) (signed b) ≡ nat_lt a b
low_signs a b first second = grind (arith, ints)

high_signs : (a b : ℕ) → a < 2 ^ 32 → b < 2 ^ 32 → 2 ^ 31 ≤ a → 2 ^ 31 ≤ b → int_lt (signed a) (signed b) ≡ nat_lt a b
high_signs a b small less first second = grind (arith, ints)

-- where both ranges have one sign, signed numbers compare as unsigned ones
one_sign : (a b : ℕ) (r s : Range) → a < 2 ^ 32 → b < 2 ^ 32 → LiesIn a r → LiesIn b s → have_one_sign r s ≡ true
    → int_lt (signed a) (signed b) ≡ nat_lt a b
one_sign a b r s small less first second same =
    elim (nat_lt r.high (2 ^ 31) && nat_lt s.high (2 ^ 31)) as (λ t. (nat_lt r.high (2 ^ 31) && nat_lt s.high (2 ^ 31)) ≡ t
    → (t || nat_le (2 ^ 31) r.low && nat_le (2 ^ 31) s.low) ≡ true → int_lt (signed a) (signed b) ≡ nat_lt a b) [
      | true ↦ λ low _.
          let ends = and_parts (nat_lt r.high (2 ^ 31)) (nat_lt s.high (2 ^ 31)) low in
          let this : r.high < 2 ^ 31 = ltb-true r.high (2 ^ 31) ends.0 in
          let that : s.high < 2 ^ 31 = ltb-true s.high (2 ^ 31) ends.1 in
          low_signs a b (omega (arith, this, first.1)) (omega (arith, that, second.1))
      | false ↦ λ _ high.
          let ends = and_parts (nat_le (2 ^ 31) r.low) (nat_le (2 ^ 31) s.low) high in
          let this : 2 ^ 31 ≤ r.low = leb-true (2 ^ 31) r.low ends.0 in
          let that : 2 ^ 31 ≤ s.low = leb-true (2 ^ 31) s.low ends.1 in
          high_signs a b small less (omega (arith, this, first.0)) (omega (arith, that, second.0))
    ] refl same

-- sides that are narrowed for one sign alone
one_sign_kept : (a b : ℕ) (r s : Range) (sides : Range × Range) → LiesIn a r → LiesIn b s
    → (have_one_sign r s ≡ true → AreInside a b sides) → AreInside a b (if_one_sign r s sides)
one_sign_kept a b r s sides first second narrower =
    elim (have_one_sign r s) as (λ t. have_one_sign r s ≡ t → AreInside a b (if t then sides else (r, s))) [
      | true ↦ λ same. narrower same
      | false ↦ λ other. (first, second)
    ] refl

signed_lesser_kept : (a b : ℕ) (r s : Range) → a < 2 ^ 32 → b < 2 ^ 32 → LiesIn a r → LiesIn b s → int_lt (signed a) (signed b) ≡ true
    → AreInside a b (if_one_sign r s (lesser_sides r s))
signed_lesser_kept a b r s small less first second test =
    one_sign_kept a b r s (lesser_sides r s) first second
    (λ same. lesser_kept a b r s (ltb-true a b (sym (one_sign a b r s small less first second same) ∙ test)) first second)

signed_not_lesser_kept : (a b : ℕ) (r s : Range) → a < 2 ^ 32 → b < 2 ^ 32 → LiesIn a r → LiesIn b s → int_lt (signed a) (signed b) ≡ false
    → AreInside a b (if_one_sign r s (not_lesser_sides r s))
signed_not_lesser_kept a b r s small less first second test =
    one_sign_kept a b r s (not_lesser_sides r s) first second
    (λ same. not_lesser_kept a b r s (ltb-false a b (sym (one_sign a b r s small less first second same) ∙ test)) first second)

-- ---- the six operations, both ways

pub narrowed_kept : (op : BranchOp) (taken : Bool) (a b : ℕ) (r s : Range) → a < 2 ^ 32 → b < 2 ^ 32 → LiesIn a r → LiesIn b s
    → is_taken op a b ≡ taken → AreInside a b (narrowed op taken r s)
unfolding narrowed
narrowed_kept Beq true a b r s small less first second goes = equal_kept a b r s (eqb-true a b goes) first second
narrowed_kept Beq false a b r s small less first second goes = unequal_kept a b r s (eqb-false a b goes) first second
narrowed_kept Bne true a b r s small less first second goes = unequal_kept a b r s (eqb-false a b (not-true (a == b) goes)) first second
narrowed_kept Bne false a b r s small less first second goes = equal_kept a b r s (eqb-true a b (not-false (a == b) goes)) first second
narrowed_kept Bltu true a b r s small less first second goes = lesser_kept a b r s (ltb-true a b goes) first second
narrowed_kept Bltu false a b r s small less first second goes = not_lesser_kept a b r s (ltb-false a b goes) first second
narrowed_kept Bgeu true a b r s small less first second goes = not_lesser_kept a b r s (ltb-false a b (not-true (nat_lt a b) goes)) first second
narrowed_kept Bgeu false a b r s small less first second goes = lesser_kept a b r s (ltb-true a b (not-false (nat_lt a b) goes)) first second
narrowed_kept Blt true a b r s small less first second goes = signed_lesser_kept a b r s small less first second goes
narrowed_kept Blt false a b r s small less first second goes = signed_not_lesser_kept a b r s small less first second goes
narrowed_kept Bge true a b r s small less first second goes =
    signed_not_lesser_kept a b r s small less first second (not-true (int_lt (signed a) (signed b)) goes)
narrowed_kept Bge false a b r s small less first second goes =
    signed_lesser_kept a b r s small less first second (not-false (int_lt (signed a) (signed b)) goes)

-- both sides are one register
pub joined_kept : (op : BranchOp) (taken : Bool) (a : ℕ) (r : Range) → a < 2 ^ 32 → LiesIn a r → is_taken op a a ≡ taken
    → AreInside a a (joined true (narrowed op taken r r))
joined_kept op taken a r small inside goes =
    let sides = narrowed_kept op taken a a r r small small inside inside goes in
    equal_kept a a (narrowed op taken r r).0 (narrowed op taken r r).1 refl sides.0 sides.1
