-- The least number of the form 2 ^ k - 1 that is at least a word, by how many of the word's leading bits are 0.
use Rattle.std.proofs.Common.{ℕ, zero, suc, ◌≡◌, ◌∙◌, ◌+◌, ◌-◌, ◌*◌, ◌/◌, ◌^◌, ◌<◌, ◌≤◌, Bool, if◌then◌else◌, inl, inr, sym, ap, arith}
use Rattle.std.proofs.Math.Nat.{div-eq_of_lt-le, pow-le-pow_right, pow-succ'}
use Rattle.std.proofs.lemmas.Bool.Decides.{leb_tells}
use Rattle.std.proofs.lemmas.Nat.{leading_length, pow-add, pow_pos}
use Rattle.std.specs.Int.Count.{count_leading_zeros}
use Rattle.model.specs.Acceptance.RangeRules.{ones_above, ones_within}

-- a power of two between two
below-twice : (count m n : ℕ) → n < 2 ^ count → 2 ^ m ≤ 2 * n + 1 → m ≤ count
below-twice count m n small near = elim (leb_tells m count) [
  | inl few ↦ few.1
  | inr many ↦
      let most : 2 ^ suc count ≤ 2 ^ m = pow-le-pow_right (omega arith) many.1 in
      let double : 2 ^ suc count ≡ 2 * 2 ^ count = pow-succ' 2 count in
      absurd (omega (arith, small, near, most, double))
]

above-all : (count m n : ℕ) → 2 ^ count ≤ n → n < 2 ^ m → count < m
above-all count m n top above = elim (leb_tells m count) [
  | inl few ↦
      let least : 2 ^ m ≤ 2 ^ count = pow-le-pow_right (omega arith) few.1 in
      absurd (omega (arith, top, above, least))
  | inr many ↦ many.1
]

ones-of : (count n m : ℕ) → m ≤ count → n < 2 ^ m → 2 ^ m ≤ 2 * n + 1 → ones_within count n ≡ 2 ^ m - 1
unfolding ones_within
ones-of zero n m few above near =
    let none : m ≡ 0 = omega (arith, few) in
    sym (ap (λ (k : ℕ). 2 ^ k - 1) none)
ones-of (suc count) n m few above near = elim (leb_tells (2 ^ count) n) [
  | inl top ↦
      let all : suc count ≡ m = omega (arith, few, above-all count m n top.1 above) in
      ap (λ (b : Bool). if b then 2 ^ suc count - 1 else ones_within count n) top.0 ∙ ap (λ (k : ℕ). 2 ^ k - 1) all
  | inr below ↦
      ap (λ (b : Bool). if b then 2 ^ suc count - 1 else ones_within count n) below.0
      ∙ ones-of count n m (below-twice count m n below.1 near) above near
]

quotient : (c b : ℕ) → 0 < b → (suc c * b - 1) / b ≡ c
quotient c b some =
    let whole : suc c * b ≡ c * b + b = grind arith in
    let again : (c + 1) * b ≡ c * b + b = grind arith in
    div-eq_of_lt-le b (omega (arith, some, whole)) (omega (arith, some, whole, again))

ones-left : (l m : ℕ) → (2 ^ (l + m) - 1) / 2 ^ l ≡ 2 ^ m - 1
ones-left l m =
    let one : suc (2 ^ m - 1) ≡ 2 ^ m = omega (arith, pow_pos m) in
    let whole : 2 ^ (l + m) ≡ 2 ^ m * 2 ^ l = pow-add 2 l m ∙ grind arith in
    ap (λ (n : ℕ). (n - 1) / 2 ^ l) whole
    ∙ ap (λ (n : ℕ). (n * 2 ^ l - 1) / 2 ^ l) (sym one)
    ∙ quotient (2 ^ m - 1) (2 ^ l) (pow_pos l)

pub ones-shifted : (n : ℕ) → n < 2 ^ 32 → (2 ^ 32 - 1) / 2 ^ count_leading_zeros 32 n ≡ ones_above n
ones-shifted n small =
    let size = leading_length 32 n small in
    let l = count_leading_zeros 32 n in
    ap (λ (k : ℕ). (2 ^ k - 1) / 2 ^ l) (sym size.1)
    ∙ ones-left l size.0
    ∙ sym (ones-of 32 n size.0 (omega (arith, size.1)) size.2 size.3)

pub ones-cover : (n : ℕ) → n < 2 ^ 32 → n ≤ (2 ^ 32 - 1) / 2 ^ count_leading_zeros 32 n
ones-cover n small =
    let size = leading_length 32 n small in
    let l = count_leading_zeros 32 n in
    let is : (2 ^ 32 - 1) / 2 ^ l ≡ 2 ^ size.0 - 1 = ap (λ (k : ℕ). (2 ^ k - 1) / 2 ^ l) (sym size.1) ∙ ones-left l size.0 in
    omega (arith, is, size.2)
