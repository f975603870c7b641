-- Ranges that lie within others, as a test and as what holds of each register.
use Rattle.std.proofs.Common.{◌≡◌, ℕ, zero, suc, ◌+◌, ◌-◌, ◌<◌, ◌≤◌, Bool, true, false, ◌&&◌, leb, List, refl, sym, ap, ◌∙◌, subst, inl, inr, arith}
use Rattle.std.specs.List.{list_all, range_with_len}
use Rattle.std.specs.Prelude.{◌↔◌, IsTrue, slice_index_or}
use Rattle.std.proofs.lemmas.Bool.{and_parts, leb-true, le-leb, cases_lt}
use Rattle.model.specs.declared.ranges.Range.{Range}
use Rattle.model.specs.Acceptance.PointRules.{are_ranges_within, is_range_within}
use Rattle.model.specs.Acceptance.Ranges.{AreWithin, IsWithin, full}

all_from : (test : ℕ → Bool) (first count : ℕ) → ((k : ℕ) → first ≤ k → k < first + count → test k ≡ true) → list_all test (range_with_len first count) ≡ true
all_from test first zero each = refl
all_from test first (suc count) each =
    ap (λ (b : Bool). b && list_all test (range_with_len (first + 1) count)) (each first (omega arith) (omega arith))
    ∙ all_from test (first + 1) count (λ k from below. each k (omega (arith, from)) (omega (arith, below)))

each_of : (test : ℕ → Bool) (first count : ℕ) → list_all test (range_with_len first count) ≡ true → (k : ℕ) → first ≤ k → k < first + count → test k ≡ true
each_of test first zero all k from below = absurd (omega (arith, from, below))
each_of test first (suc count) all k from below =
    let parts = and_parts (test first) (list_all test (range_with_len (first + 1) count)) all in
    elim (cases_lt first k) [
      | inl later ↦ each_of test (first + 1) count parts.1 k (omega (arith, later)) (omega (arith, below))
      | inr here ↦ let same : first ≡ k = omega (arith, from, here) in subst (λ (n : ℕ). test n ≡ true) same parts.0
    ]

range_within : (r s : Range) → IsWithin r s → is_range_within r s ≡ true
range_within r s within = rw (le-leb s.low r.low within.0, le-leb r.high s.high within.1) refl

pub are_within : (a b : List Range) → AreWithin a b → are_ranges_within a b ≡ true
are_within a b within =
    all_from (λ k. is_range_within (slice_index_or a k full) (slice_index_or b k full)) 0 31
    (λ k from below. range_within (slice_index_or a k full) (slice_index_or b k full) (within k below))

within_of : (a b : List Range) → are_ranges_within a b ≡ true → AreWithin a b
within_of a b all k below =
    let r = slice_index_or a k full in
    let s = slice_index_or b k full in
    let here = each_of (λ k. is_range_within (slice_index_or a k full) (slice_index_or b k full)) 0 31 all k (omega arith) below in
    let parts = and_parts (leb s.low r.low) (leb r.high s.high) here in
    (leb-true s.low r.low parts.0, leb-true r.high s.high parts.1)

-- a test that holds just where all ranges lie within the others is the rule's
pub decides : (a b : List Range) (x : Bool) → (IsTrue x ↔ AreWithin a b) → x ≡ are_ranges_within a b
decides a b x is = elim (are_ranges_within a b) as (λ y. are_ranges_within a b ≡ y → x ≡ y) [
  | true ↦ λ all. is.1 (within_of a b all)
  | false ↦ λ all. elim x as (λ z. (z ≡ true → AreWithin a b) → z ≡ false) [
    | true ↦ λ within. absurd (let clash : false ≡ true = sym all ∙ are_within a b (within refl) in cc)
    | false ↦ λ within. refl
  ] is.0
] refl

-- ---- tests of all numbers from one on

pub all-true : (test : ℕ → Bool) (first count : ℕ) → ((i : ℕ) → i < count → test (first + i) ≡ true) → list_all test (range_with_len first count) ≡ true
all-true test first count each =
    all_from test first count
    (λ k from below. let here : first + (k - first) ≡ k = omega (arith, from) in
    subst (λ (n : ℕ). test n ≡ true) here (each (k - first) (omega (arith, from, below))))

pub one-false : (test : ℕ → Bool) (first count i : ℕ) → i < count → test (first + i) ≡ false → list_all test (range_with_len first count) ≡ false
one-false test first count i less isnt = elim (list_all test (range_with_len first count))
    as (λ b. list_all test (range_with_len first count) ≡ b → b ≡ false) [
      | true ↦ λ all. absurd (let clash : false ≡ true = sym isnt ∙ each_of test first count all (first + i) (omega arith) (omega (arith, less)) in cc)
      | false ↦ λ _. refl
    ] refl

-- ---- tests of all numbers below one

pub all-below : (test : ℕ → Bool) (count : ℕ) → ((i : ℕ) → i < count → test i ≡ true) → list_all test (range_with_len 0 count) ≡ true
all-below test count each = all_from test 0 count (λ k from below. each k (omega (arith, below)))

pub one-below : (test : ℕ → Bool) (count i : ℕ) → i < count → test i ≡ false → list_all test (range_with_len 0 count) ≡ false
one-below test count i less isnt = elim (list_all test (range_with_len 0 count)) as (λ b. list_all test (range_with_len 0 count) ≡ b → b ≡ false) [
  | true ↦ λ all. absurd (let clash : false ≡ true = sym isnt ∙ each_of test 0 count all i (omega arith) (omega (arith, less)) in cc)
  | false ↦ λ _. refl
] refl
