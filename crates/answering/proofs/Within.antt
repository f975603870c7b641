-- Ranges that lie within others, as the test of what is known has it.
use Rattle.std.proofs.Common.{ℕ, zero, suc, ◌≡◌, ◌∙◌, ◌==◌, ◌+◌, ◌-◌, ◌<◌, ◌≤◌, ◌&&◌, inl, inr, Bool, true, false, nat_le, if◌then◌else◌, List, length}
use Rattle.std.proofs.Common.{Some, refl, sym, ap, subst, arith}
use Rattle.std.specs.Prelude.{◌↔◌, IsTrue, slice_index_or, slice_set}
use Rattle.std.specs.List.{list_all, range_with_len}
use Rattle.std.proofs.lemmas.Bool.{and_parts, cases_eq, eq-eqb, le-leb, leb-true}
use Rattle.std.proofs.lemmas.List.{length-set}
use Rattle.model.specs.declared.instructions.Register.{Register}
use Rattle.model.specs.declared.ranges.Range.{Range}
use Rattle.model.specs.Acceptance.PointRules.{are_ranges_within, is_range_within}
use Rattle.model.specs.Acceptance.Ranges.{AreWithin, IsWithin, full, with_range}
use Rattle.settled_threads.specs.Answering.{are_known}

all-from : (test : ℕ → Bool) (first count : ℕ) → ((k : ℕ) → first ≤ k → k < first + count → test k ≡ true) → list_all test (range_with_len first count) ≡ true
all-from test first zero each = refl
all-from test first (suc count) each =
    ap (λ (b : Bool). b && list_all test (range_with_len (first + 1) count)) (each first (omega arith) (omega arith))
    ∙ all-from test (first + 1) count (λ k from below. each k (omega (arith, from)) (omega (arith, below)))

each-of : (test : ℕ → Bool) (first count : ℕ) → list_all test (range_with_len first count) ≡ true → (k : ℕ) → first ≤ k → k < first + count → test k ≡ true
each-of test first zero all k from below = absurd (omega (arith, from, below))
each-of test first (suc count) all k from below =
    let parts = and_parts (test first) (list_all test (range_with_len (first + 1) count)) all in
    elim (cases_eq first k) [
      | inl here ↦ subst (λ (n : ℕ). test n ≡ true) here parts.0
      | inr other ↦ each-of test (first + 1) count parts.1 k (omega (arith, from, other)) (omega (arith, below))
    ]

within-so : (a b : List Range) → AreWithin a b → are_ranges_within a b ≡ true
within-so a b within =
    all-from (λ (k : ℕ). is_range_within (slice_index_or a k full) (slice_index_or b k full)) 0 31
    (λ k from below.
    let r = slice_index_or a k full in
    let s = slice_index_or b k full in
    let ends : IsWithin r s = within k below in
    ap (λ (x : Bool). x && nat_le r.high s.high) (le-leb s.low r.low ends.0) ∙ le-leb r.high s.high ends.1)

within-of : (a b : List Range) → are_ranges_within a b ≡ true → AreWithin a b
within-of a b all k below =
    let r = slice_index_or a k full in
    let s = slice_index_or b k full in
    let here = each-of (λ (n : ℕ). is_range_within (slice_index_or a n full) (slice_index_or b n full)) 0 31 all k (omega arith) below in
    let parts = and_parts (nat_le s.low r.low) (nat_le r.high s.high) here in
    (leb-true s.low r.low parts.0, leb-true r.high s.high parts.1)

decides : (a b : List Range) (x : Bool) → (IsTrue x ↔ AreWithin a b) → x ≡ are_ranges_within a b
decides a b x is = elim (are_ranges_within a b) as (λ (y : Bool). are_ranges_within a b ≡ y → x ≡ y) [
  | true ↦ λ all. is.1 (within-of a b all)
  | false ↦ λ all. elim x as (λ (z : Bool). (z ≡ true → AreWithin a b) → z ≡ false) [
    | true ↦ λ within. absurd (let clash : false ≡ true = sym all ∙ within-so a b (within refl) in cc)
    | false ↦ λ within. refl
  ] is.0
] refl

-- as many ranges as there are registers
pub known-is : (known ranges : List Range) (x : Bool) → length known ≡ 31 → (IsTrue x ↔ AreWithin ranges known) → x ≡ are_known (Some known) ranges
known-is known ranges x long is =
    decides ranges known x is ∙ sym (ap (λ (b : Bool). b && are_ranges_within ranges known) (eq-eqb (length known) 31 long))

pub with-long : (ranges : List Range) (x : Register) (out : Range) → length ranges ≡ 31 → length (with_range ranges x out) ≡ 31
with-long ranges x out long = elim (x.0 == 0) as (λ (b : Bool). length (if b then ranges else slice_set ranges (x.0 - 1) out) ≡ 31) [
  | true ↦ long
  | false ↦ length-set ranges (x.0 - 1) out ∙ long
]
