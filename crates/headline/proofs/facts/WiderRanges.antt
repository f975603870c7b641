-- Registers that lie in ranges lie in wider ones.
use Rattle.std.proofs.Common.{ℕ, zero, suc, ◌≡◌, ◌∙◌, ◌+◌, ◌-◌, ◌<◌, ◌≤◌, inl, inr, Bool, true, nat_le, if◌then◌else◌, List, get_or, sym, ap, subst, arith}
use Rattle.std.specs.List.{list_all, range_with_len}
use Rattle.std.proofs.lemmas.Bool.{and_parts, cases_eq, leb-true}
use Rattle.std.proofs.lemmas.Bool.Decides.{eqb_tells}
use Rattle.model.specs.declared.ranges.Range.{Range}
use Rattle.model.specs.Acceptance.Measures.{register_numbered}
use Rattle.model.specs.Acceptance.PointRules.{are_ranges_within, is_range_within}
use Rattle.model.specs.Acceptance.Ranges.{full, range_of, single}
use Rattle.model.specs.Acceptance.ThreadInvariants.{LieWithin}
use Rattle.model.specs.Machine.ProgramMemory.{RegisterFile, read}
use Rattle.ranges.specs.Inside.{LiesIn}

pub holds-at : (test : ℕ → Bool) (from count k : ℕ) → list_all test (range_with_len from count) ≡ true → from ≤ k → k < from + count → test k ≡ true
holds-at test from zero k h low high = absurd (omega (arith, low, high))
holds-at test from (suc count) k h low high =
    let parts = and_parts (test from) (list_all test (range_with_len (from + 1) count)) h in
    elim (cases_eq from k) [
      | inl here ↦ subst (λ (n : ℕ). test n ≡ true) here parts.0
      | inr other ↦ holds-at test (from + 1) count k parts.1 (omega (arith, low, other)) (omega (arith, high))
    ]

pub wider : (n : ℕ) (r s : Range) → is_range_within r s ≡ true → LiesIn n r → LiesIn n s
wider n r s within inside =
    let ends = and_parts (nat_le s.low r.low) (nat_le r.high s.high) within in
    (omega (arith, inside.0, leb-true s.low r.low ends.0), omega (arith, inside.1, leb-true r.high s.high ends.1))

-- register 0 has one range in both
pub within-wider : (r : RegisterFile) (ranges others : List Range) → are_ranges_within ranges others ≡ true → LieWithin r ranges → LieWithin r others
within-wider r ranges others within lie k less =
    let of : Bool → List Range → Range = λ b ranges. if b then single 0 else get_or ranges (k - 1) full in
    elim (eqb_tells k 0) [
      | inl none ↦
          let same : range_of others (register_numbered k) ≡ range_of ranges (register_numbered k) =
          ap (λ (b : Bool). of b others) none.0 ∙ sym (ap (λ (b : Bool). of b ranges) none.0) in
          subst (λ (x : Range). LiesIn (read r (register_numbered k)) x) (sym same) (lie k less)
      | inr some ↦
          let narrow : range_of ranges (register_numbered k) ≡ get_or ranges (k - 1) full = ap (λ (b : Bool). of b ranges) some.0 in
          let wide : range_of others (register_numbered k) ≡ get_or others (k - 1) full = ap (λ (b : Bool). of b others) some.0 in
          let test : is_range_within (get_or ranges (k - 1) full) (get_or others (k - 1) full) ≡ true =
          holds-at (λ n. is_range_within (get_or ranges n full) (get_or others n full)) 0 31 (k - 1) within (omega arith) (omega (arith, less, some.1)) in
          subst (λ (x : Range). LiesIn (read r (register_numbered k)) x) (sym wide)
          (wider (read r (register_numbered k)) (get_or ranges (k - 1) full) (get_or others (k - 1) full) test
          (subst (λ (x : Range). LiesIn (read r (register_numbered k)) x) narrow (lie k less)))
    ]
