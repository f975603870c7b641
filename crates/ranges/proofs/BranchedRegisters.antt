-- The way that a branch goes stays possible, and the registers lie in the ranges on it.
use Rattle.std.proofs.Common.{ℕ, ◌≡◌, ◌≢◌, ◌∙◌, ◌==◌, ◌||◌, ◌-◌, ◌^◌, ◌<◌, Bool, true, false, if◌then◌else◌, inl, inr, List, length, Some, None, get_or, refl}
use Rattle.std.proofs.Common.{sym, ap, subst, arith}
use Rattle.std.specs.Prelude.{slice_set}
use Rattle.std.proofs.lemmas.Bool.{eqb-true, le-ltb, ne_eqb, or_from}
use Rattle.std.proofs.lemmas.Bool.Decides.{eqb_tells}
use Rattle.std.proofs.lemmas.List.{get_or-set_same, get_or-set_other, length-set}
use Rattle.ranges.proofs.WrittenRegisters.{zero_kept}
use Rattle.model.specs.declared.instructions.BranchOp.{BranchOp}
use Rattle.model.specs.declared.instructions.Register.{Register}
use Rattle.model.specs.declared.ranges.Range.{Range}
use Rattle.model.specs.Acceptance.Edges.{branch_ranges, is_empty_range, joined, narrowed, with_sides}
use Rattle.model.specs.Machine.Effects.{is_taken}
use Rattle.model.specs.Machine.Instructions.{IsRegister}
use Rattle.model.specs.Acceptance.Measures.{register_numbered}
use Rattle.model.specs.Machine.ProgramMemory.{RegisterFile, read}
use Rattle.model.specs.Acceptance.Ranges.{full, range_of, single, with_range}
use Rattle.model.specs.Acceptance.ThreadInvariants.{LieWithin}
use Rattle.ranges.specs.Inside.{LiesIn}
use Rattle.ranges.proofs.BranchedSides.{AreInside, equal_kept, narrowed_kept}

-- ---- a register's range is replaced by another that holds its value

-- the range of a register other than 0
range_there : (ranges : List Range) (k : ℕ) → k ≢ 0 → range_of ranges (register_numbered k) ≡ get_or ranges (k - 1) full
range_there ranges k other = ap (λ (b : Bool). if b then single 0 else get_or ranges (k - 1) full) (ne_eqb k 0 other)

range_here : (ranges : List Range) (x k : ℕ) (out : Range) → length ranges ≡ 31 → x < 2 ^ 5 → x ≢ 0 → k ≡ x
    → range_of (slice_set ranges (x - 1) out) (register_numbered k) ≡ out
range_here ranges x k out long fits some here =
    let other : k ≢ 0 = λ none. some (sym here ∙ none) in
    range_there (slice_set ranges (x - 1) out) k other
    ∙ ap (λ (n : ℕ). get_or (slice_set ranges (x - 1) out) (n - 1) full) here
    ∙ get_or-set_same ranges (x - 1) out full (omega (arith, long, fits, some))

range_elsewhere : (ranges : List Range) (x k : ℕ) (out : Range) → x ≢ 0 → k ≢ 0 → k ≢ x
    → range_of (slice_set ranges (x - 1) out) (register_numbered k) ≡ range_of ranges (register_numbered k)
range_elsewhere ranges x k out some other apart =
    let differ : k - 1 ≢ x - 1 = λ same. apart (omega (arith, same, some, other)) in
    range_there (slice_set ranges (x - 1) out) k other
    ∙ get_or-set_other ranges (x - 1) (k - 1) out full differ
    ∙ sym (range_there ranges k other)

-- what is read of a register lies in its range
abbrev KeptAt : RegisterFile → List Range → ℕ → Type 0
KeptAt r ranges k = LiesIn (read r (register_numbered k)) (range_of ranges (register_numbered k))

replaced_at : (r : RegisterFile) (ranges : List Range) (x : Register) (out : Range) (k : ℕ) → length ranges ≡ 31 → IsRegister x → x.0 ≢ 0
    → k < 32 → LieWithin r ranges → LiesIn (read r x) out → KeptAt r (slice_set ranges (x.0 - 1) out) k
replaced_at r ranges x out k long fits some less before value = elim (eqb_tells k 0) [
  | inl none ↦ zero_kept r (slice_set ranges (x.0 - 1) out) k none.1
  | inr other ↦ elim (eqb_tells k x.0) [
    | inl here ↦
        let word : read r x ≡ read r (register_numbered k) = ap (λ (n : ℕ). read r (register_numbered n)) (sym here.1) in
        subst (λ (s : Range). LiesIn (read r (register_numbered k)) s) (sym (range_here ranges x.0 k out long fits some here.1))
        (subst (λ (n : ℕ). LiesIn n out) word value)
    | inr apart ↦
        subst (λ (s : Range). LiesIn (read r (register_numbered k)) s) (sym (range_elsewhere ranges x.0 k out some other.1 apart.1)) (before k less)
  ]
]

replaced_within : (r : RegisterFile) (ranges : List Range) (x : Register) (out : Range) → length ranges ≡ 31 → IsRegister x
    → LieWithin r ranges → LiesIn (read r x) out → LieWithin r (with_range ranges x out)
replaced_within r ranges x out long fits before value =
    elim (eqb_tells x.0 0) [
      | inl none ↦
          let same : with_range ranges x out ≡ ranges = ap (λ (b : Bool). if b then ranges else slice_set ranges (x.0 - 1) out) none.0 in
          subst (λ (s : List Range). LieWithin r s) (sym same) before
      | inr some ↦ λ k less.
          let same : with_range ranges x out ≡ slice_set ranges (x.0 - 1) out =
          ap (λ (b : Bool). if b then ranges else slice_set ranges (x.0 - 1) out) some.0 in
          subst (λ (s : List Range). LiesIn (read r (register_numbered k)) (range_of s (register_numbered k))) (sym same)
          (replaced_at r ranges x out k long fits some.1 less before value)
    ]

pub with-long : (ranges : List Range) (x : Register) (out : Range) → length (with_range ranges x out) ≡ length ranges
with-long ranges x out = elim (x.0 == 0) as (λ b. length (if b then ranges else slice_set ranges (x.0 - 1) out) ≡ length ranges) [
  | true ↦ refl
  | false ↦ length-set ranges (x.0 - 1) out
]

-- ---- both sides

isnt_empty : (n : ℕ) (r : Range) → LiesIn n r → is_empty_range r ≡ false
isnt_empty n r inside = le-ltb r.high r.low (omega (arith, inside.0, inside.1))

sides_kept : (r : RegisterFile) (ranges : List Range) (rs1 rs2 : Register) (sides : Range × Range) → length ranges ≡ 31
    → IsRegister rs1 → IsRegister rs2 → LieWithin r ranges → AreInside (read r rs1) (read r rs2) sides
    → (kept : List Range) × (with_sides ranges rs1 rs2 sides ≡ Some kept) × LieWithin r kept
sides_kept r ranges rs1 rs2 sides long first second before inside =
    let behind : List Range = with_range (with_range ranges rs1 sides.0) rs2 sides.1 in
    let possible : (is_empty_range sides.0 || is_empty_range sides.1) ≡ false =
    or_from (is_empty_range sides.0) (is_empty_range sides.1) (isnt_empty (read r rs1) sides.0 inside.0) (isnt_empty (read r rs2) sides.1 inside.1) in
    let there : with_sides ranges rs1 rs2 sides ≡ Some behind = ap (λ (b : Bool). if b then None else Some behind) possible in
    let one = replaced_within r ranges rs1 sides.0 long first before inside.0 in
    (behind, there, replaced_within r (with_range ranges rs1 sides.0) rs2 sides.1 (with-long ranges rs1 sides.0 ∙ long) second one inside.1)

-- where both sides are one register, both hold of it
both_kept : (a b : ℕ) (sides : Range × Range) (one : Bool) → (one ≡ true → a ≡ b) → AreInside a b sides → AreInside a b (joined one sides)
both_kept a b sides true same inside = equal_kept a b sides.0 sides.1 (same refl) inside.0 inside.1
both_kept a b sides false same inside = inside

pub branch_kept : (r : RegisterFile) (ranges : List Range) (op : BranchOp) (rs1 rs2 : Register) (taken : Bool)
    → length ranges ≡ 31 → ((x : Register) → read r x < 2 ^ 32) → IsRegister rs1 → IsRegister rs2 → LieWithin r ranges
    → is_taken op (read r rs1) (read r rs2) ≡ taken
    → (kept : List Range) × (branch_ranges op taken rs1 rs2 ranges ≡ Some kept) × LieWithin r kept
branch_kept r ranges op rs1 rs2 taken long small first second before goes =
    let sides : Range × Range = narrowed op taken (range_of ranges rs1) (range_of ranges rs2) in
    let inside : AreInside (read r rs1) (read r rs2) sides =
    narrowed_kept op taken (read r rs1) (read r rs2) (range_of ranges rs1) (range_of ranges rs2) (small rs1) (small rs2) (before rs1.0 first)
    (before rs2.0 second) goes in
    sides_kept r ranges rs1 rs2 (joined (rs1.0 == rs2.0) sides) long first second before
    (both_kept (read r rs1) (read r rs2) sides (rs1.0 == rs2.0) (λ same. ap (λ (n : ℕ). read r (register_numbered n)) (eqb-true rs1.0 rs2.0 same)) inside)
