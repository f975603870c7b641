-- A register that is written with a value of a range lies in it, and the other registers stay in theirs.
use Rattle.std.proofs.Common.{ℕ, ◌≡◌, ◌≢◌, ◌∙◌, ◌==◌, ◌-◌, ◌<◌, Bool, false, if◌then◌else◌, inl, inr, List, length, get_or, sym, ap, subst, arith}
use Rattle.std.specs.Prelude.{slice_set}
use Rattle.std.proofs.lemmas.Bool.{ne_eqb}
use Rattle.std.proofs.lemmas.Bool.Decides.{eqb_tells}
use Rattle.std.proofs.lemmas.List.{get_or-set_same, get_or-set_other}
use Rattle.model.specs.declared.instructions.Register.{Register}
use Rattle.model.specs.declared.ranges.Range.{Range}
use Rattle.model.specs.Machine.Instructions.{IsRegister}
use Rattle.model.specs.Machine.ProgramMemory.{RegisterFile, read, write}
use Rattle.model.specs.Acceptance.Measures.{register_numbered}
use Rattle.model.specs.Acceptance.Ranges.{full, range_of, single, with_range}
use Rattle.model.specs.Acceptance.ThreadInvariants.{LieWithin}
use Rattle.ranges.specs.Inside.{LiesIn}

abbrev KeptAt : RegisterFile → List Range → ℕ → Type 0
KeptAt r ranges k = LiesIn (read r (register_numbered k)) (range_of ranges (register_numbered k))

-- what is read of a register other than 0, and its range
read_word : (r : RegisterFile) (k : ℕ) → (k == 0) ≡ false → read r (register_numbered k) ≡ get_or r.words k 0
read_word r k other = ap (λ (b : Bool). if b then 0 else get_or r.words k 0) other

read_range : (ranges : List Range) (k : ℕ) → (k == 0) ≡ false → range_of ranges (register_numbered k) ≡ get_or ranges (k - 1) full
read_range ranges k other = ap (λ (b : Bool). if b then single 0 else get_or ranges (k - 1) full) other

isnt-zero : (k : ℕ) → k ≢ 0 → (k == 0) ≡ false
isnt-zero k other = ne_eqb k 0 other

kept_word : (r : RegisterFile) (ranges : List Range) (k : ℕ) → k ≢ 0 → KeptAt r ranges k → LiesIn (get_or r.words k 0) (get_or ranges (k - 1) full)
kept_word r ranges k other kept =
    let word = read_word r k (isnt-zero k other) in
    let range = read_range ranges k (isnt-zero k other) in
    subst (λ (x : Range). LiesIn (get_or r.words k 0) x) range (subst (λ (n : ℕ). LiesIn n (range_of ranges (register_numbered k))) word kept)

pub kept_register : (r : RegisterFile) (ranges : List Range) (k : ℕ) → k ≢ 0 → LiesIn (get_or r.words k 0) (get_or ranges (k - 1) full) → KeptAt r ranges k
kept_register r ranges k other kept =
    let word = read_word r k (isnt-zero k other) in
    let range = read_range ranges k (isnt-zero k other) in
    subst (λ (x : Range). LiesIn (read r (register_numbered k)) x) (sym range) (subst (λ (n : ℕ). LiesIn n (get_or ranges (k - 1) full)) (sym word) kept)

pub zero_kept : (r : RegisterFile) (ranges : List Range) (k : ℕ) → k ≡ 0 → KeptAt r ranges k
zero_kept r ranges k is = subst (λ (n : ℕ). KeptAt r ranges n) (sym is) (omega arith, omega arith)

-- registers other than 0, by what their words and ranges are
written_kept : (r : RegisterFile) (ranges : List Range) (rd : Register) (v : ℕ) (out : Range) (k : ℕ) → length r.words ≡ 32 → length ranges ≡ 31
    → IsRegister rd → rd.0 ≢ 0 → k ≢ 0 → k < 32 → LieWithin r ranges → LiesIn v out
    → LiesIn (get_or (slice_set r.words rd.0 v) k 0) (get_or (slice_set ranges (rd.0 - 1) out) (k - 1) full)
written_kept r ranges rd v out k words long fits target other less before value =
    elim (eqb_tells k rd.0) [
      | inl here ↦
          let word : get_or (slice_set r.words rd.0 v) k 0 ≡ v = ap (λ (n : ℕ). get_or (slice_set r.words rd.0 v) n 0) here.1
          ∙ get_or-set_same r.words rd.0 v 0 (omega (arith, words, fits)) in
          let place : k - 1 ≡ rd.0 - 1 = ap (λ (n : ℕ). n - 1) here.1 in
          let range : get_or (slice_set ranges (rd.0 - 1) out) (k - 1) full ≡ out =
          ap (λ (n : ℕ). get_or (slice_set ranges (rd.0 - 1) out) n full) place
          ∙ get_or-set_same ranges (rd.0 - 1) out full (omega (arith, long, fits, target)) in
          subst (λ (x : Range). LiesIn (get_or (slice_set r.words rd.0 v) k 0) x) (sym range) (subst (λ (n : ℕ). LiesIn n out) (sym word) value)
      | inr apart ↦
          let differ : k - 1 ≢ rd.0 - 1 = λ same. apart.1 (omega (arith, same, target, other)) in
          let word : get_or (slice_set r.words rd.0 v) k 0 ≡ get_or r.words k 0 = get_or-set_other r.words rd.0 k v 0 apart.1 in
          let range : get_or (slice_set ranges (rd.0 - 1) out) (k - 1) full ≡ get_or ranges (k - 1) full =
          get_or-set_other ranges (rd.0 - 1) (k - 1) out full differ in
          let kept : LiesIn (get_or r.words k 0) (get_or ranges (k - 1) full) = kept_word r ranges k other (before k less) in
          subst (λ (x : Range). LiesIn (get_or (slice_set r.words rd.0 v) k 0) x) (sym range)
          (subst (λ (n : ℕ). LiesIn n (get_or ranges (k - 1) full)) (sym word) kept)
    ]

-- a register is written with a value of a range
pub written_within : (r : RegisterFile) (ranges : List Range) (rd : Register) (v : ℕ) (out : Range) → length r.words ≡ 32 → length ranges ≡ 31
    → IsRegister rd → LieWithin r ranges → LiesIn v out → LieWithin (write r rd v) (with_range ranges rd out)
written_within r ranges rd v out words long fits before value =
    elim (eqb_tells rd.0 0) [
      | inl none ↦
          let registers : write r rd v ≡ r = ap (λ (b : Bool). if b then r else record r { words = slice_set r.words rd.0 v }) none.0 in
          let same : with_range ranges rd out ≡ ranges = ap (λ (b : Bool). if b then ranges else slice_set ranges (rd.0 - 1) out) none.0 in
          subst (λ (x : List Range). LieWithin (write r rd v) x) (sym same) (subst (λ (x : RegisterFile). LieWithin x ranges) (sym registers) before)
      | inr some ↦ λ k less.
          let after : RegisterFile = record r { words = slice_set r.words rd.0 v } in
          let registers : write r rd v ≡ after = ap (λ (b : Bool). if b then r else after) some.0 in
          let behind : List Range = slice_set ranges (rd.0 - 1) out in
          let same : with_range ranges rd out ≡ behind = ap (λ (b : Bool). if b then ranges else behind) some.0 in
          let kept : KeptAt after behind k = elim (eqb_tells k 0) [
            | inl here ↦ zero_kept after behind k here.1
            | inr other ↦ kept_register after behind k other.1 (written_kept r ranges rd v out k words long fits some.1 other.1 less before value)
          ] in
          subst (λ (x : List Range). KeptAt (write r rd v) x k) (sym same) (subst (λ (x : RegisterFile). KeptAt x behind k) (sym registers) kept)
    ]
