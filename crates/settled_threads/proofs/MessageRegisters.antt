-- Registers that a message leaves as they were, and the ranges in which all of them lie after it.
use Rattle.std.proofs.Common.{ℕ, zero, suc, ◌≡◌, ◌≢◌, ◌∙◌, ◌==◌, ◌+◌, ◌-◌, ◌^◌, ◌<◌, ◌≤◌, ◌&&◌, ◌||◌, inl, inr, Bool, true, false, nat_le, nat_lt}
use Rattle.std.proofs.Common.{if◌then◌else◌, All, Option, Some, None, List, [], ◌∷◌, fold, get_or, length, refl, sym, ap, subst, arith}
use Rattle.std.specs.Prelude.{slice_set}
use Rattle.std.specs.List.{list_all, list_any, range_with_len}
use Rattle.std.proofs.lemmas.Bool.{and_parts, cases_eq, eqb-false, eqb-true, leb-true, ltb-true, ne_eqb, or_parts}
use Rattle.std.proofs.lemmas.Bool.Decides.{eqb_tells}
use Rattle.std.proofs.lemmas.List.{get_or-replicate, get_or-set_other, get_or-set_same, length-replicate, length-set}
use Rattle.model.specs.declared.instructions.Register.{Register}
use Rattle.model.specs.declared.ranges.Range.{Range}
use Rattle.model.specs.Acceptance.CallRules.{message_registers}
use Rattle.model.specs.Acceptance.Measures.{register_numbered}
use Rattle.model.specs.Acceptance.NotedStates.{full_ranges}
use Rattle.model.specs.Acceptance.PointRules.{are_ranges_within, is_range_within}
use Rattle.model.specs.Acceptance.Ranges.{full, range_of, single, with_range}
use Rattle.model.specs.Acceptance.ThreadInvariants.{LieWithin}
use Rattle.model.specs.Kernel.Messages.{Message, a0, a1, delivered, info_word, word_registers, write_words}
use Rattle.model.specs.Machine.ProgramMemory.{RegisterFile, read, write}
use Rattle.soundness.proofs.Laws.{read-less as word-less}
use Rattle.headline.specs.measure_facts.Terms.{WritesOnly}
use Rattle.settled_threads.specs.Answering.{are_known, ranges_after_call, ranges_received}

-- ---- registers

other-read : (r : RegisterFile) (x : Register) (v k : ℕ) → (x.0 == k) ≡ false → read (write r x v) (register_numbered k) ≡ read r (register_numbered k)
other-read r x v k other = elim (x.0 == 0)
    as (λ (b : Bool). read (if b then r else record r { words = slice_set r.words x.0 v }) (register_numbered k) ≡ read r (register_numbered k)) [
      | true ↦ refl
      | false ↦ ap (λ (n : ℕ). if k == 0 then 0 else n) (get_or-set_other r.words x.0 k v 0 (λ same. eqb-false x.0 k other (sym same)))
    ]

own-read : (r : RegisterFile) (x : Register) (v : ℕ) → length r.words ≡ 32 → 1 ≤ x.0 → x.0 < 32 → read (write r x v) (register_numbered x.0) ≡ v
own-read r x v long low high =
    let after : RegisterFile = record r { words = slice_set r.words x.0 v } in
    let some : (x.0 == 0) ≡ false = ne_eqb x.0 0 (λ none. omega (arith, none, low)) in
    let written : write r x v ≡ after = ap (λ (b : Bool). if b then r else after) some in
    ap (λ (s : RegisterFile). read s (register_numbered x.0)) written ∙ ap (λ (b : Bool). if b then 0 else get_or after.words x.0 0) some
    ∙ get_or-set_same r.words x.0 v 0 (omega (arith, long, high))

words-other : (xs : List Register) (r : RegisterFile) (words : List ℕ) (k : ℕ) → list_any (λ (x : Register). x.0 == k) xs ≡ false
    → read (write_words r xs words) (register_numbered k) ≡ read r (register_numbered k)
words-other xs r [] k other = refl
words-other [] r (word ∷ words) k other = refl
words-other (x ∷ xs) r (word ∷ words) k other =
    let parts = or_parts (x.0 == k) (list_any (λ (y : Register). y.0 == k) xs) other in
    words-other xs (write r x word) words k parts.1 ∙ other-read r x word k parts.0

-- what is written of the registers of a message
pub info-aside : (r : RegisterFile) (word info : ℕ) → WritesOnly r (write (write r a0 word) a1 info) message_registers
info-aside r word info k less other =
    let first = or_parts (a0.0 == k) (list_any (λ (y : Register). y.0 == k) (a1 ∷ word_registers)) other in
    let second = or_parts (a1.0 == k) (list_any (λ (y : Register). y.0 == k) word_registers) first.1 in
    other-read (write r a0 word) a1 info k second.0 ∙ other-read r a0 word k first.0

pub word-aside : (r : RegisterFile) (word : ℕ) → WritesOnly r (write r a0 word) message_registers
word-aside r word k less other =
    other-read r a0 word k (or_parts (a0.0 == k) (list_any (λ (y : Register). y.0 == k) (a1 ∷ word_registers)) other).0

pub message-aside : (r : RegisterFile) (badge : ℕ) (message : Message) → WritesOnly r (delivered r badge message) message_registers
message-aside r badge message k less other =
    let info = info_word message.label message.count in
    let first = or_parts (a0.0 == k) (list_any (λ (y : Register). y.0 == k) (a1 ∷ word_registers)) other in
    let second = or_parts (a1.0 == k) (list_any (λ (y : Register). y.0 == k) word_registers) first.1 in
    words-other word_registers (write (write r a0 badge) a1 info) message.words k second.1 ∙ info-aside r badge info k less other

no-word : list_any (λ (y : Register). y.0 == a0.0) word_registers ≡ false
unfolding word_registers
no-word = refl

-- a0 has the badge
pub badge-read : (r : RegisterFile) (badge : ℕ) (message : Message) → length r.words ≡ 32 → read (delivered r badge message) a0 ≡ badge
badge-read r badge message long =
    let info = info_word message.label message.count in
    words-other word_registers (write (write r a0 badge) a1 info) message.words a0.0 no-word ∙ other-read (write r a0 badge) a1 info a0.0 refl
    ∙ own-read r a0 badge long (omega arith) (omega arith)

-- ---- ranges

abbrev LiesAt : RegisterFile → List Range → ℕ → Type 0
LiesAt r ranges k =
    ((range_of ranges (register_numbered k)).low ≤ read r (register_numbered k)) × (read r (register_numbered k) ≤ (range_of ranges (register_numbered k)).high)

abbrev LiesIn : ℕ → Range → Type 0
LiesIn n range = (range.low ≤ n) × (n ≤ range.high)

own-range : (ranges : List Range) (x : Register) (out : Range) → length ranges ≡ 31 → 1 ≤ x.0 → x.0 < 32
    → range_of (with_range ranges x out) (register_numbered x.0) ≡ out
own-range ranges x out long low high =
    let some : (x.0 == 0) ≡ false = ne_eqb x.0 0 (λ none. omega (arith, none, low)) in
    let given : with_range ranges x out ≡ slice_set ranges (x.0 - 1) out = ap (λ (b : Bool). if b then ranges else slice_set ranges (x.0 - 1) out) some in
    ap (λ (l : List Range). range_of l (register_numbered x.0)) given
    ∙ ap (λ (b : Bool). if b then single 0 else get_or (slice_set ranges (x.0 - 1) out) (x.0 - 1) full) some
    ∙ get_or-set_same ranges (x.0 - 1) out full (omega (arith, long, low, high))

other-range : (ranges : List Range) (x : Register) (out : Range) (k : ℕ) → 1 ≤ x.0 → (x.0 == k) ≡ false
    → range_of (with_range ranges x out) (register_numbered k) ≡ range_of ranges (register_numbered k)
other-range ranges x out k low other =
    let some : (x.0 == 0) ≡ false = ne_eqb x.0 0 (λ none. omega (arith, none, low)) in
    let given : with_range ranges x out ≡ slice_set ranges (x.0 - 1) out = ap (λ (b : Bool). if b then ranges else slice_set ranges (x.0 - 1) out) some in
    ap (λ (l : List Range). range_of l (register_numbered k)) given ∙
    elim (eqb_tells k 0) [
      | inl none ↦ ap (λ (b : Bool). if b then single 0 else get_or (slice_set ranges (x.0 - 1) out) (k - 1) full) none.0
          ∙ sym (ap (λ (b : Bool). if b then single 0 else get_or ranges (k - 1) full) none.0)
      | inr counted ↦
          let apart : k - 1 ≢ x.0 - 1 = λ same. eqb-false x.0 k other (omega (arith, same, counted.1, low)) in
          ap (λ (n : Range). if k == 0 then single 0 else n) (get_or-set_other ranges (x.0 - 1) (k - 1) out full apart)
    ]

with-long : (ranges : List Range) (x : Register) (out : Range) → length (with_range ranges x out) ≡ length ranges
with-long ranges x out = elim (x.0 == 0) as (λ (b : Bool). length (if b then ranges else slice_set ranges (x.0 - 1) out) ≡ length ranges) [
  | true ↦ refl
  | false ↦ length-set ranges (x.0 - 1) out
]

abbrev pub IsSmall : RegisterFile → Type 0
IsSmall r = (k : ℕ) → k < 32 → read r (register_numbered k) < 2 ^ 32

pub read-small : (r : RegisterFile) (x : Register) → All (λ (word : ℕ). word < 2 ^ 32) r.words → read r x < 2 ^ 32
read-small r x are = elim (x.0 == 0) as (λ (b : Bool). (if b then 0 else get_or r.words x.0 0) < 2 ^ 32) [
  | true ↦ omega arith
  | false ↦ word-less r.words x.0 are
]

pub are-small : (r : RegisterFile) → All (λ (word : ℕ). word < 2 ^ 32) r.words → IsSmall r
are-small r are k less = read-small r (register_numbered k) are

below-full : (n : ℕ) → n < 2 ^ 32 → LiesIn n full
below-full n small = (omega arith, omega (arith, small))

-- one register has another range, and the others lie in theirs
one-other : (r : RegisterFile) (ranges : List Range) (x : Register) (out : Range) (k : ℕ) → length ranges ≡ 31 → 1 ≤ x.0 → x.0 < 32
    → (x.0 ≡ k → LiesIn (read r (register_numbered k)) out) → ((x.0 == k) ≡ false → LiesAt r ranges k) → LiesAt r (with_range ranges x out) k
one-other r ranges x out k long low high own others = elim (eqb_tells x.0 k) [
  | inl here ↦
      subst (λ (range : Range). LiesIn (read r (register_numbered k)) range)
      (sym (ap (λ (n : ℕ). range_of (with_range ranges x out) (register_numbered n)) (sym here.1) ∙ own-range ranges x out long low high)) (own here.1)
  | inr other ↦
      subst (λ (range : Range). LiesIn (read r (register_numbered k)) range) (sym (other-range ranges x out k low other.0)) (others other.0)
]

-- ---- after a system call

abbrev is_writable : Register → Bool
is_writable x = nat_le 1 x.0 && nat_lt x.0 32

forgotten : (xs : List Register) → list_all is_writable xs ≡ true → (r : RegisterFile) (ranges : List Range) (k : ℕ) → length ranges ≡ 31
    → read r (register_numbered k) < 2 ^ 32 → (list_any (λ (x : Register). x.0 == k) xs ≡ false → LiesAt r ranges k)
    → LiesAt r (fold (λ (kept : List Range) (x : Register). with_range kept x full) ranges xs) k
forgotten [] fit r ranges k long small kept = kept refl
forgotten (x ∷ xs) fit r ranges k long small kept =
    let parts = and_parts (is_writable x) (list_all is_writable xs) fit in
    let ends = and_parts (nat_le 1 x.0) (nat_lt x.0 32) parts.0 in
    forgotten xs parts.1 r (with_range ranges x full) k (with-long ranges x full ∙ long) small
    (λ rest. one-other r ranges x full k long (leb-true 1 x.0 ends.0) (ltb-true x.0 32 ends.1) (λ _. below-full (read r (register_numbered k)) small)
    (λ other. kept (ap (λ (b : Bool). b || list_any (λ (y : Register). y.0 == k) xs) other ∙ rest)))

are-writable : list_all is_writable message_registers ≡ true
unfolding word_registers
are-writable = refl

pub called-within : (r s : RegisterFile) (ranges : List Range) → length ranges ≡ 31 → IsSmall s → WritesOnly r s message_registers → LieWithin r ranges
    → LieWithin s (ranges_after_call ranges)
called-within r s ranges long small only lie k less =
    forgotten message_registers are-writable s ranges k long (small k less)
    (λ other. subst (λ (n : ℕ). LiesIn n (range_of ranges (register_numbered k))) (sym (only k less other)) (lie k less))

-- ---- after a message was received

full-lies : (r : RegisterFile) (k : ℕ) → k < 32 → read r (register_numbered k) < 2 ^ 32 → LiesAt r full_ranges k
full-lies r k less small = elim (eqb_tells k 0) [
  | inl none ↦
      let range : range_of full_ranges (register_numbered k) ≡ single 0 = ap (λ (b : Bool). if b then single 0 else get_or full_ranges (k - 1) full) none.0 in
      let word : read r (register_numbered k) ≡ 0 = ap (λ (b : Bool). if b then 0 else get_or r.words k 0) none.0 in
      subst (λ (out : Range). LiesIn (read r (register_numbered k)) out) (sym range)
      (subst (λ (n : ℕ). LiesIn n (single 0)) (sym word) (omega arith, omega arith))
  | inr some ↦
      let range : range_of full_ranges (register_numbered k) ≡ full =
      ap (λ (b : Bool). if b then single 0 else get_or full_ranges (k - 1) full) some.0
      ∙ get_or-replicate 31 (k - 1) full full (omega (arith, less, some.1)) in
      subst (λ (out : Range). LiesIn (read r (register_numbered k)) out) (sym range) (below-full (read r (register_numbered k)) small)
]

pub received-within : (r : RegisterFile) (badge : ℕ) → IsSmall r → read r a0 ≡ badge → LieWithin r (ranges_received badge)
received-within r badge small is k less =
    one-other r full_ranges a0 (single badge) k (length-replicate 31 full) (omega arith) (omega arith)
    (λ here.
    let word : read r (register_numbered k) ≡ badge = ap (λ (n : ℕ). read r (register_numbered n)) (sym here) ∙ is in
    (omega (arith, word), omega (arith, word)))
    (λ _. full-lies r k less (small k less))

-- ---- what is known

holds-at : (test : ℕ → Bool) (from count k : ℕ) → list_all test (range_with_len from count) ≡ true → from ≤ k → k < from + count → test k ≡ true
holds-at test from zero k h low high = absurd (omega (arith, low, high))
holds-at test from (suc count) k h low high =
    let parts = and_parts (test from) (list_all test (range_with_len (from + 1) count)) h in
    elim (cases_eq from k) [
      | inl here ↦ subst (λ (n : ℕ). test n ≡ true) here parts.0
      | inr other ↦ holds-at test (from + 1) count k parts.1 (omega (arith, low, other)) (omega (arith, high))
    ]

wider : (n : ℕ) (r s : Range) → is_range_within r s ≡ true → LiesIn n r → LiesIn n s
wider n r s within inside =
    let ends = and_parts (nat_le s.low r.low) (nat_le r.high s.high) within in
    (omega (arith, inside.0, leb-true s.low r.low ends.0), omega (arith, inside.1, leb-true r.high s.high ends.1))

-- register 0 has one range in both
within-wider : (r : RegisterFile) (ranges others : List Range) → are_ranges_within ranges others ≡ true → LieWithin r ranges → LieWithin r others
within-wider r ranges others within lie k less =
    let of : Bool → List Range → Range = λ b l. if b then single 0 else get_or l (k - 1) full in
    elim (eqb_tells k 0) [
      | inl none ↦
          let same : range_of others (register_numbered k) ≡ range_of ranges (register_numbered k) =
          ap (λ (b : Bool). of b others) none.0 ∙ sym (ap (λ (b : Bool). of b ranges) none.0) in
          subst (λ (range : Range). LiesIn (read r (register_numbered k)) range) (sym same) (lie k less)
      | inr some ↦
          let narrow : range_of ranges (register_numbered k) ≡ get_or ranges (k - 1) full = ap (λ (b : Bool). of b ranges) some.0 in
          let wide : range_of others (register_numbered k) ≡ get_or others (k - 1) full = ap (λ (b : Bool). of b others) some.0 in
          let test : is_range_within (get_or ranges (k - 1) full) (get_or others (k - 1) full) ≡ true =
          holds-at (λ (n : ℕ). is_range_within (get_or ranges n full) (get_or others n full)) 0 31 (k - 1) within (omega arith) (omega (arith, less, some.1)) in
          subst (λ (range : Range). LiesIn (read r (register_numbered k)) range) (sym wide)
          (wider (read r (register_numbered k)) (get_or ranges (k - 1) full) (get_or others (k - 1) full) test
          (subst (λ (range : Range). LiesIn (read r (register_numbered k)) range) narrow (lie k less)))
    ]

-- registers that lie in ranges that are known at a point lie in what is known there
pub record IsKnown (known : Option (List Range)) (r : RegisterFile) : Type 0 where
  pub ranges : List Range
  pub is : known ≡ Some ranges
  pub long : length ranges ≡ 31
  pub within : LieWithin r ranges

pub known-so : (known : Option (List Range)) (r : RegisterFile) (ranges : List Range) → are_known known ranges ≡ true → LieWithin r ranges → IsKnown known r
known-so None r ranges is lie = absurd (let clash : false ≡ true = is in cc)
known-so (Some known) r ranges is lie =
    let parts = and_parts (length known == 31) (are_ranges_within ranges known) is in
    record {
      ranges = known;
      is = refl;
      long = eqb-true (length known) 31 parts.0;
      within = within-wider r ranges known parts.1 lie;
    }
