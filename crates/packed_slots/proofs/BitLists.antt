-- The list of the bits of words.
use Rattle.std.proofs.Common.{ℕ, ◌≡◌, ◌≢◌, ◌∙◌, ◌==◌, ◌+◌, ◌-◌, ◌/◌, ◌%◌, ◌<◌, ◌≤◌, inl, inr, Bool, true, false, if◌then◌else◌, List, length, replicate, sym}
use Rattle.std.proofs.Common.{ap, arith}
use Rattle.std.specs.Int.{bit_at}
use Rattle.std.proofs.lemmas.Bool.{cases_lt}
use Rattle.std.proofs.lemmas.Bool.Decides.{eqb_tells, nat_tests}
use Rattle.std.proofs.lemmas.List.{ext_get_or, get_or-replicate, get_or_past, length-replicate}
use Rattle.std.proofs.lemmas.List.FromFn.{get_or-map-range_with_len, length-map-range_with_len}
use Rattle.std.proofs.lemmas.Nat.Bits.{bit_at-zero}
use Rattle.model.specs.Capabilities.Slots.{is_within}
use Rattle.packed_slots.specs.Bits.{bits_of, is_bit}
use Rattle.packed_slots.specs.Packing.{is_open_in}

pub length-bits : (words : List ℕ) (count : ℕ) → length (bits_of words count) ≡ count
unfolding bits_of
length-bits words count = length-map-range_with_len (is_bit words) 0 count

pub bit-inside : (words : List ℕ) (count s : ℕ) → s < count → is_open_in (bits_of words count) s ≡ is_bit words s
unfolding bits_of
bit-inside words count s inside = get_or-map-range_with_len (is_bit words) 0 count s s false inside (omega arith)

pub bit-past : (words : List ℕ) (count s : ℕ) → count ≤ s → is_open_in (bits_of words count) s ≡ false
bit-past words count s past = get_or_past (bits_of words count) s false (omega (arith, past, length-bits words count))

-- words of zeros have no bit
zero-bit : (size s : ℕ) → is_bit (replicate size 0) s ≡ false
zero-bit size s =
    ap (λ word. bit_at word (s % 64) == 1) (elim (cases_lt (s / 64) size) [
      | inl inside ↦ get_or-replicate size (s / 64) 0 0 inside
      | inr past ↦ get_or_past (replicate size 0) (s / 64) 0 (omega (arith, past, length-replicate {A = ℕ} size 0))
    ])
    ∙ ap (λ bit. bit == 1) (bit_at-zero (s % 64))

pub bits-new : (words : List ℕ) (size count : ℕ) → words ≡ replicate size 0 → bits_of words count ≡ replicate count false
bits-new words size count zeros =
    ext_get_or false (bits_of words count) (replicate count false) (length-bits words count ∙ sym (length-replicate {A = Bool} count false))
    (λ s inside.
    let less : s < count = omega (arith, inside, length-bits words count) in
    bit-inside words count s less ∙ ap (λ l. is_bit l s) zeros ∙ zero-bit size s ∙ sym (get_or-replicate count s false false less))

not-within : (first count n s : ℕ) → first + count ≤ n → n ≤ s → is_within first count s ≡ false
not-within first count n s within past = grind (arith, nat_tests)

pub bits-set : (old new : List ℕ) (n first count : ℕ) (value : Bool) → first + count ≤ n
    → ((s : ℕ) → is_bit new s ≡ (if is_within first count s then value else is_bit old s))
    → (s : ℕ) → is_open_in (bits_of new n) s ≡ (if is_within first count s then value else is_open_in (bits_of old n) s)
bits-set old new n first count value within each s = elim (cases_lt s n) [
  | inl inside ↦ bit-inside new n s inside ∙ each s ∙ sym (ap (λ b. if is_within first count s then value else b) (bit-inside old n s inside))
  | inr past ↦
      bit-past new n s past
      ∙ sym (ap (λ b. if b then value else is_open_in (bits_of old n) s) (not-within first count n s within past) ∙ bit-past old n s past)
]

-- ---- one bit more of a range

within-last : (first place : ℕ) → first ≤ place → is_within first (place + 1 - first) place ≡ true
within-last first place least = grind (arith, nat_tests)

within-others : (first place s : ℕ) → first ≤ place → s ≢ place → is_within first (place + 1 - first) s ≡ is_within first (place - first) s
within-others first place s least apart = elim (cases_lt s place) [
  | inl before ↦ elim (cases_lt s first) [ inl under ↦ grind (arith, nat_tests) | inr above ↦ grind (arith, nat_tests) ]
  | inr behind ↦ let past : place < s = omega (arith, behind, apart) in grind (arith, nat_tests)
]

pub one-more : (old words new : List ℕ) (first place : ℕ) (value : Bool) → first ≤ place → is_bit new place ≡ value
    → ((s : ℕ) → s ≢ place → is_bit new s ≡ is_bit words s) → ((s : ℕ) → is_bit words s ≡ (if is_within first (place - first) s then value else is_bit old s))
    → (s : ℕ) → is_bit new s ≡ (if is_within first (place + 1 - first) s then value else is_bit old s)
one-more old words new first place value least own others known s = elim (eqb_tells s place) [
  | inl same ↦
      ap (is_bit new) same.1 ∙ own
      ∙ sym (ap (λ b. if b then value else is_bit old s) (ap (is_within first (place + 1 - first)) same.1 ∙ within-last first place least))
  | inr apart ↦
      others s apart.1 ∙ known s ∙ sym (ap (λ b. if b then value else is_bit old s) (within-others first place s least apart.1))
]
