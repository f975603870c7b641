-- Rights as bits: which are tested, and those of a mapping.
use Rattle.std.proofs.Common.{◌≡◌, ◌∙◌, ℕ, zero, suc, ◌+◌, ◌*◌, ◌/◌, ◌%◌, ◌^◌, ◌<◌, ◌==◌, inl, inr, true, false, not, sym, refl, ap, arith}
use Rattle.std.specs.Prelude.{bit_and}
use Rattle.std.proofs.lemmas.Bool.Decides.{nat_tests}
use Rattle.std.proofs.lemmas.Nat.{and_comm, and_mask}
use Rattle.std.proofs.lemmas.Nat.Bits.{and_pow}
use Rattle.model.specs.Capabilities.CapabilityWords.{AreMappingRights}

-- a bit by itself
bit_alone : (n k p : ℕ) → p ≡ 2 ^ k → bit_and n p ≡ n / p % 2 * p
bit_alone n k p power = ap (λ (q : ℕ). bit_and n q) power ∙ and_pow n k ∙ ap (λ (q : ℕ). n / q % 2 * q) (sym power)

-- a set contains one right if that bit is not 0
pub read_tested : (n : ℕ) → (bit_and n 2 == 2) ≡ not (bit_and n 2 == 0)
read_tested n =
    let bit = bit_alone n 1 2 refl in
    grind (arith, nat_tests)

pub execute_tested : (n : ℕ) → (bit_and n 4 == 4) ≡ not (bit_and n 4 == 0)
execute_tested n =
    let bit = bit_alone n 2 4 refl in
    grind (arith, nat_tests)

-- ---- the rights of a mapping

-- the sum by the bits of the frame's rights and of the word
abbrev weights : ℕ → ℕ → ℕ → ℕ → ℕ → ℕ
weights writable readable a b c = writable * a * (readable / 2 * b) + 2 * (readable / 2 * b) + 4 * (readable / 2 * c)

abbrev pub allowed : ℕ → ℕ → ℕ
allowed frame word = weights (bit_and frame 1) (bit_and frame 2) (word % 2) (word / 2 % 2) (word / 4 % 2)

one : (n : ℕ) → bit_and n 1 ≡ n % 2
one n = omega (arith, bit_alone n 0 1 refl)

two : (n : ℕ) → bit_and n 2 ≡ n / 2 % 2 * 2
two n = bit_alone n 1 2 refl

four : (n : ℕ) → bit_and n 4 ≡ n / 4 % 2 * 4
four n = bit_alone n 2 4 refl

six : (n : ℕ) → n < 8 → bit_and n 6 ≡ n / 2 * 2
six zero small = refl
six (suc zero) small = refl
six (suc (suc zero)) small = refl
six (suc (suc (suc zero))) small = refl
six (suc (suc (suc (suc zero)))) small = refl
six (suc (suc (suc (suc (suc zero))))) small = refl
six (suc (suc (suc (suc (suc (suc zero)))))) small = refl
six (suc (suc (suc (suc (suc (suc (suc zero))))))) small = refl
six (suc (suc (suc (suc (suc (suc (suc (suc n)))))))) small = absurd (omega arith)

-- of a frame that may not be read nothing is mapped
pub none_allowed : (frame word : ℕ) → (bit_and frame 2 == 2) ≡ false → 0 ≡ allowed frame word
none_allowed frame word refused =
    let bit : bit_and frame 2 ≡ 0 = grind (arith, nat_tests, two frame) in
    sym (ap (λ (r : ℕ). weights (bit_and frame 1) r (word % 2) (word / 2 % 2) (word / 4 % 2)) bit ∙ omega arith)

-- what the word asks for
asked : (word : ℕ) → bit_and 7 word ≡ word % 8
asked word = and_comm 7 word ∙ and_mask word 3

readable : (n : ℕ) → (bit_and n 2 == 2) ≡ true → (bit_and n 2 ≡ 2) × (n / 2 % 2 ≡ 1)
readable n is = (grind (arith, nat_tests), grind (arith, nat_tests, two n))

unreadable : (n : ℕ) → (bit_and n 2 == 2) ≡ false → n / 2 % 2 ≡ 0
unreadable n is = grind (arith, nat_tests, two n)

-- where the word does not ask for read, write is not there either
pub execute_allowed : (frame word : ℕ) → (bit_and frame 2 == 2) ≡ true → (bit_and (bit_and 7 word) 2 == 2) ≡ false →
    bit_and (bit_and 7 word) 4 ≡ allowed frame word
execute_allowed frame word may refused =
    let b : word / 2 % 2 ≡ 0 = omega (arith, asked word, unreadable (bit_and 7 word) refused) in
    let c : bit_and (bit_and 7 word) 4 ≡ 4 * (word / 4 % 2) = omega (arith, asked word, four (bit_and 7 word)) in
    let sum : weights (bit_and frame 1) 2 (word % 2) 0 (word / 4 % 2) ≡ 4 * (word / 4 % 2) = grind (arith) in
    c ∙ sym sum
    ∙ sym (ap (λ (r : ℕ). weights (bit_and frame 1) r (word % 2) (word / 2 % 2) (word / 4 % 2)) (readable frame may).0
    ∙ ap (λ (r : ℕ). weights (bit_and frame 1) 2 (word % 2) r (word / 4 % 2)) b)

-- a frame that may not be written
pub all_but_write_allowed : (frame word : ℕ) → (bit_and frame 2 == 2) ≡ true → (bit_and (bit_and 7 word) 2 == 2) ≡ true → (bit_and frame 1 == 1) ≡ false →
    bit_and (bit_and 7 word) 6 ≡ allowed frame word
all_but_write_allowed frame word may reads refused =
    let b : word / 2 % 2 ≡ 1 = omega (arith, asked word, (readable (bit_and 7 word) reads).1) in
    let w : bit_and frame 1 ≡ 0 = grind (arith, nat_tests, one frame) in
    let rest : bit_and (bit_and 7 word) 6 ≡ 2 + 4 * (word / 4 % 2) = omega (arith, asked word, b, six (bit_and 7 word) (omega (arith, asked word))) in
    let sum : weights 0 2 (word % 2) 1 (word / 4 % 2) ≡ 2 + 4 * (word / 4 % 2) = grind (arith) in
    rest ∙ sym sum
    ∙ sym (ap (λ (r : ℕ). weights (bit_and frame 1) r (word % 2) (word / 2 % 2) (word / 4 % 2)) (readable frame may).0
    ∙ ap (λ (r : ℕ). weights (bit_and frame 1) 2 (word % 2) r (word / 4 % 2)) b
    ∙ ap (λ (r : ℕ). weights r 2 (word % 2) 1 (word / 4 % 2)) w)

-- one that may be read and written
pub all_allowed : (frame word : ℕ) → (bit_and frame 2 == 2) ≡ true → (bit_and (bit_and 7 word) 2 == 2) ≡ true → (bit_and frame 1 == 1) ≡ true →
    bit_and 7 word ≡ allowed frame word
all_allowed frame word may reads writes =
    let b : word / 2 % 2 ≡ 1 = omega (arith, asked word, (readable (bit_and 7 word) reads).1) in
    let w : bit_and frame 1 ≡ 1 = grind (arith, nat_tests) in
    let whole : bit_and 7 word ≡ word % 2 + 2 + 4 * (word / 4 % 2) = omega (arith, asked word, b) in
    let sum : weights 1 2 (word % 2) 1 (word / 4 % 2) ≡ word % 2 + 2 + 4 * (word / 4 % 2) = grind (arith) in
    whole ∙ sym sum
    ∙ sym (ap (λ (r : ℕ). weights (bit_and frame 1) r (word % 2) (word / 2 % 2) (word / 4 % 2)) (readable frame may).0
    ∙ ap (λ (r : ℕ). weights (bit_and frame 1) 2 (word % 2) r (word / 4 % 2)) b
    ∙ ap (λ (r : ℕ). weights r 2 (word % 2) 1 (word / 4 % 2)) w)

with_read : (n : ℕ) → n < 8 → n / 2 % 2 ≡ 1 → AreMappingRights n
with_read zero small is = absurd (omega (arith, is))
with_read (suc zero) small is = absurd (omega (arith, is))
with_read (suc (suc zero)) small is = inl refl
with_read (suc (suc (suc zero))) small is = inr (inl refl)
with_read (suc (suc (suc (suc zero)))) small is = absurd (omega (arith, is))
with_read (suc (suc (suc (suc (suc zero))))) small is = absurd (omega (arith, is))
with_read (suc (suc (suc (suc (suc (suc zero)))))) small is = inr (inr (inr (inl refl)))
with_read (suc (suc (suc (suc (suc (suc (suc zero))))))) small is = inr (inr (inr (inr refl)))
with_read (suc (suc (suc (suc (suc (suc (suc (suc n)))))))) small is = absurd (omega arith)

-- what is asked for with read is rights of a mapping
pub asked_with_read : (word : ℕ) → (bit_and (bit_and 7 word) 2 == 2) ≡ true → AreMappingRights (bit_and 7 word)
asked_with_read word reads = with_read (bit_and 7 word) (omega (arith, asked word)) (readable (bit_and 7 word) reads).1
