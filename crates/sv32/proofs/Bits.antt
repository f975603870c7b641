-- A set of flags contains one of them if that bit is set.
use Rattle.std.proofs.Common.{◌≡◌, ◌∙◌, ℕ, ◌*◌, ◌/◌, ◌%◌, ◌^◌, ◌<◌, ◌==◌, sym, refl, ap, arith}
use Rattle.std.specs.Prelude.{bit_and}
use Rattle.std.proofs.lemmas.Bool.Decides.{nat_tests}
use Rattle.std.proofs.lemmas.Nat.Bits.{and_pow}

one_or_none : (b p : ℕ) → b < 2 → 0 < p → (b * p == p) ≡ (b == 1)
one_or_none b p small more = grind (arith, nat_tests)

bit_test : (n k p : ℕ) → p ≡ 2 ^ k → 0 < p → (bit_and n p == p) ≡ (n / 2 ^ k % 2 == 1)
bit_test n k p power more =
    ap (λ (q : ℕ). bit_and n q == p) power ∙ ap (λ (x : ℕ). x == p) (and_pow n k)
    ∙ ap (λ (q : ℕ). n / 2 ^ k % 2 * q == p) (sym power) ∙ one_or_none (n / 2 ^ k % 2) p (omega arith) more

pub v_bit : (n : ℕ) → (bit_and n 1 == 1) ≡ (n / 2 ^ 0 % 2 == 1)
v_bit n = bit_test n 0 1 refl (omega arith)

pub r_bit : (n : ℕ) → (bit_and n 2 == 2) ≡ (n / 2 ^ 1 % 2 == 1)
r_bit n = bit_test n 1 2 refl (omega arith)

pub w_bit : (n : ℕ) → (bit_and n 4 == 4) ≡ (n / 2 ^ 2 % 2 == 1)
w_bit n = bit_test n 2 4 refl (omega arith)

pub x_bit : (n : ℕ) → (bit_and n 8 == 8) ≡ (n / 2 ^ 3 % 2 == 1)
x_bit n = bit_test n 3 8 refl (omega arith)

pub u_bit : (n : ℕ) → (bit_and n 16 == 16) ≡ (n / 2 ^ 4 % 2 == 1)
u_bit n = bit_test n 4 16 refl (omega arith)

pub a_bit : (n : ℕ) → (bit_and n 64 == 64) ≡ (n / 2 ^ 6 % 2 == 1)
a_bit n = bit_test n 6 64 refl (omega arith)

pub d_bit : (n : ℕ) → (bit_and n 128 == 128) ≡ (n / 2 ^ 7 % 2 == 1)
d_bit n = bit_test n 7 128 refl (omega arith)
