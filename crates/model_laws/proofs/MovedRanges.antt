-- A range moved by a signed number.
use Rattle.std.proofs.Common.{ℕ, suc, ℤ, pos, negsuc, ◌+ℤ◌, ◌≡◌, ◌∙◌, ◌+◌, ◌-◌, ◌^◌, ◌<◌, ◌≤◌, ◌&&◌, true, false, inl, inr, nat_le, nat_lt, int_le, int_lt}
use Rattle.std.proofs.Common.{if◌then◌else◌, sym, ap, arith}
use Rattle.std.proofs.Math.Bool.{and-false}
use Rattle.std.proofs.lemmas.Bool.{le-leb}
use Rattle.std.proofs.lemmas.Bool.Decides.{leb_tells}
use Rattle.model.specs.declared.ranges.Range.{Range}
use Rattle.model.specs.Acceptance.Measures.{moves_within}
use Rattle.model.specs.Acceptance.Ranges.{full, moved}

abbrev Moves : Range → ℤ → Type 0
Moves r n = (moves_within r n ≡ true → (pos (moved r n).low ≡ pos r.low +ℤ n) × (pos (moved r n).high ≡ pos r.high +ℤ n))
    × (moves_within r n ≡ false → moved r n ≡ full)

le-false : (a b : ℕ) → b < a → nat_le a b ≡ false
le-false a b less = elim (leb_tells a b) [ inl low ↦ absurd (omega (arith, low.1, less)) | inr high ↦ high.0 ]

-- a difference of numbers that does not go below 0, and one that does
minus-up : (a m : ℕ) → m < a → pos a +ℤ negsuc m ≡ pos (a - suc m)
minus-up a m less = ap (λ b. if b then negsuc (suc m - suc a) else pos (a - suc m)) (le-false (suc a) (suc m) (omega (arith, less)))

minus-down : (a m : ℕ) → a ≤ m → int_le (pos 0) (pos a +ℤ negsuc m) ≡ false
minus-down a m le = ap (λ b. int_le (pos 0) (if b then negsuc (suc m - suc a) else pos (a - suc m))) (le-leb (suc a) (suc m) (omega (arith, le)))

up-test : (r : Range) (m : ℕ) → moves_within r (pos m) ≡ nat_lt (r.high + m) (2 ^ 32)
up-test r m = ap (λ b. b && nat_lt (r.high + m) (2 ^ 32)) (le-leb 0 (r.low + m) (omega arith))

up-moves : (r : Range) (m : ℕ) → r.low ≤ r.high → Moves r (pos m)
up-moves r m order = elim (leb_tells (suc (r.high + m)) (2 ^ 32)) [
  | inl fits ↦
      let low : nat_lt (r.low + m) (2 ^ 32) ≡ true = le-leb (suc (r.low + m)) (2 ^ 32) (omega (arith, fits.1, order)) in
      let is_moved : moved r (pos m) ≡ record { low = r.low + m; high = r.high + m } =
      ap (λ b. if b && nat_lt (r.high + m) (2 ^ 32) then record { low = r.low + m; high = r.high + m } else full) low
      ∙ ap (λ b. if b then record { low = r.low + m; high = r.high + m } else full) fits.0
      in (
        (λ is. (ap (λ (q : Range). pos q.low) is_moved, ap (λ (q : Range). pos q.high) is_moved)),
        (λ is. absurd (let clash : true ≡ false = sym fits.0 ∙ sym (up-test r m) ∙ is in cc)),
      )
  | inr over ↦
      let is_full : moved r (pos m) ≡ full =
      ap (λ b. if nat_lt (r.low + m) (2 ^ 32) && b then record { low = r.low + m; high = r.high + m } else full) over.0
      ∙ ap (λ b. if b then record { low = r.low + m; high = r.high + m } else full) (and-false (nat_lt (r.low + m) (2 ^ 32)))
      in
      ((λ is. absurd (let clash : false ≡ true = sym over.0 ∙ sym (up-test r m) ∙ is in cc)), (λ is. is_full))
]

down-moves : (r : Range) (m : ℕ) → r.low ≤ r.high → r.high < 2 ^ 32 → Moves r (negsuc m)
down-moves r m order words = elim (leb_tells (m + 1) r.low) [
  | inl fits ↦
      let high : nat_le (m + 1) r.high ≡ true = le-leb (m + 1) r.high (omega (arith, fits.1, order)) in
      let is_moved : moved r (negsuc m) ≡ record { low = r.low - (m + 1); high = r.high - (m + 1) } =
      ap (λ b. if b && nat_le (m + 1) r.high then record { low = r.low - (m + 1); high = r.high - (m + 1) } else full) fits.0
      ∙ ap (λ b. if b then record { low = r.low - (m + 1); high = r.high - (m + 1) } else full) high
      in
      let low_is = minus-up r.low m (omega (arith, fits.1)) in
      let high_is = minus-up r.high m (omega (arith, fits.1, order)) in
      let test : moves_within r (negsuc m) ≡ true =
      ap (λ (z : ℤ). int_le (pos 0) z && int_lt (pos r.high +ℤ negsuc m) (pos (2 ^ 32))) low_is
      ∙ ap (λ b. b && int_lt (pos r.high +ℤ negsuc m) (pos (2 ^ 32))) (le-leb 0 (r.low - suc m) (omega arith))
      ∙ ap (λ (z : ℤ). int_lt z (pos (2 ^ 32))) high_is
      ∙ le-leb (suc (r.high - suc m)) (2 ^ 32) (omega (arith, words))
      in (
        (λ is. (
          ap (λ (q : Range). pos q.low) is_moved ∙ ap (λ (n : ℕ). pos n) (omega arith) ∙ sym low_is,
          ap (λ (q : Range). pos q.high) is_moved
              ∙ ap (λ (n : ℕ). pos n) (omega arith) ∙ sym high_is,
        )),
        (λ is. absurd (let clash : true ≡ false = sym test ∙ is in cc)),
      )
  | inr below ↦
      let is_full : moved r (negsuc m) ≡ full =
      ap (λ b. if b && nat_le (m + 1) r.high then record { low = r.low - (m + 1); high = r.high - (m + 1) } else full) below.0
      in
      let test : moves_within r (negsuc m) ≡ false = ap (λ b. b && int_lt (pos r.high +ℤ negsuc m) (pos (2 ^ 32)))
      (minus-down r.low m (omega (arith, below.1))) in
      ((λ is. absurd (let clash : false ≡ true = sym test ∙ is in cc)), (λ is. is_full))
]

pub moves : (r : Range) (n : ℤ) → r.low ≤ r.high → r.high < 2 ^ 32 → Moves r n
moves r (pos m) order words = up-moves r m order
moves r (negsuc m) order words = down-moves r m order words
