-- Sizes of products and sums.
use Rattle.std.proofs.Common.{ℕ, ◌≡◌, ◌+◌, ◌*◌, ◌^◌, ◌<◌, ◌≤◌, ℤ, pos, negsuc, ◌+ℤ◌, ◌*ℤ◌, FitsSigned, to_z, of_z, w8, w32, w64, ap, ◌∙◌, subst, sym, arith}
use Rattle.std.specs.Int.RustNames.{unsigned_abs}
use Rattle.std.proofs.lemmas.Int.{ints, to_z-of_z, unsigned_abs-mul}
use mir.Syntax.{Width}
use mir.Val.{hbits}
use Rattle.std.proofs.lemmas.Nat.{mul-le}
use Rattle.measure.specs.Sums.{IsSmall}

pub abs-8 : (z : ℤ) → FitsSigned w8 z → unsigned_abs z ≤ 2 ^ 7
abs-8 (pos n) fits = omega (arith, fits.sfits)
abs-8 (negsuc n) fits = omega (arith, fits.sfits)

pub abs-32 : (z : ℤ) → FitsSigned w32 z → unsigned_abs z ≤ 2 ^ 31
abs-32 (pos n) fits = omega (arith, fits.sfits)
abs-32 (negsuc n) fits = omega (arith, fits.sfits)

pub abs-64 : (z : ℤ) → FitsSigned w64 z → unsigned_abs z ≤ 2 ^ 63
abs-64 (pos n) fits = omega (arith, fits.sfits)
abs-64 (negsuc n) fits = omega (arith, fits.sfits)

abs-small : (z : ℤ) (k : ℕ) → unsigned_abs z ≤ k → IsSmall k z
abs-small (pos n) k few = (grind (arith, ints), grind (arith, ints, few))
abs-small (negsuc n) k few = (grind (arith, ints, few), grind (arith, ints))

pub product-small : (a b : ℤ) (m n : ℕ) → unsigned_abs a ≤ m → unsigned_abs b ≤ n → IsSmall (m * n) (a *ℤ b)
product-small a b m n first second =
    abs-small (a *ℤ b) (m * n)
    (subst (λ (k : ℕ). k ≤ m * n) (sym (unsigned_abs-mul a b)) (mul-le (unsigned_abs a) (unsigned_abs b) m n first second))

-- one more number of a sum
pub sum-small : (a b : ℤ) (m n k : ℕ) → IsSmall m a → IsSmall n b → m + n + 1 ≤ k → IsSmall k (a +ℤ b)
sum-small a b m n k first second room = (grind (arith, ints), grind (arith, ints))

-- ---- numbers that are stored and read back

fits-small : (w : Width) (z : ℤ) (k : ℕ) → IsSmall k z → k < 2 ^ hbits w → FitsSigned w z
fits-small w (pos n) k small room =
    let few : n ≤ k = grind (arith, ints, small.1) in
    record { sfits = omega (arith, few, room) }
fits-small w (negsuc n) k small room =
    let few : n ≤ k = grind (arith, ints, small.0) in
    record { sfits = omega (arith, few, room) }

pub stored : (w : Width) (s p : ℤ) (m n k : ℕ) → IsSmall m s → IsSmall n p → m + n + 1 ≤ k → k < 2 ^ hbits w
    → to_z w (of_z w (s +ℤ to_z w (of_z w p))) ≡ s +ℤ p
stored w s p m n k first second room fits =
    ap (λ (z : ℤ). to_z w (of_z w (s +ℤ z))) (to_z-of_z w p (fits-small w p n second (omega (arith, room, fits))))
    ∙ to_z-of_z w (s +ℤ p) (fits-small w (s +ℤ p) k (sum-small s p m n k first second room) fits)

pub stored-first : (w : Width) (s p : ℤ) (m n k : ℕ) → IsSmall m s → IsSmall n p → m + n + 1 ≤ k → k < 2 ^ hbits w
    → to_z w (of_z w (to_z w (of_z w s) +ℤ p)) ≡ s +ℤ p
stored-first w s p m n k first second room fits =
    ap (λ (z : ℤ). to_z w (of_z w (z +ℤ p))) (to_z-of_z w s (fits-small w s m first (omega (arith, room, fits))))
    ∙ to_z-of_z w (s +ℤ p) (fits-small w (s +ℤ p) k (sum-small s p m n k first second room) fits)

-- a product of two numbers that are read back, and is stored itself
pub product-stored : (u v w : Width) (a b r : ℤ) (m n : ℕ) → FitsSigned v a → FitsSigned w b → unsigned_abs a ≤ m → unsigned_abs b ≤ n → m * n < 2 ^ hbits u
    → r ≡ to_z v (of_z v a) *ℤ to_z w (of_z w b) → IsSmall (m * n) (to_z u (of_z u r))
product-stored u v w a b r m n first second few less room is =
    let same : r ≡ a *ℤ b = is ∙ ap (λ (z : ℤ). z *ℤ to_z w (of_z w b)) (to_z-of_z v a first) ∙ ap (λ (z : ℤ). a *ℤ z) (to_z-of_z w b second) in
    let small : IsSmall (m * n) r = subst (λ (z : ℤ). IsSmall (m * n) z) (sym same) (product-small a b m n few less) in
    subst (λ (z : ℤ). IsSmall (m * n) z) (sym (to_z-of_z u r (fits-small u r (m * n) small room))) small

-- the same where the second is a word
pub word-product-stored : (u v : Width) (a r : ℤ) (b m n : ℕ) → FitsSigned v a → unsigned_abs a ≤ m → b ≤ n → m * n < 2 ^ hbits u
    → r ≡ to_z v (of_z v a) *ℤ pos b → IsSmall (m * n) (to_z u (of_z u r))
word-product-stored u v a r b m n fits few less room is =
    let same : r ≡ a *ℤ pos b = is ∙ ap (λ (z : ℤ). z *ℤ pos b) (to_z-of_z v a fits) in
    let small : IsSmall (m * n) r = subst (λ (z : ℤ). IsSmall (m * n) z) (sym same) (product-small a (pos b) m n few less) in
    subst (λ (z : ℤ). IsSmall (m * n) z) (sym (to_z-of_z u r (fits-small u r (m * n) small room))) small

-- ---- products of numbers that were widened

-- a number that is small is read back as it was stored
read-back : (u : Width) (x a : ℤ) (k : ℕ) → x ≡ a → unsigned_abs a ≤ k → k < 2 ^ hbits u → to_z u (of_z u x) ≡ a
read-back u x a k is few less = ap (λ (z : ℤ). to_z u (of_z u z)) is ∙ to_z-of_z u a (fits-small u a k (abs-small a k few) less)

product-read : (u : Width) (x y a b : ℤ) (m n : ℕ) → x ≡ a → y ≡ b → unsigned_abs a ≤ m → unsigned_abs b ≤ n → m < 2 ^ hbits u → n < 2 ^ hbits u
    → to_z u (of_z u x) *ℤ to_z u (of_z u y) ≡ a *ℤ b
product-read u x y a b m n first second few less small narrow =
    ap (λ (z : ℤ). z *ℤ to_z u (of_z u y)) (read-back u x a m first few small) ∙ ap (λ (z : ℤ). a *ℤ z) (read-back u y b n second less narrow)

-- the product of two widened numbers fits where the product of their bounds does
pub product-fits : (u : Width) (x y a b : ℤ) (m n : ℕ) → x ≡ a → y ≡ b → unsigned_abs a ≤ m → unsigned_abs b ≤ n → m < 2 ^ hbits u → n < 2 ^ hbits u
    → m * n < 2 ^ hbits u → FitsSigned u (to_z u (of_z u x) *ℤ to_z u (of_z u y))
product-fits u x y a b m n first second few less small narrow room =
    let same : to_z u (of_z u x) *ℤ to_z u (of_z u y) ≡ a *ℤ b = product-read u x y a b m n first second few less small narrow in
    subst (λ (z : ℤ). FitsSigned u z) (sym same) (fits-small u (a *ℤ b) (m * n) (product-small a b m n few less) room)

-- and is that of the numbers themselves
pub product-kept : (u : Width) (x y a b : ℤ) (m n : ℕ) → x ≡ a → y ≡ b → unsigned_abs a ≤ m → unsigned_abs b ≤ n → m < 2 ^ hbits u → n < 2 ^ hbits u
    → m * n < 2 ^ hbits u → to_z u (of_z u (to_z u (of_z u x) *ℤ to_z u (of_z u y))) ≡ a *ℤ b
product-kept u x y a b m n first second few less small narrow room =
    ap (λ (z : ℤ). to_z u (of_z u z)) (product-read u x y a b m n first second few less small narrow)
    ∙ to_z-of_z u (a *ℤ b) (fits-small u (a *ℤ b) (m * n) (product-small a b m n few less) room)

pub more-small : (z : ℤ) (m n : ℕ) → IsSmall m z → m ≤ n → IsSmall n z
more-small z m n small room = (grind (arith, ints), grind (arith, ints))
