-- What fits a format: lists have their counts, keys rise, and numbers lie in their ranges.
use Rattle.std.proofs.Common.{ℕ, zero, suc, ◌≡◌, ◌+◌, ◌^◌, ◌<◌, ◌≤◌, Bool, true, false, List, [], ◌∷◌, length, Some, refl, ap, subst, arith}
use Rattle.std.specs.Prelude.{slice_get}
use Rattle.std.proofs.lemmas.Bool.{and_parts, ltb-true, leb-true}
use Rattle.std.proofs.lemmas.Option.{same_Some, none-some}
use Rattle.model.specs.Images.Format.{Format, field, many_fit}
use Rattle.model.specs.Images.Image.{between}

pub many-length : {A : Type 0} (format : ℕ → Format A) (next : A → ℕ) (least count : ℕ) (xs : List A) → many_fit format next least count xs ≡ true →
    length xs ≡ count
unfolding many_fit
many-length format next least zero [] is = refl
many-length format next least zero (x ∷ xs) is = absurd (let clash : false ≡ true = is in cc)
many-length format next least (suc n) [] is = absurd (let clash : false ≡ true = is in cc)
many-length format next least (suc n) (x ∷ xs) is =
    ap suc (many-length format next (next x) n xs (and_parts ((format least).fits x) (many_fit format next (next x) n xs) is).1)

-- each entry fits with some least key
pub many-each : {A : Type 0} (format : ℕ → Format A) (next : A → ℕ) (least count : ℕ) (xs : List A) → many_fit format next least count xs ≡ true
    → (k : ℕ) (x : A) → slice_get xs k ≡ Some x → (l : ℕ) × ((format l).fits x ≡ true)
unfolding many_fit
many-each format next least count [] is k x at = absurd (none-some x at)
many-each format next least zero (y ∷ ys) is k x at = absurd (let clash : false ≡ true = is in cc)
many-each format next least (suc n) (y ∷ ys) is zero x at =
    (least, subst (λ z. (format least).fits z ≡ true) (same_Some y x at) (and_parts ((format least).fits y) (many_fit format next (next y) n ys) is).0)
many-each format next least (suc n) (y ∷ ys) is (suc k) x at =
    many-each format next (next y) n ys (and_parts ((format least).fits y) (many_fit format next (next y) n ys) is).1 k x at

module _ {A : Type 0} (format : ℕ → Format A) (next key : A → ℕ) (bound : (l : ℕ) (x : A) → (format l).fits x ≡ true → l ≤ key x)
    (step : (x : A) → next x ≡ key x + 1) where
  -- no key is below the least
  many-above : (least count : ℕ) (xs : List A) → many_fit format next least count xs ≡ true → (k : ℕ) (x : A) → slice_get xs k ≡ Some x → least ≤ key x
  unfolding many_fit
  many-above least count [] is k x at = absurd (none-some x at)
  many-above least zero (y ∷ ys) is k x at = absurd (let clash : false ≡ true = is in cc)
  many-above least (suc n) (y ∷ ys) is zero x at =
      bound least x (subst (λ z. (format least).fits z ≡ true) (same_Some y x at) (and_parts ((format least).fits y) (many_fit format next (next y) n ys) is).0)
  many-above least (suc n) (y ∷ ys) is (suc k) x at =
      let parts = and_parts ((format least).fits y) (many_fit format next (next y) n ys) is in
      let low = bound least y parts.0 in
      let high = many-above (next y) n ys parts.1 k x at in
      omega (arith, low, high, step y)

  -- keys rise
  pub many-rises : (least count : ℕ) (xs : List A) → many_fit format next least count xs ≡ true → (i j : ℕ) (x y : A) → i < j
      → slice_get xs i ≡ Some x → slice_get xs j ≡ Some y → key x < key y
  unfolding many_fit
  many-rises least count [] is i j x y less at behind = absurd (none-some x at)
  many-rises least zero (z ∷ zs) is i j x y less at behind = absurd (let clash : false ≡ true = is in cc)
  many-rises least (suc n) (z ∷ zs) is i zero x y less at behind = absurd (omega (arith, less))
  many-rises least (suc n) (z ∷ zs) is zero (suc j) x y less at behind =
      let parts = and_parts ((format least).fits z) (many_fit format next (next z) n zs) is in
      let above = many-above (next z) n zs parts.1 j y behind in
      omega (arith, above, step z, ap key (same_Some z x at))
  many-rises least (suc n) (z ∷ zs) is (suc i) (suc j) x y less at behind =
      many-rises (next z) n zs (and_parts ((format least).fits z) (many_fit format next (next z) n zs) is).1 i j x y (omega (arith, less)) at behind

-- ---- fields

pub field-parts : (test : ℕ → Bool) (n : ℕ) → (field test).fits n ≡ true → (n < 2 ^ 32) × (test n ≡ true)
field-parts test n is = let parts = and_parts _ (test n) is in (ltb-true n (2 ^ 32) parts.0, parts.1)

pub between-bounds : (low high n : ℕ) → between low high n ≡ true → (low ≤ n) × (n ≤ high)
between-bounds low high n is = let parts = and_parts _ _ is in (leb-true low n parts.0, leb-true n high parts.1)

-- a field between two bounds
pub field-between : (low high n : ℕ) → (field (between low high)).fits n ≡ true → (low ≤ n) × (n ≤ high)
field-between low high n is = between-bounds low high n (field-parts (between low high) n is).1
