-- Sums over lists and ranges.
use Rattle.std.proofs.Common.{ℕ, zero, suc, ◌≡◌, ◌∙◌, ◌+◌, ◌-◌, ◌<◌, ◌≤◌, ◌&&◌, ◌||◌, Bool, true, false, List, [], ◌∷◌, map}
use Rattle.std.proofs.Common.{refl, ap, subst, arith}
use Rattle.std.specs.List.{list_all, list_any, range_with_len}
use Rattle.std.proofs.lemmas.Bool.{and_parts}
use Rattle.response.specs.Left.{total}

module _ {A : Type 0} where
  pub total-map : {B : Type 0} (f : B → ℕ) (g : A → B) (xs : List A) → total f (map g xs) ≡ total (λ x. f (g x)) xs
  total-map f g [] = refl
  total-map f g (x ∷ xs) = ap (λ n. f (g x) + n) (total-map f g xs)

  -- where that is so of each that passes
  pub total-where : (test : A → Bool) (f g : A → ℕ) → ((x : A) → test x ≡ true → f x ≡ g x) → (xs : List A) → list_all test xs ≡ true →
      total f xs ≡ total g xs
  total-where test f g same [] all = refl
  total-where test f g same (x ∷ xs) all =
      let parts = and_parts (test x) (list_all test xs) all in
      ap (λ n. n + total f xs) (same x parts.0) ∙ ap (λ n. g x + n) (total-where test f g same xs parts.1)

  pub any-map : {B : Type 0} (f : B → Bool) (g : A → B) (xs : List A) → list_any f (map g xs) ≡ list_any (λ x. f (g x)) xs
  any-map f g [] = refl
  any-map f g (x ∷ xs) = ap (λ b. f (g x) || b) (any-map f g xs)

  -- one of them is part of the sum
  pub total-least : (test : A → Bool) (f : A → ℕ) (n : ℕ) → ((x : A) → test x ≡ true → n ≤ f x) → (xs : List A) → list_any test xs ≡ true → n ≤ total f xs
  total-least test f n least [] any = absurd (let clash : false ≡ true = any in cc)
  total-least test f n least (x ∷ xs) any =
      elim (test x) as (λ b. test x ≡ b → (b || list_any test xs) ≡ true → n ≤ total f (x ∷ xs)) [
        | true ↦ λ is _. let one = least x is in omega (arith, one)
        | false ↦ λ _ later. let rest = total-least test f n least xs later in omega (arith, rest)
      ] refl any

pub range-same : (f g : ℕ → ℕ) (first n : ℕ) → ((k : ℕ) → k < first + n → f k ≡ g k) → total f (range_with_len first n) ≡ total g (range_with_len first n)
range-same f g first zero same = refl
range-same f g first (suc n) same =
    ap (λ m. m + total f (range_with_len (first + 1) n)) (same first (omega arith))
    ∙ ap (λ m. g first + m) (range-same f g (first + 1) n (λ k less. same k (omega (arith, less))))

-- from a number up to another
pub sum-next : (f : ℕ → ℕ) (i n : ℕ) → i < n → total f (range_with_len i (n - i)) ≡ f i + total f (range_with_len (i + 1) (n - (i + 1)))
sum-next f i n less = let e : n - i ≡ suc (n - (i + 1)) = omega (arith, less) in ap (λ m. total f (range_with_len i m)) e

pub all-next : (p : ℕ → Bool) (i n : ℕ) → i < n → list_all p (range_with_len i (n - i)) ≡ (p i && list_all p (range_with_len (i + 1) (n - (i + 1))))
all-next p i n less = let e : n - i ≡ suc (n - (i + 1)) = omega (arith, less) in ap (λ m. list_all p (range_with_len i m)) e

pub range-at : (p : ℕ → Bool) (first n k : ℕ) → list_all p (range_with_len first n) ≡ true → k < n → p (first + k) ≡ true
range-at p first zero k all less = absurd (omega (arith, less))
range-at p first (suc n) zero all less =
    let here : first ≡ first + 0 = omega arith in
    subst (λ m. p m ≡ true) here (and_parts (p first) (list_all p (range_with_len (first + 1) n)) all).0
range-at p first (suc n) (suc k) all less =
    let on : first + 1 + k ≡ first + suc k = omega arith in
    subst (λ m. p m ≡ true) on
    (range-at p (first + 1) n k (and_parts (p first) (list_all p (range_with_len (first + 1) n)) all).1 (omega (arith, less)))

pub below-at : (p : ℕ → Bool) (n k : ℕ) → list_all p (range_with_len 0 n) ≡ true → k < n → p k ≡ true
below-at p n k all less = let same : 0 + k ≡ k = omega arith in subst (λ m. p m ≡ true) same (range-at p 0 n k all less)

-- three numbers one after another
pub three-so : (x y z both all a b c : ℕ) → x ≡ a → y ≡ b → z ≡ c → both ≡ x + y → all ≡ both + z → all ≡ a + b + c
three-so x y z both all a b c x_is y_is z_is both_is all_is =
    all_is ∙ ap (λ n. n + z) (both_is ∙ ap (λ n. n + y) x_is ∙ ap (λ n. a + n) y_is) ∙ ap (λ n. a + b + n) z_is
