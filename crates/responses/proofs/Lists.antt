-- Lists by the places of their items, and ranges by their numbers.
use Rattle.std.proofs.Common.{ℕ, zero, suc, ◌≡◌, ◌∙◌, ◌+◌, ◌<◌, ◌&&◌, Bool, true, false, Option, Some, None, List, [], ◌∷◌, length}
use Rattle.std.proofs.Common.{refl, sym, ap, subst, arith}
use Rattle.std.specs.Prelude.{IfSome, slice_get}
use Rattle.std.specs.List.{list_all, range_with_len}
use Rattle.std.proofs.lemmas.Bool.{and_parts}
use Rattle.std.proofs.lemmas.Option.{none-some, same_Some}

pub both-true : (a b : Bool) → a ≡ true → b ≡ true → (a && b) ≡ true
both-true a b left right = ap (λ x. x && b) left ∙ right

pub and-true : (b : Bool) → (b && true) ≡ b
and-true true = refl
and-true false = refl

pub some-weaker : {A : Type 0} (x : Option A) (P Q : A → Type 0) → ((a : A) → P a → Q a) → IfSome x P → IfSome x Q
some-weaker None P Q so is = is
some-weaker (Some a) P Q so is = so a is

pub and-same : (b : Bool) → (b && b) ≡ b
and-same true = refl
and-same false = refl

module _ {A : Type 0} where
  pub got : (xs : List A) (k : ℕ) → k < length xs → (x : A) × (slice_get xs k ≡ Some x)
  got [] k less = absurd (omega (arith, less))
  got (x ∷ xs) zero less = (x, refl)
  got (x ∷ xs) (suc k) less = got xs k (omega (arith, less))

  pub all-so : (f g : A → Bool) → ((x : A) → f x ≡ true → g x ≡ true) → (xs : List A) → list_all f xs ≡ true → list_all g xs ≡ true
  all-so f g so [] all = refl
  all-so f g so (x ∷ xs) all =
      let parts = and_parts (f x) (list_all f xs) all in both-true (g x) (list_all g xs) (so x parts.0) (all-so f g so xs parts.1)

  pub all-at : (f : A → Bool) (xs : List A) (k : ℕ) (x : A) → list_all f xs ≡ true → slice_get xs k ≡ Some x → f x ≡ true
  all-at f [] k x all is = absurd (none-some x is)
  all-at f (y ∷ ys) zero x all is = ap f (sym (same_Some y x is)) ∙ (and_parts (f y) (list_all f ys) all).0
  all-at f (y ∷ ys) (suc k) x all is = all-at f ys k x (and_parts (f y) (list_all f ys) all).1 is

pub all-in-range : (p : ℕ → Bool) (first n : ℕ) → ((k : ℕ) → k < n → p (first + k) ≡ true) → list_all p (range_with_len first n) ≡ true
all-in-range p first zero each = refl
all-in-range p first (suc n) each =
    let here : first + 0 ≡ first = omega arith in
    both-true (p first) (list_all p (range_with_len (first + 1) n)) (subst (λ k. p k ≡ true) here (each 0 (omega arith)))
    (all-in-range p (first + 1) n
    (λ k less. let on : first + suc k ≡ first + 1 + k = omega arith in subst (λ m. p m ≡ true) on (each (suc k) (omega (arith, less)))))

-- from 0 on
pub all-below : (p : ℕ → Bool) (n : ℕ) → ((k : ℕ) → k < n → p k ≡ true) → list_all p (range_with_len 0 n) ≡ true
all-below p n each = all-in-range p 0 n (λ k less. let same : k ≡ 0 + k = omega arith in subst (λ m. p m ≡ true) same (each k less))
