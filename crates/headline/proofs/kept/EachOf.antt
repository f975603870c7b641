-- What holds of each element of a list, and of each that is picked out of it.
use Rattle.std.proofs.Common.{ℕ, zero, suc, ◌≡◌, ◌+◌, ◌<◌, ◌≤◌, Bool, true, false, cond, List, [], ◌∷◌, ◌++◌, map, length, get_or, Option, Some, None, refl}
use Rattle.std.proofs.Common.{subst, arith}
use Rattle.std.specs.Prelude.{Contains, filter, filter_map, flat_map}
use Rattle.std.specs.List.{cons_option, range_with_len}

-- by recursion, so that its list is found where it is used
abbrev pub Each : {A : Type 0} → (A → Type 0) → List A → Type 0
Each P [] = Unit {0}
Each P (x ∷ xs) = P x × Each P xs

each-at : {A : Type 0} (P : A → Type 0) (xs : List A) (k : ℕ) (x d : A) → Each P xs → k < length xs → get_or xs k d ≡ x → P x
each-at P [] k x d all less is = absurd (omega (arith, less))
each-at P (y ∷ ys) zero x d all less is = subst P is all.0
each-at P (y ∷ ys) (suc k) x d all less is = each-at P ys k x d all.1 (omega (arith, less)) is

pub each-contained : {A : Type 0} (P : A → Type 0) (xs : List A) (x : A) → Each P xs → Contains xs x → P x
each-contained P xs x all there = each-at P xs there.0 x x all there.1 there.2

-- ---- lists that are put together

each-append : {A : Type 0} (P : A → Type 0) (xs ys : List A) → Each P xs → Each P ys → Each P (xs ++ ys)
each-append P [] ys first rest = rest
each-append P (x ∷ xs) ys first rest = (first.0, each-append P xs ys first.1 rest)

pub each-flat : {A B : Type 0} (P : B → Type 0) (f : A → List B) (xs : List A) → Each (λ x. Each P (f x)) xs → Each P (flat_map f xs)
each-flat P f [] all = tt
each-flat P f (x ∷ xs) all = each-append P (f x) (flat_map f xs) all.0 (each-flat P f xs all.1)

pub each-range : {B : Type 0} (P : B → Type 0) (f : ℕ → B) (from count : ℕ) → ((k : ℕ) → from ≤ k → k < from + count → P (f k)) →
    Each P (map f (range_with_len from count))
each-range P f from zero all = tt
each-range P f from (suc count) all =
    (all from (omega arith) (omega arith), each-range P f (from + 1) count (λ k low high. all k (omega (arith, low)) (omega (arith, high))))

pub each-filtered : {A : Type 0} (P : A → Type 0) (test : A → Bool) (xs : List A) → ((x : A) → test x ≡ true → P x) → Each P (filter test xs)
each-filtered P test [] all = tt
each-filtered P test (x ∷ xs) all = elim (test x) as (λ b. test x ≡ b → Each P (cond b (x ∷ filter test xs) (filter test xs))) [
  | true ↦ λ is. (all x is, each-filtered P test xs all)
  | false ↦ λ _. each-filtered P test xs all
] refl

-- ---- what is picked

pub each-so : {A : Type 0} (P Q : A → Type 0) (xs : List A) → ((x : A) → P x → Q x) → Each P xs → Each Q xs
each-so P Q [] so all = tt
each-so P Q (x ∷ xs) so all = (so x all.0, each-so P Q xs so all.1)

pub same-picked : {A B : Type 0} (f g : A → Option B) (xs : List A) → Each (λ x. f x ≡ g x) xs → filter_map f xs ≡ filter_map g xs
same-picked f g [] all = refl
same-picked f g (x ∷ xs) all = λ i. cons_option (all.0 i) (same-picked f g xs all.1 i)

pub each-picked : {A B : Type 0} (P : A → Type 0) (Q : B → Type 0) (f : A → Option B) (xs : List A)
    → ((x : A) (y : B) → P x → f x ≡ Some y → Q y) → Each P xs → Each Q (filter_map f xs)
each-picked P Q f [] picks all = tt
each-picked P Q f (x ∷ xs) picks all = elim (f x) as (λ o. f x ≡ o → Each Q (cons_option o (filter_map f xs))) [
  | None ↦ λ _. each-picked P Q f xs picks all.1
  | Some y ↦ λ is. (picks x y all.0 is, each-picked P Q f xs picks all.1)
] refl
