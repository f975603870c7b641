-- Lists without the threads of others: what these contribute is not found.
use Rattle.std.proofs.Common.{ℕ, zero, suc, ◌≡◌, ◌∙◌, ◌+◌, ◌<◌, ◌++◌, ◌||◌, Bool, true, false, cond, List, [], ◌∷◌, map, filter, find, Option, Some, None}
use Rattle.std.proofs.Common.{refl, sym, ap, ap₂, arith}
use Rattle.std.specs.Prelude.{flat_map, slice_get, reverse}
use Rattle.std.specs.Option.{option_or}
use Rattle.std.specs.List.{list_any, range_with_len}
use Rattle.std.proofs.lemmas.Bool.{false≢true}
use Rattle.std.proofs.lemmas.List.{reverse-append}
use Rattle.std.proofs.lemmas.List.Folds.{find-append}

-- the same of all numbers
pub map-range : {A : Type 0} (f g : ℕ → A) (from count : ℕ) → ((n : ℕ) → n < from + count → f n ≡ g n)
    → map f (range_with_len from count) ≡ map g (range_with_len from count)
map-range f g from zero same = refl
map-range f g from (suc count) same =
    ap₂ (λ x xs. x ∷ xs) (same from (omega arith)) (map-range f g (from + 1) count (λ n less. same n (omega (arith, less))))

-- who is found is among those that pass
module _ {A : Type 0} (test q : A → Bool) where
  find-by : (x : A) (xs : List A) → (test x ≡ true → q x ≡ true) → (test x ≡ false → find test (filter q xs) ≡ find test xs) → (a b : Bool) → test x ≡ a
      → q x ≡ b → find test (cond (q x) (x ∷ filter q xs) (filter q xs)) ≡ cond (test x) (Some x) (find test xs)
  find-by x xs passes rest true true is keeps =
      ap (λ c. find test (cond c (x ∷ filter q xs) (filter q xs))) keeps ∙ ap (λ c. cond c (Some x) (find test (filter q xs))) is
      ∙ sym (ap (λ c. cond c (Some x) (find test xs)) is)
  find-by x xs passes rest true false is goes = absurd (false≢true (sym goes ∙ passes is))
  find-by x xs passes rest false true isnt keeps =
      ap (λ c. find test (cond c (x ∷ filter q xs) (filter q xs))) keeps ∙ ap (λ c. cond c (Some x) (find test (filter q xs))) isnt
      ∙ rest isnt ∙ sym (ap (λ c. cond c (Some x) (find test xs)) isnt)
  find-by x xs passes rest false false isnt goes =
      ap (λ c. find test (cond c (x ∷ filter q xs) (filter q xs))) goes ∙ rest isnt ∙ sym (ap (λ c. cond c (Some x) (find test xs)) isnt)

  pub find-kept : (xs : List A) → ((x : A) → find test xs ≡ Some x → q x ≡ true) → find test (filter q xs) ≡ find test xs
  find-kept [] found = refl
  find-kept (x ∷ xs) found =
      find-by x xs (λ is. found x (ap (λ c. cond c (Some x) (find test xs)) is))
      (λ isnt. find-kept xs (λ y is. found y (ap (λ c. cond c (Some x) (find test xs)) isnt ∙ is))) (test x) (q x) refl refl

-- a list of others' without what does not pass
module _ {A : Type 0} (f : A → ℕ) (p q : A → Bool) (test : ℕ → Bool) where
  map-by : (x : A) (xs : List A) → test (f x) ≡ q x → map f (filter p (filter q xs)) ≡ filter test (map f (filter p xs)) → (a b : Bool) → p x ≡ a → q x ≡ b
      → map f (filter p (cond (q x) (x ∷ filter q xs) (filter q xs))) ≡ filter test (map f (cond (p x) (x ∷ filter p xs) (filter p xs)))
  map-by x xs same rest true true is keeps =
      ap (λ c. map f (filter p (cond c (x ∷ filter q xs) (filter q xs)))) keeps
      ∙ ap (λ c. map f (cond c (x ∷ filter p (filter q xs)) (filter p (filter q xs)))) is ∙ ap (λ (l : List ℕ). f x ∷ l) rest
      ∙ sym (ap (λ c. filter test (map f (cond c (x ∷ filter p xs) (filter p xs)))) is
      ∙ ap (λ c. cond c (f x ∷ filter test (map f (filter p xs))) (filter test (map f (filter p xs)))) (same ∙ keeps))
  map-by x xs same rest true false is goes =
      ap (λ c. map f (filter p (cond c (x ∷ filter q xs) (filter q xs)))) goes ∙ rest
      ∙ sym (ap (λ c. filter test (map f (cond c (x ∷ filter p xs) (filter p xs)))) is
      ∙ ap (λ c. cond c (f x ∷ filter test (map f (filter p xs))) (filter test (map f (filter p xs)))) (same ∙ goes))
  map-by x xs same rest false true isnt keeps =
      ap (λ c. map f (filter p (cond c (x ∷ filter q xs) (filter q xs)))) keeps
      ∙ ap (λ c. map f (cond c (x ∷ filter p (filter q xs)) (filter p (filter q xs)))) isnt ∙ rest
      ∙ sym (ap (λ c. filter test (map f (cond c (x ∷ filter p xs) (filter p xs)))) isnt)
  map-by x xs same rest false false isnt goes =
      ap (λ c. map f (filter p (cond c (x ∷ filter q xs) (filter q xs)))) goes ∙ rest
      ∙ sym (ap (λ c. filter test (map f (cond c (x ∷ filter p xs) (filter p xs)))) isnt)

  pub map-kept : (xs : List A) → ((k : ℕ) (x : A) → slice_get xs k ≡ Some x → test (f x) ≡ q x)
      → map f (filter p (filter q xs)) ≡ filter test (map f (filter p xs))
  map-kept [] same = refl
  map-kept (x ∷ xs) same = map-by x xs (same 0 x refl) (map-kept xs (λ k y at. same (suc k) y at)) (p x) (q x) refl refl

-- what others contribute is not found, from the front
module _ {A B : Type 0} (test : B → Bool) (th : A → List B) (q : A → Bool) where
  flat-by : (x : A) (xs : List A) → (q x ≡ false → find test (th x) ≡ None) → find test (flat_map th (filter q xs)) ≡ find test (flat_map th xs) → (b : Bool)
      → q x ≡ b → find test (flat_map th (cond (q x) (x ∷ filter q xs) (filter q xs))) ≡ find test (th x ++ flat_map th xs)
  flat-by x xs none rest true keeps =
      ap (λ c. find test (flat_map th (cond c (x ∷ filter q xs) (filter q xs)))) keeps ∙ find-append test (th x) (flat_map th (filter q xs))
      ∙ ap (option_or (find test (th x))) rest ∙ sym (find-append test (th x) (flat_map th xs))
  flat-by x xs none rest false goes =
      ap (λ c. find test (flat_map th (cond c (x ∷ filter q xs) (filter q xs)))) goes ∙ rest
      ∙ ap (λ o. option_or o (find test (flat_map th xs))) (sym (none goes)) ∙ sym (find-append test (th x) (flat_map th xs))

  pub flat-kept : (xs : List A) → ((k : ℕ) (x : A) → slice_get xs k ≡ Some x → q x ≡ false → find test (th x) ≡ None)
      → find test (flat_map th (filter q xs)) ≡ find test (flat_map th xs)
  flat-kept [] none = refl
  flat-kept (x ∷ xs) none = flat-by x xs (none 0 x refl) (flat-kept xs (λ k y at. none (suc k) y at)) (q x) refl

-- and from the back
or-none : {B : Type 0} (o : Option B) → option_or o None ≡ o
or-none None = refl
or-none (Some b) = refl

pub find-back : {B : Type 0} (test : B → Bool) (xs ys : List B) → find test (reverse (xs ++ ys)) ≡ option_or (find test (reverse ys)) (find test (reverse xs))
find-back test xs ys = ap (find test) (reverse-append xs ys) ∙ find-append test (reverse ys) (reverse xs)

module _ {A B : Type 0} (test : B → Bool) (th : A → List B) (q : A → Bool) where
  back-by : (x : A) (xs : List A) → (q x ≡ false → find test (reverse (th x)) ≡ None)
      → find test (reverse (flat_map th (filter q xs))) ≡ find test (reverse (flat_map th xs)) → (b : Bool) → q x ≡ b
      → find test (reverse (flat_map th (cond (q x) (x ∷ filter q xs) (filter q xs)))) ≡ find test (reverse (th x ++ flat_map th xs))
  back-by x xs none rest true keeps =
      ap (λ c. find test (reverse (flat_map th (cond c (x ∷ filter q xs) (filter q xs))))) keeps ∙ find-back test (th x) (flat_map th (filter q xs))
      ∙ ap (λ o. option_or o (find test (reverse (th x)))) rest ∙ sym (find-back test (th x) (flat_map th xs))
  back-by x xs none rest false goes =
      ap (λ c. find test (reverse (flat_map th (cond c (x ∷ filter q xs) (filter q xs))))) goes ∙ rest
      ∙ sym (or-none (find test (reverse (flat_map th xs)))) ∙ ap (option_or (find test (reverse (flat_map th xs)))) (sym (none goes))
      ∙ sym (find-back test (th x) (flat_map th xs))

  pub flat-kept-back : (xs : List A) → ((k : ℕ) (x : A) → slice_get xs k ≡ Some x → q x ≡ false → find test (reverse (th x)) ≡ None)
      → find test (reverse (flat_map th (filter q xs))) ≡ find test (reverse (flat_map th xs))
  flat-kept-back [] none = refl
  flat-kept-back (x ∷ xs) none = back-by x xs (none 0 x refl) (flat-kept-back xs (λ k y at. none (suc k) y at)) (q x) refl

pub append-kept-back : {B : Type 0} (test : B → Bool) (first xs ys : List B) → find test (reverse xs) ≡ find test (reverse ys)
    → find test (reverse (first ++ xs)) ≡ find test (reverse (first ++ ys))
append-kept-back test first xs ys same =
    find-back test first xs ∙ ap (λ o. option_or o (find test (reverse first))) same ∙ sym (find-back test first ys)

pub append-kept : {B : Type 0} (test : B → Bool) (first xs ys : List B) → find test xs ≡ find test ys → find test (first ++ xs) ≡ find test (first ++ ys)
append-kept test first xs ys same = find-append test first xs ∙ ap (option_or (find test first)) same ∙ sym (find-append test first ys)

-- nothing is found where all fail
module _ {B : Type 0} (test : B → Bool) where
  none-by : (x : B) (xs : List B) → (list_any test xs ≡ false → find test xs ≡ None) → (b : Bool) → test x ≡ b → (test x || list_any test xs) ≡ false
      → cond (test x) (Some x) (find test xs) ≡ None
  none-by x xs rest true is none = absurd (false≢true (sym none ∙ ap (λ c. c || list_any test xs) is))
  none-by x xs rest false isnt none =
      ap (λ c. cond c (Some x) (find test xs)) isnt ∙ rest (sym (ap (λ c. c || list_any test xs) isnt) ∙ none)

  pub none-found : (xs : List B) → list_any test xs ≡ false → find test xs ≡ None
  none-found [] none = refl
  none-found (x ∷ xs) none = none-by x xs (none-found xs) (test x) refl none
