-- What is found in lists.
use Rattle.std.proofs.Common.{ℕ, zero, suc, ◌≡◌, ◌∙◌, ◌+◌, ◌<◌, Bool, true, false, List, [], ◌∷◌, Some, sym, ap, arith}
use Rattle.std.specs.Prelude.{slice_get}
use Rattle.std.specs.List.{Contains, list_all, list_any, range_with_len}
use Rattle.std.proofs.lemmas.Bool.{and_parts, or_parts}
use Rattle.std.proofs.lemmas.Option.{none-some, same_Some, slice_get-get_or, get_or_from_slice_get, slice_get_within}

-- what passes in a range
pub all-range : (test : ℕ → Bool) (from count k : ℕ) → list_all test (range_with_len from count) ≡ true → k < count → test (from + k) ≡ true
all-range test from zero k all less = absurd (omega (arith, less))
all-range test from (suc count) zero all less =
    let here : from + 0 ≡ from = omega arith in
    ap test here ∙ (and_parts (test from) (list_all test (range_with_len (from + 1) count)) all).0
all-range test from (suc count) (suc k) all less =
    let there : from + suc k ≡ from + 1 + k = omega arith in
    ap test there ∙ all-range test (from + 1) count k (and_parts (test from) (list_all test (range_with_len (from + 1) count)) all).1 (omega (arith, less))

pub all-at : {A : Type 0} (test : A → Bool) (xs : List A) (k : ℕ) (x : A) → list_all test xs ≡ true → slice_get xs k ≡ Some x → test x ≡ true
all-at test [] k x all at = absurd (none-some x at)
all-at test (y ∷ ys) zero x all at = ap test (sym (same_Some y x at)) ∙ (and_parts (test y) (list_all test ys) all).0
all-at test (y ∷ ys) (suc k) x all at = all-at test ys k x (and_parts (test y) (list_all test ys) all).1 at

-- none passes
pub none-at : {A : Type 0} (test : A → Bool) (xs : List A) (k : ℕ) (x : A) → list_any test xs ≡ false → slice_get xs k ≡ Some x → test x ≡ false
none-at test [] k x none at = absurd (none-some x at)
none-at test (y ∷ ys) zero x none at = ap test (sym (same_Some y x at)) ∙ (or_parts (test y) (list_any test ys) none).0
none-at test (y ∷ ys) (suc k) x none at = none-at test ys k x (or_parts (test y) (list_any test ys) none).1 at

-- what a list contains has a place in it
pub contained : {A : Type 0} (xs : List A) (x : A) → Contains xs x → (k : ℕ) × (slice_get xs k ≡ Some x)
contained xs x there = (there.0, slice_get-get_or xs there.0 x there.1 ∙ ap (λ y. Some y) there.2)

pub contains : {A : Type 0} (xs : List A) (k : ℕ) (x : A) → slice_get xs k ≡ Some x → Contains xs x
contains xs k x at = (k, slice_get_within xs k x at, get_or_from_slice_get xs k x x at)
