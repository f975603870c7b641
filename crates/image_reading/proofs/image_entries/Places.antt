-- The place of a number among keys that rise, and what it says of the entries.
use Rattle.std.proofs.Common.{◌≡◌, ◌∙◌, inl, inr, ℕ, zero, suc, ◌<◌, ◌≤◌, ◌||◌, Bool, true, false, List, [], ◌∷◌, None, Option, Some, length, map, refl, sym}
use Rattle.std.proofs.Common.{ap, arith}
use Rattle.std.specs.Prelude.{find, if◌then◌else◌, option_map, slice_get}
use Rattle.std.specs.List.{list_any}
use Rattle.std.proofs.lemmas.Bool.{cases_lt, false≢true}
use Rattle.std.proofs.lemmas.List.Folds.{list_any_at}
use Rattle.std.proofs.lemmas.Option.{get_or_from_slice_get, none-some, same_Some, slice_get-map, slice_get_cases, slice_get_within}
use Rattle.image_reading.specs.image_entries.Keys.{DoRise, IsPlaceOf}

-- ---- halves

-- the keys before a number of them are lower, and those from another on are not
pub record AreHalved (number : ℕ) (keys : List ℕ) (low high : ℕ) : Type 0 where
  pub ordered : low ≤ high
  pub bound : high ≤ length keys
  pub below : (k key : ℕ) → k < low → slice_get keys k ≡ Some key → key < number
  pub above : (k key : ℕ) → high ≤ k → slice_get keys k ≡ Some key → number ≤ key

-- ---- entries

is-false : (b : Bool) → (b ≡ true → ⊥) → b ≡ false
is-false true never = absurd (never refl)
is-false false never = refl

module _ {A : Type 0} (key : A → ℕ) (xs : List A) where
  pub key-at : (k : ℕ) (x : A) → slice_get xs k ≡ Some x → slice_get (map key xs) k ≡ Some (key x)
  key-at k x at = slice_get-map key xs k ∙ ap (λ (o : Option A). option_map key o) at

  entry-at : (k n : ℕ) → slice_get (map key xs) k ≡ Some n → (x : A) × (slice_get xs k ≡ Some x) × (n ≡ key x)
  entry-at k n at = elim (slice_get_cases xs k).1 [
    | inl here ↦ (here.0, here.2, same_Some n (key here.0) (sym at ∙ key-at k here.0 here.2))
    | inr past ↦ absurd (none-some n (sym (slice_get-map key xs k ∙ ap (λ (o : Option A). option_map key o) past.1) ∙ at))
  ]

  pub keys-rise : ((i j : ℕ) (a b : A) → i < j → slice_get xs i ≡ Some a → slice_get xs j ≡ Some b → key a < key b) → DoRise (map key xs)
  keys-rise rise = record {
    rise = λ i j a b less at there.
        let x = entry-at i a at in
        let y = entry-at j b there in
        rw (x.2, y.2) (rise i j x.0 y.0 less x.1 y.1);
  }

-- Those entries pass a test whose keys lie from a number on and below another.
pub record IsWithinKeys {A : Type 0} (key : A → ℕ) (test : A → Bool) (xs : List A) (low high : ℕ) : Type 0 where
  pub passes : (k : ℕ) (x : A) → slice_get xs k ≡ Some x → low ≤ key x → key x < high → test x ≡ true
  pub lowest : (k : ℕ) (x : A) → slice_get xs k ≡ Some x → test x ≡ true → low ≤ key x
  pub highest : (k : ℕ) (x : A) → slice_get xs k ≡ Some x → test x ≡ true → key x < high

module _ {A : Type 0} (key : A → ℕ) (test : A → Bool) (xs : List A) (low high place : ℕ) where
  -- none before the place passes
  pub before-place : IsWithinKeys key test xs low high → IsPlaceOf low (map key xs) place → (k : ℕ) (x : A) → k < place → slice_get xs k ≡ Some x →
      test x ≡ false
  before-place within is k x less at =
      is-false (test x) (λ holds.
      let lowest = within.lowest k x at holds in
      let lower = is.below k (key x) less (key-at key xs k x at) in
      omega (arith, lowest, lower))

  -- none passes if there is none from the place on
  pub none-behind : IsWithinKeys key test xs low high → IsPlaceOf low (map key xs) place → length xs ≤ place → (k : ℕ) (x : A) → slice_get xs k ≡ Some x →
      test x ≡ false
  none-behind within is past k x at =
      let inside = slice_get_within xs k x at in before-place within is k x (omega (arith, inside, past)) at

  -- nor if the one at the place does not
  pub none-from : IsWithinKeys key test xs low high → IsPlaceOf low (map key xs) place → DoRise (map key xs) → (y : A) → slice_get xs place ≡ Some y →
      test y ≡ false
      → (k : ℕ) (x : A) → slice_get xs k ≡ Some x → test x ≡ false
  none-from within is rise y here fails k x at = elim (cases_lt k place) [
    | inl less ↦ before-place within is k x less at
    | inr most ↦ elim (cases_lt place k) [
      | inl behind ↦
          is-false (test x) (λ holds.
          let highest = within.highest k x at holds in
          let rises = rise.rise place k (key y) (key x) behind (key-at key xs place y here) (key-at key xs k x at) in
          let least = is.above place (key y) (omega arith) (key-at key xs place y here) in
          absurd (false≢true (sym fails ∙ within.passes place y here least (omega (arith, highest, rises)))))
      | inr same_place ↦
          let same : k ≡ place = omega (arith, most, same_place) in
          let one : x ≡ y = same_Some x y (sym at ∙ ap (slice_get xs) same ∙ here) in
          ap test one ∙ fails
    ]
  ]

-- ---- what is found

pub any-here : {A : Type 0} (test : A → Bool) (xs : List A) (i : ℕ) (x : A) → slice_get xs i ≡ Some x → test x ≡ true → list_any test xs ≡ true
any-here test xs i x at holds = list_any_at test xs i x (slice_get_within xs i x at) (ap test (get_or_from_slice_get xs i x x at) ∙ holds)

pub any-no : {A : Type 0} (test : A → Bool) (xs : List A) → ((k : ℕ) (x : A) → slice_get xs k ≡ Some x → test x ≡ false) → list_any test xs ≡ false
any-no test [] none = refl
any-no test (x ∷ xs) none = ap (λ (b : Bool). b || list_any test xs) (none 0 x refl) ∙ any-no test xs (λ k y at. none (suc k) y at)

pub find-no : {A : Type 0} (test : A → Bool) (xs : List A) → ((k : ℕ) (x : A) → slice_get xs k ≡ Some x → test x ≡ false) → find test xs ≡ None
find-no test [] none = refl
find-no test (x ∷ xs) none = ap (λ (b : Bool). if b then Some x else find test xs) (none 0 x refl) ∙ find-no test xs (λ k y at. none (suc k) y at)

pub find-first : {A : Type 0} (test : A → Bool) (xs : List A) (k : ℕ) (x : A) → slice_get xs k ≡ Some x → test x ≡ true
    → ((j : ℕ) (y : A) → j < k → slice_get xs j ≡ Some y → test y ≡ false) → find test xs ≡ Some x
find-first test [] k x at is before = absurd (none-some x at)
find-first test (y ∷ ys) zero x at is before = ap (λ (b : Bool). if b then Some y else find test ys) (ap test (same_Some y x at) ∙ is) ∙ at
find-first test (y ∷ ys) (suc k) x at is before =
    ap (λ (b : Bool). if b then Some y else find test ys) (before 0 y (omega arith) refl)
    ∙ find-first test ys k x at is (λ j z less there. before (suc j) z (omega (arith, less)) there)
