-- The capabilities of one CNode, and what is found among them.
use Rattle.std.proofs.Common.{◌≡◌, ◌∙◌, inl, inr, ℕ, zero, suc, ◌+◌, ◌<◌, ◌≤◌, ◌==◌, ◌||◌, ◌&&◌, Bool, true, false, List, [], ◌∷◌, Some, take, drop, get_or}
use Rattle.std.proofs.Common.{refl, sym, ap, arith}
use Rattle.std.specs.Prelude.{nat_eq, slice_get}
use Rattle.std.specs.List.{list_any}
use Rattle.std.proofs.lemmas.Bool.{and_left, and_parts, eq-eqb, eqb-true, or_cases, or_from, or_left, or_parts, or_right}
use Rattle.std.proofs.lemmas.List.Folds.{list_any_more}
use Rattle.std.proofs.lemmas.Option.{get_or_from_slice_get, slice_get_within}
use Rattle.model.specs.declared.entries.CapabilityEntry.{CapabilityEntry}
use Rattle.model.specs.Acceptance.ThreadRules.{is_member}
use Rattle.image_reading.specs.image_entries.Keys.{AreListedIn}
use Rattle.image_reading.proofs.Laws.{any-here, any-no}
use Rattle.wellformed.proofs.RulesLeft.{rest-next}

-- ---- whether one of those that are left passes

pub any-skip : {A : Type 0} (test : A → Bool) (xs : List A) (n : ℕ) → ((k : ℕ) (x : A) → k < n → slice_get xs k ≡ Some x → test x ≡ false)
    → list_any test (drop n xs) ≡ list_any test xs
any-skip test xs zero none = refl
any-skip test [] (suc n) none = refl
any-skip test (x ∷ xs) (suc n) none =
    any-skip test xs n (λ k y less at. none (suc k) y (omega (arith, less)) at)
    ∙ sym (ap (λ (b : Bool). b || list_any test xs) (none 0 x (omega arith) refl))

pub any-none-left : {A : Type 0} (test : A → Bool) (xs : List A) (n : ℕ) → ((k : ℕ) (x : A) → n ≤ k → slice_get xs k ≡ Some x → test x ≡ false) →
    list_any test (drop n xs) ≡ false
any-none-left test xs zero none = any-no test xs (λ k x at. none k x (omega arith) at)
any-none-left test [] (suc n) none = refl
any-none-left test (x ∷ xs) (suc n) none = any-none-left test xs n (λ k y most at. none (suc k) y (omega (arith, most)) at)

module _ (cnode : ℕ) (passes : CapabilityEntry → Bool) (xs : List CapabilityEntry) (first end : ℕ) where
  abbrev test : CapabilityEntry → Bool
  test c = c.cnode == cnode && passes c

  fails : (c : CapabilityEntry) → (c.cnode == cnode) ≡ false → test c ≡ false
  fails c is = and_left (c.cnode == cnode) (passes c) is

  pub any-first : AreListedIn cnode xs first end → list_any test (drop first xs) ≡ list_any test xs
  any-first listed = any-skip test xs first (λ k c less at. fails c (listed.before k c less at))

  one-left : (n : ℕ) (c : CapabilityEntry) → AreListedIn cnode xs first end → first ≤ n → n < end → slice_get xs n ≡ Some c →
      list_any test (drop n xs) ≡ (passes c || list_any test (drop (n + 1) xs))
  one-left n c listed most less at =
      ap (λ (l : List CapabilityEntry). list_any test l) (rest-next xs n c at)
      ∙ ap (λ (b : Bool). (b && passes c) || list_any test (drop (n + 1) xs)) (eq-eqb c.cnode cnode (listed.there n c most less at))

  pub any-found : (n : ℕ) (c : CapabilityEntry) → AreListedIn cnode xs first end → first ≤ n → n < end → slice_get xs n ≡ Some c → passes c ≡ true
      → list_any test (drop n xs) ≡ list_any test xs → true ≡ list_any test xs
  any-found n c listed most less at holds so_far =
      sym (ap (λ (b : Bool). b || list_any test (drop (n + 1) xs)) holds) ∙ sym (one-left n c listed most less at) ∙ so_far

  pub any-later : (n : ℕ) (c : CapabilityEntry) → AreListedIn cnode xs first end → first ≤ n → n < end → slice_get xs n ≡ Some c → passes c ≡ false
      → list_any test (drop n xs) ≡ list_any test xs → list_any test (drop (n + 1) xs) ≡ list_any test xs
  any-later n c listed most less at fails_here so_far =
      sym (ap (λ (b : Bool). b || list_any test (drop (n + 1) xs)) fails_here) ∙ sym (one-left n c listed most less at) ∙ so_far

  pub any-ended : (n : ℕ) → AreListedIn cnode xs first end → end ≤ n → list_any test (drop n xs) ≡ list_any test xs → false ≡ list_any test xs
  any-ended n listed past so_far =
      sym (any-none-left test xs n (λ k c most at. fails c (listed.behind k c (omega (arith, past, most)) at))) ∙ so_far

-- ---- the same for a set of CNodes

any-same : {A : Type 0} (p q : A → Bool) (xs : List A) → ((x : A) → p x ≡ q x) → list_any p xs ≡ list_any q xs
any-same p q xs same = ap (λ (t : _ → Bool). list_any t xs) (λ i x. same x i)

any-both : {A : Type 0} (p q : A → Bool) (xs : List A) → list_any p xs ≡ false → list_any q xs ≡ false → list_any (λ x. p x || q x) xs ≡ false
any-both p q [] one two = refl
any-both p q (x ∷ xs) one two =
    let left = or_parts (p x) (list_any p xs) one in
    let right = or_parts (q x) (list_any q xs) two in
    or_from (p x || q x) (list_any (λ y. p y || q y) xs) (or_from (p x) (q x) left.0 right.0) (any-both p q xs left.1 right.1)

any-wider : {A : Type 0} (p q : A → Bool) (xs : List A) → ((x : A) → p x ≡ true → q x ≡ true) → list_any p xs ≡ true → list_any q xs ≡ true
any-wider p q [] more some = some
any-wider p q (x ∷ xs) more some = elim (or_cases (p x) (list_any p xs) some) [
  | inl here ↦ or_left (q x) (list_any q xs) (more x here)
  | inr rest ↦ or_right (q x) (list_any q xs) (any-wider p q xs more rest)
]

both-and : (a b c : Bool) → ((a || b) && c) ≡ ((a && c) || (b && c))
both-and true true true = refl
both-and true true false = refl
both-and true false true = refl
both-and true false false = refl
both-and false b c = refl

and-true : (a b : Bool) → a ≡ true → b ≡ true → (a && b) ≡ true
and-true true true one two = refl
and-true true false one two = two
and-true false b one two = one

module _ (passes : CapabilityEntry → Bool) (xs : List CapabilityEntry) (numbers : List ℕ) (place n : ℕ) (at : slice_get numbers place ≡ Some n) where
  pub set-found : list_any (λ c. c.cnode == n && passes c) xs ≡ true → list_any (λ c. is_member c.cnode numbers && passes c) xs ≡ true
  set-found some =
      any-wider (λ c. c.cnode == n && passes c) (λ c. is_member c.cnode numbers && passes c) xs
      (λ c holds.
      let parts = and_parts (c.cnode == n) (passes c) holds in
      let same : c.cnode ≡ n = eqb-true c.cnode n parts.0 in
      and-true (is_member c.cnode numbers) (passes c) (any-here (nat_eq c.cnode) numbers place n at (eq-eqb c.cnode n same)) parts.1) some

  pub set-later : list_any (λ c. c.cnode == n && passes c) xs ≡ false → list_any (λ c. is_member c.cnode (take place numbers) && passes c) xs ≡ false
      → list_any (λ c. is_member c.cnode (take (place + 1) numbers) && passes c) xs ≡ false
  set-later none so_far =
      any-same (λ c. is_member c.cnode (take (place + 1) numbers) && passes c)
      (λ c. (is_member c.cnode (take place numbers) && passes c) || (c.cnode == n && passes c)) xs
      (λ c.
      let more = list_any_more (nat_eq c.cnode) numbers place n (slice_get_within numbers place n at) in
      let here : get_or numbers place n ≡ n = get_or_from_slice_get numbers place n n at in
      ap (λ (b : Bool). b && passes c) (more ∙ ap (λ (m : ℕ). is_member c.cnode (take place numbers) || (c.cnode == m)) here)
      ∙ both-and (is_member c.cnode (take place numbers)) (c.cnode == n) (passes c))
      ∙ any-both (λ c. is_member c.cnode (take place numbers) && passes c) (λ c. c.cnode == n && passes c) xs so_far none

and-three : (a b c : Bool) → ((a && b) && c) ≡ (a && (b && c))
and-three true b c = refl
and-three false b c = refl

pub two-tests : (p q : CapabilityEntry → Bool) (numbers : List ℕ) (xs : List CapabilityEntry)
    → list_any (λ c. is_member c.cnode numbers && p c && q c) xs ≡ list_any (λ c. is_member c.cnode numbers && (p c && q c)) xs
two-tests p q numbers xs =
    any-same (λ c. is_member c.cnode numbers && p c && q c) (λ c. is_member c.cnode numbers && (p c && q c)) xs
    (λ c. and-three (is_member c.cnode numbers) (p c) (q c))
