-- What is in two lists of numbers, whichever of them is gone through, and tests that all pass.
use Rattle.std.proofs.Common.{ℕ, zero, suc, ◌≡◌, ◌∙◌, ◌+◌, ◌<◌, ◌≤◌, ◌&&◌, ◌||◌, Bool, true, false, not, List, [], ◌∷◌, ◌++◌, inl, inr, refl, sym, ap, subst}
use Rattle.std.proofs.Common.{append-nil, arith}
use Rattle.std.specs.Prelude.{if◌then◌else◌, map, nat_eq, nat_lt}
use Rattle.std.specs.List.{filter, list_all, range_with_len}
use Rattle.std.proofs.lemmas.Bool.{and_parts, eq-eqb, eqb-true, or_cases, or_left, or_right}
use Rattle.std.proofs.lemmas.Bool.Decides.{nat_tests}
use Rattle.model.specs.Acceptance.ThreadRules.{is_member}
use Rattle.parts.specs.Uses.{is_high, is_part, is_separate}
use Rattle.parts.specs.declared.uses.Uses.{Uses}
use Rattle.parts.proofs.Outside.{all-in}

both-ways : (a b : Bool) → (a ≡ true → b ≡ true) → (b ≡ true → a ≡ true) → a ≡ b
both-ways true b forth back = sym (forth refl)
both-ways false true forth back = back refl
both-ways false false forth back = refl

both-true : (a b : Bool) → a ≡ true → b ≡ true → (a && b) ≡ true
both-true true b one two = two
both-true false b one two = one

module _ (p : ℕ → Bool) where
  at-member : (xs : List ℕ) (n : ℕ) → list_all p xs ≡ true → is_member n xs ≡ true → p n ≡ true
  at-member [] n all is = absurd (let clash : false ≡ true = is in cc)
  at-member (x ∷ xs) n all is =
      let parts = and_parts (p x) (list_all p xs) all in
      elim (or_cases (nat_eq n x) (is_member n xs) is) [
        | inl here ↦ subst (λ (m : ℕ). p m ≡ true) (sym (eqb-true n x here)) parts.0
        | inr rest ↦ at-member xs n parts.1 rest
      ]

  of-members : (xs : List ℕ) → ((n : ℕ) → is_member n xs ≡ true → p n ≡ true) → list_all p xs ≡ true
  of-members [] each = refl
  of-members (x ∷ xs) each =
      both-true (p x) (list_all p xs) (each x (or_left (nat_eq x x) (is_member x xs) (eq-eqb x x refl)))
      (of-members xs (λ n is. each n (or_right (nat_eq n x) (is_member n xs) is)))

  of-range : (k n : ℕ) → ((o : ℕ) → k ≤ o → o < k + n → p o ≡ true) → list_all p (range_with_len k n) ≡ true
  of-range k zero each = refl
  of-range k (suc n) each =
      both-true (p k) (list_all p (range_with_len (k + 1) n)) (each k (omega arith) (omega arith))
      (of-range (k + 1) n (λ o le lt. each o (omega (arith, le)) (omega (arith, lt))))

-- ---- what one thread takes and another may change

module _ (objects : ℕ) (takes changes : List ℕ) where
  -- an object, if it is one of so many, may not be changed
  abbrev pub keeps : ℕ → Bool
  keeps object = not (nat_lt object objects && is_member object changes)

  abbrev is_free : ℕ → Bool
  is_free object = not (is_member object takes && is_member object changes)

  forth : list_all keeps takes ≡ true → list_all is_free (range_with_len 0 objects) ≡ true
  forth all = of-range is_free 0 objects (λ o le lt.
      elim (is_member o takes) as (λ b. is_member o takes ≡ b → not (b && is_member o changes) ≡ true) [
        | true ↦ λ is.
            let less : nat_lt o objects ≡ true = grind (arith, nat_tests, lt) in
            ap (λ b. not (b && is_member o changes)) (sym less) ∙ at-member keeps takes o all is
        | false ↦ λ is. refl
      ] refl)

  back : list_all is_free (range_with_len 0 objects) ≡ true → list_all keeps takes ≡ true
  back all = of-members keeps takes (λ o is.
      elim (nat_lt o objects) as (λ b. nat_lt o objects ≡ b → not (b && is_member o changes) ≡ true) [
        | true ↦ λ less.
            let lt : o < objects = grind (arith, nat_tests, less) in
            ap (λ b. not (b && is_member o changes)) (sym is) ∙ all-in is_free 0 objects o (omega arith) (omega (arith, lt)) all
        | false ↦ λ less. refl
      ] refl)

  pub none-in-both : ((n : ℕ) → (is_member n takes && is_member n changes) ≡ false) → true ≡ list_all is_free (range_with_len 0 objects)
  none-in-both none = sym (of-range is_free 0 objects (λ o le lt. ap not (none o)))

  pub apart-is : list_all keeps takes ≡ list_all is_free (range_with_len 0 objects)
  apart-is = both-ways (list_all keeps takes) (list_all is_free (range_with_len 0 objects)) forth back

-- ---- none of them

none-of : (p : ℕ → Bool) (k n : ℕ) → list_all (λ o. not (p o)) (range_with_len k n) ≡ true → filter p (range_with_len k n) ≡ []
none-of p k zero all = refl
none-of p k (suc n) all =
    let parts = and_parts (not (p k)) (list_all (λ o. not (p o)) (range_with_len (k + 1) n)) all in
    elim (p k) as (λ b. not b ≡ true → (if b then k ∷ filter p (range_with_len (k + 1) n) else filter p (range_with_len (k + 1) n)) ≡ []) [
      | true ↦ λ no. absurd (let clash : false ≡ true = no in cc)
      | false ↦ λ no. none-of p (k + 1) n parts.1
    ] parts.0

pub nothing-found : {A : Type 0} (made : ℕ → A) (p : ℕ → Bool) (n : ℕ) (b : Bool) (found : List A) → b ≡ list_all (λ o. not (p o)) (range_with_len 0 n)
    → b ≡ true → found ≡ found ++ map made (filter p (range_with_len 0 n))
nothing-found made p n b found is none =
    sym (append-nil found) ∙ ap (λ (l : List ℕ). found ++ map made l) (sym (none-of p 0 n (sym is ∙ none)))

-- ---- a thread that is not of the part

all-pass : {A : Type 0} (p : A → Bool) (xs : List A) → ((x : A) → p x ≡ true) → list_all p xs ≡ true
all-pass p [] each = refl
all-pass p (x ∷ xs) each = both-true (p x) (list_all p xs) (each x) (all-pass p xs each)

module _ (threads : ℕ) (all : List Uses) (t : Uses) (b : Bool) (is : b ≡ is_part threads all t.tcb) (outside : b ≡ false) where
  pub outside-separate : (objects : ℕ) → true ≡ list_all (is_separate objects threads all t) all
  outside-separate objects = sym (all-pass (is_separate objects threads all t) all (λ u.
      ap (λ x. not x || is_part threads all u.tcb
      || list_all (λ object. not (is_member object t.takes && is_member object u.changes)) (range_with_len 0 objects)) (sym is ∙ outside)))

  pub outside-high : true ≡ list_all (is_high threads all t) all
  outside-high = sym (all-pass (is_high threads all t) all (λ u.
      ap (λ x. not x || is_part threads all u.tcb || nat_lt u.priority t.priority) (sym is ∙ outside)))
