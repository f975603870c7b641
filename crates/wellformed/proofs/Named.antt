-- Sets of the numbers that entries name.
use Rattle.std.proofs.Common.{◌≡◌, ◌∙◌, inl, inr, ℕ, zero, suc, ◌&&◌, not, ◌==◌, ◌+◌, ◌<◌, ◌≤◌, ◌||◌, Bool, true, false, List, [], ◌∷◌, ◌++◌, Some, length}
use Rattle.std.proofs.Common.{take, get_or, refl, sym, ap, arith}
use Rattle.std.specs.Prelude.{if◌then◌else◌, slice_get, nat_eq, nat_lt, count_by}
use Rattle.std.specs.List.{enumerate_from, list_any}
use Rattle.std.proofs.lemmas.Bool.{cases_lt, eq-eqb, eqb-true, le-ltb, lt-ltb, ltb-false, ltb-true, ne_eqb, or_right}
use Rattle.std.proofs.lemmas.Bool.Decides.{nat_tests}
use Rattle.std.proofs.lemmas.List.{take_all}
use Rattle.std.proofs.lemmas.List.Folds.{list_any-append, list_any_at, list_any_more}
use Rattle.std.proofs.lemmas.List.Sums.{count_by_more_no, count_by_more_yes, sum_by-cons}
use Rattle.std.proofs.lemmas.Option.{get_or_from_slice_get, none-some, same_Some, slice_get_within}
use Rattle.model.specs.Acceptance.ThreadRules.{is_member}
use Rattle.wellformed.specs.Answering.{AreNamed, AreTwice, with_number}

pub same-number : (m n : ℕ) → (m == n) ≡ (n == m)
same-number m n = grind (arith, nat_tests)

or-false : (b : Bool) → (b || false) ≡ b
or-false true = refl
or-false false = refl

or-three : (a b c : Bool) → ((a || b) || c) ≡ (a || (b || c))
or-three true b c = refl
or-three false b c = refl

pub member-with : (n m : ℕ) (set : List ℕ) → is_member n (with_number m set) ≡ (is_member n set || (m == n))
member-with n m set =
    elim (is_member m set) as (λ b. is_member m set ≡ b → is_member n (if b then set else set ++ m ∷ []) ≡ (is_member n set || (m == n))) [
      | true ↦ λ there. in_set there
      | false ↦ λ not_there. list_any-append (nat_eq n) set (m ∷ []) ∙ ap (λ (b : Bool). is_member n set || b) (or-false (n == m) ∙ same-number n m)
    ] refl
  where
    at_number : (b : Bool) → (m == n) ≡ b → is_member m set ≡ true → is_member n set ≡ (is_member n set || b)
    at_number true same there =
        let k : m ≡ n = eqb-true m n same in
        let here : is_member n set ≡ true = ap (λ (x : ℕ). is_member x set) (sym k) ∙ there in
        here ∙ sym (or_right (is_member n set) true refl)
    at_number false same there = sym (or-false (is_member n set))

    in_set : is_member m set ≡ true → is_member n set ≡ (is_member n set || (m == n))
    in_set there = at_number (m == n) refl there

module _ {A : Type 0} (key : A → ℕ) where
  pub named-none : (xs : List A) (set : List ℕ) → set ≡ [] → AreNamed key (take 0 xs) set
  named-none xs set empty = record { is = λ n. ap (λ (s : List ℕ). is_member n s) empty }

  pub named-next : (xs : List A) (i : ℕ) (x : A) (old new : List ℕ) → slice_get xs i ≡ Some x → new ≡ with_number (key x) old → AreNamed key (take i xs) old
      → AreNamed key (take (i + 1) xs) new
  named-next xs i x old new at put so_far = record {
    is = λ n.
        let more = list_any_more (λ y. key y == n) xs i x (slice_get_within xs i x at) in
        let here : get_or xs i x ≡ x = get_or_from_slice_get xs i x x at in
        ap (λ (s : List ℕ). is_member n s) put ∙ member-with n (key x) old
        ∙ ap (λ (b : Bool). b || (key x == n)) (so_far.is n)
        ∙ ap (λ (y : A). list_any (λ z. key z == n) (take i xs) || (key y == n)) (sym here) ∙ sym more;
  }

  pub named-all : (xs : List A) (i : ℕ) (set : List ℕ) → length xs ≤ i → AreNamed key (take i xs) set → AreNamed key xs set
  named-all xs i set le so_far = record { is = λ n. so_far.is n ∙ ap (λ (l : List A). list_any (λ z. key z == n) l) (take_all i xs le) }

-- ---- what more than one entry names

count-cons : {A : Type 0} (p : A → Bool) (x : A) (xs : List A) → count_by p (x ∷ xs) ≡ (if p x then 1 else 0) + count_by p xs
count-cons p x xs = sum_by-cons (λ y. if p y then 1 else 0) x xs

or-some : (b rest : Bool) (n : ℕ) → rest ≡ nat_lt 0 n → (b || rest) ≡ nat_lt 0 ((if b then 1 else 0) + n)
or-some true rest n is = sym (lt-ltb 0 (1 + n) (omega arith))
or-some false rest n is = let zero : 0 + n ≡ n = omega arith in is ∙ ap (λ (k : ℕ). nat_lt 0 k) (sym zero)

any-counted : {A : Type 0} (p : A → Bool) (xs : List A) → list_any p xs ≡ nat_lt 0 (count_by p xs)
any-counted p [] = refl
any-counted p (x ∷ xs) = or-some (p x) (list_any p xs) (count_by p xs) (any-counted p xs) ∙ ap (λ (n : ℕ). nat_lt 0 n) (sym (count-cons p x xs))

one-less : (n : ℕ) → nat_lt 1 (1 + n) ≡ nat_lt 0 n
one-less n =
    elim (cases_lt 0 n) [
      | inl some ↦ lt-ltb 1 (1 + n) (omega (arith, some)) ∙ sym (lt-ltb 0 n some)
      | inr none ↦ le-ltb 1 (1 + n) (omega (arith, none)) ∙ sym (le-ltb 0 n none)
    ]

or-count : (b : Bool) (n : ℕ) → 0 < n → (b || nat_lt 1 n) ≡ nat_lt 1 ((if b then 1 else 0) + n)
or-count true n some = sym (lt-ltb 1 (1 + n) (omega (arith, some)))
or-count false n some = let zero : 0 + n ≡ n = omega arith in ap (λ (k : ℕ). nat_lt 1 k) (sym zero)

counted : {A : Type 0} (p : A → Bool) (xs : List A) (i : ℕ) (x : A) → slice_get xs i ≡ Some x → p x ≡ true → 0 < count_by p xs
counted p xs i x at holds =
    ltb-true 0 (count_by p xs)
    (sym (any-counted p xs) ∙ list_any_at p xs i x (slice_get_within xs i x at) (ap p (get_or_from_slice_get xs i x x at) ∙ holds))

-- the entries after a place have other numbers
apart : {A : Type 0} (p : A → Bool) (n start : ℕ) (xs : List A) → n < start → list_any (λ g. not (g.0 == n) && p g.1) (enumerate_from start xs) ≡ list_any p xs
apart p n start [] below = refl
apart p n start (y ∷ ys) below =
    let other : (start == n) ≡ false = ne_eqb start n (λ e. omega (arith, e, below)) in
    ap (λ (b : Bool). (not b && p y) || list_any (λ g. not (g.0 == n) && p g.1) (enumerate_from (start + 1) ys)) other
    ∙ ap (λ (b : Bool). p y || b) (apart p n (start + 1) ys (omega (arith, below)))

module _ {A : Type 0} (key : A → ℕ) where
  pub twice-none : (xs : List A) (set : List ℕ) → set ≡ [] → AreTwice key (take 0 xs) set
  twice-none xs set empty = record { is = λ n. ap (λ (s : List ℕ). is_member n s) empty }

  pub twice-all : (xs : List A) (i : ℕ) (set : List ℕ) → length xs ≤ i → AreTwice key (take i xs) set → AreTwice key xs set
  twice-all xs i set le so_far = record { is = λ n. so_far.is n ∙ ap (λ (l : List A). nat_lt 1 (count_by (λ z. key z == n) l)) (take_all i xs le) }

  counted-next : (xs : List A) (i : ℕ) (x : A) (n : ℕ) (b : Bool) → slice_get xs i ≡ Some x → (key x == n) ≡ b
      → count_by (λ z. key z == n) (take (i + 1) xs) ≡ count_by (λ z. key z == n) (take i xs) + (if b then 1 else 0)
  counted-next xs i x n true at test =
      count_by_more_yes (λ z. key z == n) xs i x (slice_get_within xs i x at) (ap (λ (y : A). key y == n) (get_or_from_slice_get xs i x x at) ∙ test)
  counted-next xs i x n false at test =
      let same = count_by_more_no (λ z. key z == n) xs i x (slice_get_within xs i x at)
      (ap (λ (y : A). key y == n) (get_or_from_slice_get xs i x x at) ∙ test) in
      omega (arith, same)

  -- by whether the set of all so far has the number, and whether that is the one at hand
  twice-step : (n : ℕ) (once old : List ℕ) (x : A) (b c : Bool) (count : ℕ) → (key x == n) ≡ b → is_member (key x) once ≡ c →
      is_member n once ≡ nat_lt 0 count → is_member n old ≡ nat_lt 1 count
      → is_member n (if c then with_number (key x) old else old) ≡ nat_lt 1 (count + (if b then 1 else 0))
  twice-step n once old x true true count test is in_once in_old =
      let same : key x ≡ n = eqb-true (key x) n test in
      let some : nat_lt 0 count ≡ true = sym in_once ∙ ap (λ (k : ℕ). is_member k once) (sym same) ∙ is in
      let least : 0 < count = ltb-true 0 count some in
      let both : nat_lt 1 (count + 1) ≡ true = lt-ltb 1 (count + 1) (omega (arith, least)) in
      member-with n (key x) old ∙ or_right (is_member n old) (key x == n) test ∙ sym both
  twice-step n once old x true false count test is in_once in_old =
      let same : key x ≡ n = eqb-true (key x) n test in
      let none : nat_lt 0 count ≡ false = sym in_once ∙ ap (λ (k : ℕ). is_member k once) (sym same) ∙ is in
      let zero : count ≤ 0 = ltb-false 0 count none in
      in_old ∙ le-ltb 1 count (omega (arith, zero)) ∙ sym (le-ltb 1 (count + 1) (omega (arith, zero)))
  twice-step n once old x false true count test is in_once in_old =
      let plus : count + 0 ≡ count = omega arith in
      member-with n (key x) old ∙ ap (λ (b : Bool). is_member n old || b) test ∙ or-false (is_member n old) ∙ in_old ∙ ap (λ (k : ℕ). nat_lt 1 k) (sym plus)
  twice-step n once old x false false count test is in_once in_old =
      let plus : count + 0 ≡ count = omega arith in in_old ∙ ap (λ (k : ℕ). nat_lt 1 k) (sym plus)

  pub twice-next : (xs : List A) (i : ℕ) (x : A) (once old new : List ℕ) → slice_get xs i ≡ Some x → AreNamed key (take i xs) once
      → new ≡ (if is_member (key x) once then with_number (key x) old else old) → AreTwice key (take i xs) old → AreTwice key (take (i + 1) xs) new
  twice-next xs i x once old new at named put so_far = record {
    is = λ n.
        let count = count_by (λ z. key z == n) (take i xs) in
        ap (λ (s : List ℕ). is_member n s) put
        ∙ twice-step n once old x (key x == n) (is_member (key x) once) count refl refl (named.is n ∙ any-counted (λ z. key z == n) (take i xs)) (so_far.is n)
        ∙ ap (λ (k : ℕ). nat_lt 1 k) (sym (counted-next xs i x n (key x == n) at refl));
  }

-- an entry that is there is mapped by another too, if more than one names the same
pub another : {A : Type 0} (p : A → Bool) (start i : ℕ) (xs : List A) (x : A) → slice_get xs i ≡ Some x → p x ≡ true
    → list_any (λ g. not (g.0 == start + i) && p g.1) (enumerate_from start xs) ≡ nat_lt 1 (count_by p xs)
another p start i [] x at holds = absurd (none-some x at)
another p start zero (y ∷ ys) x at holds =
    let first : p y ≡ true = ap p (same_Some y x at) ∙ holds in
    let here : (start == start + 0) ≡ true = eq-eqb start (start + 0) (omega arith) in
    let count : nat_lt 1 (count_by p (y ∷ ys)) ≡ nat_lt 0 (count_by p ys) =
    ap (λ (n : ℕ). nat_lt 1 n) (count-cons p y ys) ∙ ap (λ (b : Bool). nat_lt 1 ((if b then 1 else 0) + count_by p ys)) first ∙ one-less (count_by p ys) in
    ap (λ (b : Bool). (not b && p y) || list_any (λ g. not (g.0 == start + 0) && p g.1) (enumerate_from (start + 1) ys)) here
    ∙ apart p (start + 0) (start + 1) ys (omega arith) ∙ any-counted p ys ∙ sym count
another p start (suc i) (y ∷ ys) x at holds =
    let other : (start == start + suc i) ≡ false = ne_eqb start (start + suc i) (λ e. omega (arith, e)) in
    let rest = another p (start + 1) i ys x at holds in
    let shift : start + suc i ≡ start + 1 + i = omega arith in
    let some : 0 < count_by p ys = counted p ys i x at holds in
    ap (λ (b : Bool). (not b && p y) || list_any (λ g. not (g.0 == start + suc i) && p g.1) (enumerate_from (start + 1) ys)) other
    ∙ ap (λ (k : ℕ). p y || list_any (λ g. not (g.0 == k) && p g.1) (enumerate_from (start + 1) ys)) shift ∙ ap (λ (b : Bool). p y || b) rest
    ∙ or-count (p y) (count_by p ys) some ∙ ap (λ (n : ℕ). nat_lt 1 n) (sym (count-cons p y ys))

-- ---- entries that come one by one

module _ {A : Type 0} (key : A → ℕ) where
  -- what is in the set, and what is named by the entries that are left
  abbrev pub AreLeft : List A → List A → List ℕ → Type 0
  AreLeft all rest set = (n : ℕ) → (is_member n set || list_any (λ x. key x == n) rest) ≡ list_any (λ x. key x == n) all

  pub left-next : (all xs ys : List A) (x : A) (old new : List ℕ) → xs ≡ x ∷ ys → new ≡ with_number (key x) old → AreLeft all xs old → AreLeft all ys new
  left-next all xs ys x old new parts put so_far n =
      ap (λ (s : List ℕ). is_member n s || list_any (λ z. key z == n) ys) put
      ∙ ap (λ (b : Bool). b || list_any (λ z. key z == n) ys) (member-with n (key x) old)
      ∙ or-three (is_member n old) (key x == n) (list_any (λ z. key z == n) ys)
      ∙ ap (λ (l : List A). is_member n old || list_any (λ z. key z == n) l) (sym parts) ∙ so_far n

  pub left-none : (all xs : List A) (set : List ℕ) → xs ≡ [] → AreLeft all xs set → AreNamed key all set
  left-none all xs set none so_far = record {
    is = λ n. sym (or-false (is_member n set)) ∙ ap (λ (l : List A). is_member n set || list_any (λ z. key z == n) l) (sym none) ∙ so_far n;
  }

-- ---- whether some entry passes a test

module _ {A : Type 0} (p : A → Bool) (xs : List A) (i : ℕ) where
  pub any-next : (x : A) → slice_get xs i ≡ Some x → p x ≡ false → list_any p (take i xs) ≡ false → list_any p (take (i + 1) xs) ≡ false
  any-next x at holds so_far =
      list_any_more p xs i x (slice_get_within xs i x at) ∙ ap (λ (b : Bool). b || p (get_or xs i x)) so_far ∙ ap p (get_or_from_slice_get xs i x x at) ∙ holds

  pub any-none : length xs ≤ i → list_any p (take i xs) ≡ false → list_any p xs ≡ false
  any-none le so_far = ap (λ (l : List A). list_any p l) (sym (take_all i xs le)) ∙ so_far

pub mapped-twice : {A : Type 0} (p : A → Bool) (i : ℕ) (xs : List A) (x : A) → slice_get xs i ≡ Some x → p x ≡ true
    → list_any (λ g. not (g.0 == i) && p g.1) (enumerate_from 0 xs) ≡ nat_lt 1 (count_by p xs)
mapped-twice p i xs x at holds =
    let zero : i ≡ 0 + i = omega arith in ap (λ (k : ℕ). list_any (λ g. not (g.0 == k) && p g.1) (enumerate_from 0 xs)) zero ∙ another p 0 i xs x at holds

-- ---- numbers of one set that are put into another

pub put-next : (numbers : List ℕ) (place x : ℕ) (old new before : List ℕ) → slice_get numbers place ≡ Some x → new ≡ with_number x old
    → ((n : ℕ) → is_member n old ≡ (is_member n before || is_member n (take place numbers)))
    → (n : ℕ) → is_member n new ≡ (is_member n before || is_member n (take (place + 1) numbers))
put-next numbers place x old new before at put so_far n =
    let more = list_any_more (nat_eq n) numbers place x (slice_get_within numbers place x at) in
    let here : get_or numbers place x ≡ x = get_or_from_slice_get numbers place x x at in
    ap (λ (s : List ℕ). is_member n s) put ∙ member-with n x old ∙ ap (λ (b : Bool). b || (x == n)) (so_far n)
    ∙ or-three (is_member n before) (is_member n (take place numbers)) (x == n)
    ∙ ap (λ (b : Bool). is_member n before || (is_member n (take place numbers) || b)) (same-number x n)
    ∙ ap (λ (k : ℕ). is_member n before || (is_member n (take place numbers) || (n == k))) (sym here)
    ∙ ap (λ (b : Bool). is_member n before || b) (sym more)
