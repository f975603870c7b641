-- What a list of full slots says of one slot, where lists are joined, and where entries come one by one.
use Rattle.std.proofs.Common.{ℕ, zero, suc, ◌≡◌, ◌≢◌, ◌∙◌, ◌==◌, ◌+◌, ◌<◌, ◌≤◌, ◌⊎◌, inl, inr, Bool, true, false, cond, map, filter, find, take, List, [], ◌∷◌}
use Rattle.std.proofs.Common.{◌++◌, Option, Some, None, refl, sym, ap, subst, arith}
use Rattle.std.specs.Prelude.{flat_map, option_map, slice_get}
use Rattle.std.specs.Option.{option_or}
use Rattle.std.specs.List.{enumerate_from, range_with_len}
use Rattle.std.proofs.lemmas.Bool.Decides.{eqb_tells}
use Rattle.std.proofs.lemmas.List.Folds.{find-append}
use Rattle.std.proofs.lemmas.Option.{none-some, same_Some}
use Rattle.model.specs.declared.slot_entries.Entry.{Entry}
use Rattle.model.specs.Images.Described.{Holding, held_in, numbered}

-- ---- the first, and those after it

pub held-here : (h : Holding) (rest : List Holding) (slot : ℕ) → h.0 ≡ slot → held_in (h ∷ rest) slot ≡ Some h.1
held-here h rest slot same = elim (eqb_tells h.0 slot) [
  | inl here ↦ ap (λ b. option_map (λ (x : Holding). x.1) (cond b (Some h) (find (λ x. x.0 == slot) rest))) here.0
  | inr apart ↦ absurd (apart.1 same)
]

pub held-later : (h : Holding) (rest : List Holding) (slot : ℕ) → h.0 ≢ slot → held_in (h ∷ rest) slot ≡ held_in rest slot
held-later h rest slot other = elim (eqb_tells h.0 slot) [
  | inl here ↦ absurd (other here.1)
  | inr apart ↦ ap (λ b. option_map (λ (x : Holding). x.1) (cond b (Some h) (find (λ x. x.0 == slot) rest))) apart.0
]

-- ---- joined lists

map-or : {A B : Type 0} (f : A → B) (a b : Option A) → option_map f (option_or a b) ≡ option_or (option_map f a) (option_map f b)
map-or f None b = refl
map-or f (Some x) b = refl

pub held-append : (first rest : List Holding) (slot : ℕ) → held_in (first ++ rest) slot ≡ option_or (held_in first slot) (held_in rest slot)
held-append first rest slot =
    ap (option_map (λ (x : Holding). x.1)) (find-append (λ (x : Holding). x.0 == slot) first rest)
    ∙ map-or (λ (x : Holding). x.1) (find (λ x. x.0 == slot) first) (find (λ x. x.0 == slot) rest)

-- what both parts say, whatever the lists are
pub held-joined : (first rest : List Holding) (slot : ℕ) (a b : Option Entry) → held_in first slot ≡ a → held_in rest slot ≡ b
    → held_in (first ++ rest) slot ≡ option_or a b
held-joined first rest slot a b one two = held-append first rest slot ∙ (λ i. option_or (one i) (two i))

pub held-in-first : (first other rest : List Holding) (slot : ℕ) → held_in first slot ≡ held_in other slot →
    held_in (first ++ rest) slot ≡ held_in (other ++ rest) slot
held-in-first first other rest slot same =
    held-append first rest slot ∙ ap (λ (o : Option Entry). option_or o (held_in rest slot)) same ∙ sym (held-append other rest slot)

pub held-in-rest : (first rest other : List Holding) (slot : ℕ) → held_in rest slot ≡ held_in other slot →
    held_in (first ++ rest) slot ≡ held_in (first ++ other) slot
held-in-rest first rest other slot same =
    held-append first rest slot ∙ ap (λ (o : Option Entry). option_or (held_in first slot) o) same ∙ sym (held-append first other slot)

-- ---- one holding for each entry

module _ {A : Type 0} (g : A → Holding) where
  pub mapped-at : (xs : List A) (m k : ℕ) (x : A) (slot : ℕ) → slice_get xs k ≡ Some x → k < m → (g x).0 ≡ slot
      → ((j : ℕ) (y : A) → j < k → slice_get xs j ≡ Some y → (g y).0 ≢ slot) → held_in (map g (take m xs)) slot ≡ Some (g x).1
  mapped-at [] m k x slot at less here before = absurd (none-some x at)
  mapped-at (y ∷ ys) zero k x slot at less here before = absurd (omega (arith, less))
  mapped-at (y ∷ ys) (suc m) zero x slot at less here before =
      let same = same_Some y x at in
      held-here (g y) (map g (take m ys)) slot (ap (λ z. (g z).0) same ∙ here) ∙ ap (λ z. let e : Option Entry = Some (g z).1 in e) same
  mapped-at (y ∷ ys) (suc m) (suc k) x slot at less here before =
      held-later (g y) (map g (take m ys)) slot (before 0 y (omega arith) refl)
      ∙ mapped-at ys m k x slot at (omega (arith, less)) here (λ j z below there. before (suc j) z (omega (arith, below)) there)

  pub mapped-none : (xs : List A) (m slot : ℕ) → ((j : ℕ) (y : A) → j < m → slice_get xs j ≡ Some y → (g y).0 ≢ slot) → held_in (map g (take m xs)) slot ≡ None
  mapped-none xs zero slot apart = refl
  mapped-none [] (suc m) slot apart = refl
  mapped-none (y ∷ ys) (suc m) slot apart =
      held-later (g y) (map g (take m ys)) slot (apart 0 y (omega arith) refl)
      ∙ mapped-none ys m slot (λ j z below there. apart (suc j) z (omega (arith, below)) there)

  -- one more, seen from another slot
  pub mapped-more : (xs : List A) (m : ℕ) (x : A) (slot : ℕ) → slice_get xs m ≡ Some x → (g x).0 ≢ slot
      → held_in (map g (take (suc m) xs)) slot ≡ held_in (map g (take m xs)) slot
  mapped-more [] m x slot at other = absurd (none-some x at)
  mapped-more (y ∷ ys) zero x slot at other = held-later (g y) [] slot (λ here. other (ap (λ z. (g z).0) (sym (same_Some y x at)) ∙ here))
  mapped-more (y ∷ ys) (suc m) x slot at other = elim (eqb_tells (g y).0 slot) [
    | inl here ↦ held-here (g y) (map g (take (suc m) ys)) slot here.1 ∙ sym (held-here (g y) (map g (take m ys)) slot here.1)
    | inr apart ↦ held-later (g y) (map g (take (suc m) ys)) slot apart.1 ∙ mapped-more ys m x slot at other
        ∙ sym (held-later (g y) (map g (take m ys)) slot apart.1)
  ]

-- ---- several holdings for each entry

module _ {A : Type 0} (f : A → List Holding) where
  pub flat-at : (xs : List A) (m k : ℕ) (x : A) (slot : ℕ) (held : Entry) → slice_get xs k ≡ Some x → k < m → held_in (f x) slot ≡ Some held
      → ((j : ℕ) (y : A) → j < k → slice_get xs j ≡ Some y → held_in (f y) slot ≡ None) → held_in (flat_map f (take m xs)) slot ≡ Some held
  flat-at [] m k x slot held at less here before = absurd (none-some x at)
  flat-at (y ∷ ys) zero k x slot held at less here before = absurd (omega (arith, less))
  flat-at (y ∷ ys) (suc m) zero x slot held at less here before =
      held-joined (f y) (flat_map f (take m ys)) slot (Some held) _ (ap (λ z. held_in (f z) slot) (same_Some y x at) ∙ here) refl
  flat-at (y ∷ ys) (suc m) (suc k) x slot held at less here before =
      held-joined (f y) (flat_map f (take m ys)) slot None (Some held) (before 0 y (omega arith) refl)
      (flat-at ys m k x slot held at (omega (arith, less)) here (λ j z below there. before (suc j) z (omega (arith, below)) there))

  pub flat-none : (xs : List A) (m slot : ℕ) → ((j : ℕ) (y : A) → j < m → slice_get xs j ≡ Some y → held_in (f y) slot ≡ None) →
      held_in (flat_map f (take m xs)) slot ≡ None
  flat-none xs zero slot apart = refl
  flat-none [] (suc m) slot apart = refl
  flat-none (y ∷ ys) (suc m) slot apart =
      held-joined (f y) (flat_map f (take m ys)) slot None None (apart 0 y (omega arith) refl)
      (flat-none ys m slot (λ j z below there. apart (suc j) z (omega (arith, below)) there))

  pub flat-more : (xs : List A) (m : ℕ) (x : A) (slot : ℕ) → slice_get xs m ≡ Some x → held_in (f x) slot ≡ None
      → held_in (flat_map f (take (suc m) xs)) slot ≡ held_in (flat_map f (take m xs)) slot
  flat-more [] m x slot at other = absurd (none-some x at)
  flat-more (y ∷ ys) zero x slot at other = held-joined (f y) [] slot None None (ap (λ z. held_in (f z) slot) (same_Some y x at) ∙ other) refl
  flat-more (y ∷ ys) (suc m) x slot at other = held-in-rest (f y) (flat_map f (take (suc m) ys)) (flat_map f (take m ys)) slot (flat-more ys m x slot at other)

-- ---- entries with their numbers

numbered-behind : {A : Type 0} (from : ℕ) (xs : List A) (k : ℕ) (y : ℕ × A) → slice_get (enumerate_from from xs) k ≡ Some y → (y.0 ≡ from + k)
    × (slice_get xs k ≡ Some y.1)
numbered-behind from [] k y at = absurd (none-some y at)
numbered-behind from (x ∷ xs) zero y at =
    let same = same_Some (from, x) y at in
    ((let first : from ≡ y.0 = ap (λ z. z.0) same in omega (arith, first)), ap (λ z. Some z.1) same)
numbered-behind from (x ∷ xs) (suc k) y at =
    let rest = numbered-behind (from + 1) xs k y at in ((let number = rest.0 in omega (arith, number)), rest.1)

pub numbered-back : {A : Type 0} (xs : List A) (k : ℕ) (y : ℕ × A) → slice_get (numbered xs) k ≡ Some y → (y.0 ≡ k) × (slice_get xs k ≡ Some y.1)
numbered-back xs k y at = let found = numbered-behind 0 xs k y at in ((let number = found.0 in omega (arith, number)), found.1)

-- ---- holdings of a filtered range

module _ (g : ℕ → Holding) (base : ℕ) (key : (n : ℕ) → (g n).0 ≡ base + n) (keeps : ℕ → Bool) where
  first-kept : (from : ℕ) (rest : List ℕ) → keeps from ≡ true → held_in (map g (cond (keeps from) (from ∷ rest) rest)) (base + from) ≡ Some (g from).1
  first-kept from rest kept =
      ap (λ b. held_in (map g (cond b (from ∷ rest) rest)) (base + from)) kept ∙ held-here (g from) (map g rest) (base + from) (key from)

  pub first-passed : (from : ℕ) (rest : List ℕ) (slot : ℕ) → (base + from ≢ slot) ⊎ (keeps from ≡ false)
      → held_in (map g (cond (keeps from) (from ∷ rest) rest)) slot ≡ held_in (map g rest) slot
  first-passed from rest slot (inl other) = elim (keeps from) as (λ b. held_in (map g (cond b (from ∷ rest) rest)) slot ≡ held_in (map g rest) slot) [
    | true ↦ held-later (g from) (map g rest) slot (λ here. other (sym (key from) ∙ here))
    | false ↦ refl
  ]
  first-passed from rest slot (inr gone) = ap (λ b. held_in (map g (cond b (from ∷ rest) rest)) slot) gone

  pub range-kept : (from count n : ℕ) → from ≤ n → n < from + count → keeps n ≡ true
      → held_in (map g (filter keeps (range_with_len from count))) (base + n) ≡ Some (g n).1
  range-kept from zero n low high kept = absurd (omega (arith, low, high))
  range-kept from (suc count) n low high kept =
      let rest = filter keeps (range_with_len (from + 1) count) in
      elim (eqb_tells from n) [
        | inl here ↦ subst (λ k. held_in (map g (cond (keeps from) (from ∷ rest) rest)) (base + k) ≡ Some (g k).1) here.1
            (first-kept from rest (ap keeps here.1 ∙ kept))
        | inr apart ↦
            first-passed from rest (base + n) (inl (λ same. apart.1 (omega (arith, same))))
            ∙ range-kept (from + 1) count n (let other = apart.1 in omega (arith, low, other)) (omega (arith, high)) kept
      ]

  pub range-none : (from count slot : ℕ) → ((n : ℕ) → from ≤ n → n < from + count → (base + n ≢ slot) ⊎ (keeps n ≡ false))
      → held_in (map g (filter keeps (range_with_len from count))) slot ≡ None
  range-none from zero slot apart = refl
  range-none from (suc count) slot apart =
      first-passed from (filter keeps (range_with_len (from + 1) count)) slot (apart from (omega arith) (omega arith))
      ∙ range-none (from + 1) count slot (λ n low high. apart n (omega (arith, low)) (omega (arith, high)))

-- filtered ranges that keep the same, and hold the same, where a slot is asked for
module _ (g h : ℕ → Holding) (base : ℕ) (key : (n : ℕ) → (g n).0 ≡ base + n) (key_h : (n : ℕ) → (h n).0 ≡ base + n) (keeps stays : ℕ → Bool) where
  pub range-alike : (from count slot : ℕ) → ((n : ℕ) → base + n ≡ slot → (keeps n ≡ stays n) × (g n ≡ h n))
      → held_in (map g (filter keeps (range_with_len from count))) slot ≡ held_in (map h (filter stays (range_with_len from count))) slot
  range-alike from zero slot same = refl
  range-alike from (suc count) slot same =
      let one = filter keeps (range_with_len (from + 1) count) in
      let two = filter stays (range_with_len (from + 1) count) in
      let rest = range-alike (from + 1) count slot same in
      elim (eqb_tells (base + from) slot) [
        | inl here ↦
            let alike = same from here.1 in
            ap (λ b. held_in (map g (cond b (from ∷ one) one)) slot) alike.0
            ∙ elim (stays from) as (λ b. held_in (map g (cond b (from ∷ one) one)) slot ≡ held_in (map h (cond b (from ∷ two) two)) slot) [
              | true ↦ held-here (g from) (map g one) slot (key from ∙ here.1) ∙ ap (λ (x : Holding). let e : Option Entry = Some x.1 in e) alike.1
                  ∙ sym (held-here (h from) (map h two) slot (key_h from ∙ here.1))
              | false ↦ rest
            ]
        | inr apart ↦
            first-passed g base key keeps from one slot (inl apart.1) ∙ rest ∙ sym (first-passed h base key_h stays from two slot (inl apart.1))
      ]
