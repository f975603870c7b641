-- What a search finds among prices whose objects rise, and that each object has one.
use Rattle.std.proofs.Common.{ℕ, zero, suc, ◌≡◌, ◌∙◌, ◌+◌, ◌-◌, ◌<◌, ◌≤◌, ◌==◌, ◌&&◌, Bool, true, false, if◌then◌else◌, List, [], ◌∷◌, get_or, length, map}
use Rattle.std.proofs.Common.{Some, Ok, Err, refl, sym, ap, subst, arith}
use Rattle.std.specs.Prelude.{find}
use Rattle.std.specs.List.{list_all}
use Rattle.std.specs.List.Sorted.{IsBinarySearchResult, IsNonDecreasingBy, IsSearchInRange}
use Rattle.std.specs.Option.{option_map_or}
use Rattle.std.specs.Ordering.{nat_cmp, ordering_index}
use Rattle.std.proofs.lemmas.Bool.{eq-eqb, eqb-true}
use Rattle.std.proofs.lemmas.Bool.Decides.{nat_tests}
use Rattle.std.proofs.lemmas.Cmp.{ranked}
use Rattle.std.proofs.lemmas.List.Sorted.{IsNonDecreasingBy-from_default}
use Rattle.std.proofs.lemmas.Option.{same_Some, slice_get-get_or}
use Rattle.model.specs.Shared.Lists.{times_in}
use Rattle.responses.proofs.Lists.{both-true}
use Rattle.responses.specs.Found.{price_in}
use Rattle.responses.specs.Prices.{Rise, RiseTo, no_price, object_at}
use Rattle.responses.specs.declared.price.Price.{Price}

other-number : (m n : ℕ) → (m ≡ n → ⊥) → (m == n) ≡ false
other-number m n other =
    elim (m == n) as (λ b. (m == n) ≡ b → b ≡ false) [
      | true ↦ λ is. absurd (other (eqb-true m n is))
      | false ↦ λ is. refl
    ] refl

-- ---- what is found first

abbrev IsElsewhere : List Price → ℕ → ℕ → Type 0
IsElsewhere prices object count = (j : ℕ) → j < count → object_at prices j ≡ object → ⊥

price-there : (prices : List Price) (k object : ℕ) → k < length prices → object_at prices k ≡ object → IsElsewhere prices object k
    → price_in prices object ≡ (get_or prices k no_price).price
price-there [] k object less is before = absurd (omega (arith, less))
price-there (p ∷ prices) zero object less is before =
    ap (λ b. option_map_or (λ (q : Price). q.price) (if b then Some p else find (λ (q : Price). q.object == object) prices) 0) (eq-eqb p.object object is)
price-there (p ∷ prices) (suc k) object less is before =
    ap (λ b. option_map_or (λ (q : Price). q.price) (if b then Some p else find (λ (q : Price). q.object == object) prices) 0)
    (other-number p.object object (before 0 (omega arith)))
    ∙ price-there prices k object (omega (arith, less)) is (λ j below. before (suc j) (omega (arith, below)))

price-nowhere : (prices : List Price) (object : ℕ) → IsElsewhere prices object (length prices) → price_in prices object ≡ 0
price-nowhere [] object nowhere = refl
price-nowhere (p ∷ prices) object nowhere =
    ap (λ b. option_map_or (λ (q : Price). q.price) (if b then Some p else find (λ (q : Price). q.object == object) prices) 0)
    (other-number p.object object (nowhere 0 (omega arith)))
    ∙ price-nowhere prices object (λ j below. nowhere (suc j) (omega (arith, below)))

-- ---- among prices that rise

module _ (prices : List Price) (rise : Rise prices) (object : ℕ) where
  comparisons-rise : IsNonDecreasingBy (λ (p : Price). ordering_index (nat_cmp p.object object)) prices
  comparisons-rise =
      IsNonDecreasingBy-from_default (λ (p : Price). ordering_index (nat_cmp p.object object)) prices no_price
      (λ i j le in_range.
      let objects : object_at prices i ≤ object_at prices j = grind (arith, rise i j, λ (same : i ≡ j). ap (object_at prices) same) in
      grind (arith, nat_tests))

  found-price : (at : ℕ) → IsSearchInRange (Ok at) (length prices) → IsBinarySearchResult (λ (p : Price). nat_cmp p.object object) prices (Ok at)
      → (get_or prices at no_price).price ≡ price_in prices object
  found-price at in_range equal =
      let same : object_at prices at ≡ object = ranked _ object _ (sym (equal no_price)) in
      sym (price-there prices at object in_range same
      (λ j below clash. let less = rise j at below in_range in omega (arith, less, same, clash)))

  absent-price : (at : ℕ) → IsBinarySearchResult (λ (p : Price). nat_cmp p.object object) prices (Err at) → 0 ≡ price_in prices object
  absent-price at parted =
      sym (price-nowhere prices object
      (λ j below clash.
      let before : j < at → object_at prices j < object = λ less. ranked _ object _ (sym ((parted comparisons-rise).0 j no_price (omega arith) less)) in
      let behind : at ≤ j → object < object_at prices j = λ less. ranked _ object _ (sym ((parted comparisons-rise).1 j no_price less below)) in
      grind (arith, before, behind, clash)))

-- by what is shown of the prices
pub found-in : (items now shown : List Price) → shown ≡ items → items ≡ now → Rise items → (object at : ℕ) → IsSearchInRange (Ok at) (length shown)
    → IsBinarySearchResult (λ (p : Price). nat_cmp p.object object) shown (Ok at) → (p : Price) → p ≡ get_or items at p → p.price ≡ price_in now object
found-in items now shown same view rise object at in_range equal p is =
    let less : at < length items = subst (λ (l : List Price). at < length l) same in_range in
    ap (λ (q : Price). q.price) (is ∙ same_Some _ _ (sym (slice_get-get_or items at p less) ∙ slice_get-get_or items at no_price less))
    ∙ found-price items rise object at less
    (subst (λ (l : List Price). IsBinarySearchResult (λ (q : Price). nat_cmp q.object object) l (Ok at)) same equal)
    ∙ ap (λ (l : List Price). price_in l object) view

pub absent-in : (items now shown : List Price) → shown ≡ items → items ≡ now → Rise items → (object at : ℕ)
    → IsBinarySearchResult (λ (p : Price). nat_cmp p.object object) shown (Err at) → 0 ≡ price_in now object
absent-in items now shown same view rise object at parted =
    absent-price items rise object at
    (subst (λ (l : List Price). IsBinarySearchResult (λ (q : Price). nat_cmp q.object object) l (Err at)) same parted)
    ∙ ap (λ (l : List Price). price_in l object) view

-- ---- each object has one price

times-none : (prices : List Price) (object : ℕ) → IsElsewhere prices object (length prices) → times_in (map (λ p. p.object) prices) object ≡ 0
times-none [] object nowhere = refl
times-none (p ∷ prices) object nowhere =
    ap (λ b. if b then times_in (map (λ q. q.object) prices) object + 1 else times_in (map (λ q. q.object) prices) object)
    (other-number p.object object (nowhere 0 (omega arith)))
    ∙ times-none prices object (λ j below. nowhere (suc j) (omega (arith, below)))

times-one : (prices : List Price) → Rise prices → (k : ℕ) → k < length prices → times_in (map (λ p. p.object) prices) (object_at prices k) ≡ 1
times-one [] rise k less = absurd (omega (arith, less))
times-one (p ∷ prices) rise zero less =
    ap (λ b. if b then times_in (map (λ q. q.object) prices) p.object + 1 else times_in (map (λ q. q.object) prices) p.object)
    (eq-eqb p.object p.object refl)
    ∙ ap (λ n. n + 1) (times-none prices p.object
    (λ j below clash. let above = rise 0 (suc j) (omega arith) (omega (arith, below)) in omega (arith, above, clash)))
times-one (p ∷ prices) rise (suc k) less =
    ap (λ b. if b then times_in (map (λ q. q.object) prices) (object_at prices k) + 1 else times_in (map (λ q. q.object) prices) (object_at prices k))
    (other-number p.object (object_at prices k)
    (λ clash. let above = rise 0 (suc k) (omega arith) less in omega (arith, above, clash)))
    ∙ times-one prices (λ i j before within. rise (suc i) (suc j) (omega (arith, before)) (omega (arith, within))) k (omega (arith, less))

each-so : {A : Type 0} (f : A → Bool) (d : A) (xs : List A) → ((k : ℕ) → k < length xs → f (get_or xs k d) ≡ true) → list_all f xs ≡ true
each-so f d [] so = refl
each-so f d (x ∷ xs) so = both-true (f x) (list_all f xs) (so 0 (omega arith)) (each-so f d xs (λ k less. so (suc k) (omega (arith, less))))

-- and it is that
pub each-priced : (prices : List Price) → Rise prices
    → list_all (λ (p : Price). (times_in (map (λ q. q.object) prices) p.object == 1) && (price_in prices p.object == p.price)) prices ≡ true
each-priced prices rise =
    each-so (λ (p : Price). (times_in (map (λ q. q.object) prices) p.object == 1) && (price_in prices p.object == p.price)) no_price prices
    (λ k less.
    both-true _ _ (eq-eqb (times_in (map (λ q. q.object) prices) (object_at prices k)) 1 (times-one prices rise k less))
    (eq-eqb (price_in prices (object_at prices k)) (get_or prices k no_price).price
    (price-there prices k (object_at prices k) less refl
    (λ j below clash. let under = rise j k below less in omega (arith, under, clash)))))

-- ---- by one price more

pub rise-one : (prices : List Price) → RiseTo 1 prices
rise-one prices i j before within = absurd (omega (arith, before, within))

pub rise-none : (prices : List Price) → length prices ≡ 0 → Rise prices
rise-none prices none i j before within = absurd (omega (arith, within, none))

pub rise-next : (prices : List Price) (count : ℕ) → 1 ≤ count → RiseTo count prices → object_at prices (count - 1) < object_at prices count
    → RiseTo (count + 1) prices
rise-next prices count some rise last i j before within =
    elim (j == count) as (λ b. (j == count) ≡ b → object_at prices i < object_at prices j) [
      | true ↦ λ is. here (eqb-true j count is)
      | false ↦ λ is. rise i j before (omega (arith, within, differ is))
    ] refl
  where
    differ : (j == count) ≡ false → j ≡ count → ⊥
    differ is same = let clash : true ≡ false = sym (eq-eqb j count same) ∙ is in cc

    here : j ≡ count → object_at prices i < object_at prices j
    here same =
        elim (i == (count - 1)) as (λ b. (i == (count - 1)) ≡ b → object_at prices i < object_at prices j) [
          | true ↦ λ is.
              let place : i ≡ count - 1 = eqb-true i (count - 1) is in
              subst (λ n. object_at prices n < object_at prices j) (sym place) (subst (λ n. object_at prices (count - 1) < object_at prices n) (sym same) last)
          | false ↦ λ is.
              let apart : i ≡ count - 1 → ⊥ = λ at. (let clash : true ≡ false = sym (eq-eqb i (count - 1) at) ∙ is in cc) in
              let under = rise i (count - 1) (omega (arith, before, same, apart, some)) (omega (arith, some)) in
              let over : object_at prices count ≡ object_at prices j = ap (object_at prices) (sym same) in
              omega (arith, under, last, over)
        ] refl
