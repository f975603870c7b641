-- Links from a name, where none is from a later one.
use Rattle.std.proofs.Common.{ℕ, suc, ◌≡◌, ◌∙◌, ◌==◌, ◌*◌, ◌/◌, ◌<◌, ◌≤◌, ◌||◌, ◌&&◌, Bool, true, false, if◌then◌else◌, Option, Some, None, List, [], ◌∷◌}
use Rattle.std.proofs.Common.{refl, sym, ap, arith}
use Rattle.std.specs.List.{All, filter}
use Rattle.std.specs.Option.{option_map_or}
use Rattle.std.specs.Ordering.{is_eq, is_le, is_lt, nat_cmp, ordering_then}
use Rattle.std.proofs.lemmas.Bool.Decides.{nat_tests}
use Rattle.model.specs.Acceptance.NotedStates.{NotedSlot, number_of}
use Rattle.typestate.specs.Families.{found, has_link, link_cmp}
use Rattle.typestate.specs.Orders.{Rise}
use Rattle.typestate.proofs.Linked.{filter-found, filter-rises, kept}
use Rattle.typestate.proofs.Rising.{from-first, looks-equal}

pub at-most : (l k a b : ℕ) → is_lt (ordering_then (nat_cmp l a) (nat_cmp k b)) ≡ false → a ≤ l
at-most l k a b up = grind (arith, nat_tests)

abbrev AreUpTo : ℕ → List (ℕ × ℕ) → Type 0
AreUpTo last links = All (λ (q : ℕ × ℕ). q.0 ≤ last) links

rest-up-to : (last : ℕ) (q : ℕ × ℕ) (rest : List (ℕ × ℕ)) → AreUpTo last (q ∷ rest) → AreUpTo last rest
rest-up-to last q rest up = λ k d below. up (suc k) d (omega (arith, below))

from-here : (a b m : ℕ) → a ≤ m → (is_le (ordering_then (nat_cmp m a) (nat_cmp 0 b)) && true) ≡ (a == m)
from-here a b m most = and-true (is_le (ordering_then (nat_cmp m a) (nat_cmp 0 b))) ∙ at-name a b m most
  where
    and-true : (b : Bool) → (b && true) ≡ b
    and-true true = refl
    and-true false = refl

    at-name : (a b m : ℕ) → a ≤ m → is_le (ordering_then (nat_cmp m a) (nat_cmp 0 b)) ≡ (a == m)
    at-name a b m most = grind (arith, nat_tests)

-- those from a name on are those of the name, where no name is after it
pub last-links : (m last : ℕ) (links : List (ℕ × ℕ)) → last ≤ m → AreUpTo last links → filter (λ (q : ℕ × ℕ). is_le (link_cmp (m, 0) q) && true) links
    ≡ filter (λ (q : ℕ × ℕ). q.0 == m) links
last-links m last [] most up = refl
last-links m last (q ∷ rest) most up =
    let here : q.0 ≤ last = up 0 q (omega arith) in
    ap (λ b. if b then q ∷ filter (λ (q : ℕ × ℕ). is_le (link_cmp (m, 0) q) && true) rest else
    filter (λ (q : ℕ × ℕ). is_le (link_cmp (m, 0) q) && true) rest)
    (from-here q.0 q.1 m (omega (arith, here, most)))
    ∙ ap (λ (l : List (ℕ × ℕ)). if q.0 == m then q ∷ l else l) (last-links m last rest most (rest-up-to last q rest up))

elsewhere : (a m : ℕ) → a < m → (a == m) ≡ false
elsewhere a m less = grind (arith, nat_tests)

-- there is none from a name after all
pub no-links : (m last : ℕ) (links : List (ℕ × ℕ)) → last < m → AreUpTo last links → filter (λ (q : ℕ × ℕ). q.0 == m) links ≡ []
no-links m last [] less up = refl
no-links m last (q ∷ rest) less up =
    let here : q.0 ≤ last = up 0 q (omega arith) in
    ap (λ b. if b then q ∷ filter (λ (q : ℕ × ℕ). q.0 == m) rest else filter (λ (q : ℕ × ℕ). q.0 == m) rest)
    (elsewhere q.0 m (omega (arith, here, less)))
    ∙ no-links m last rest less (rest-up-to last q rest up)

-- ---- what is derived from a slot without links

module _ (m : ℕ) (test : NotedSlot → Bool) where
  no-link : (links : List (ℕ × ℕ)) (slot : ℕ) → filter (λ (q : ℕ × ℕ). q.0 == m) links ≡ [] → has_link links m slot ≡ false
  no-link [] slot none = refl
  no-link (q ∷ rest) slot none = elim (q.0 == m) as (λ b. q.0 == m ≡ b
      → (if b then q ∷ filter (λ (q : ℕ × ℕ). q.0 == m) rest else filter (λ (q : ℕ × ℕ). q.0 == m) rest) ≡ [] → has_link (q ∷ rest) m slot ≡ false) [
        | true ↦ λ _ clash. absurd (let no : q ∷ filter (λ (q : ℕ × ℕ). q.0 == m) rest ≡ [] = clash in cc)
        | false ↦ λ off left. ap (λ b. b || has_link rest m slot) (other-name q.0 q.1 slot off) ∙ no-link rest slot left
      ] refl none
    where
      other-name : (a b slot : ℕ) → (a == m) ≡ false → is_eq (ordering_then (nat_cmp m a) (nat_cmp slot b)) ≡ false
      other-name a b slot off = grind (arith, nat_tests)

  -- where each that passes has the link to its block, none passes
  pub none-passes : (links : List (ℕ × ℕ)) (changes : List NotedSlot) → Rise changes → filter (λ (q : ℕ × ℕ). q.0 == m) links ≡ []
      → ((slot : ℕ) → option_map_or test (found changes slot) false ≡ true → has_link links m (slot / 16 * 16) ≡ true) → filter test changes ≡ []
  none-passes links changes rises none linked =
      let first = from-first changes rises in
      looks-equal (filter test changes) [] 0 0 (filter-rises test changes 0 first) tt
      (λ key. filter-found test changes 0 (number_of key) first ∙ fails (number_of key) (found changes (number_of key)) refl)
    where
      clash : (slot : ℕ) → has_link links m (slot / 16 * 16) ≡ true → ⊥
      clash slot has = let no : true ≡ false = sym has ∙ no-link links (slot / 16 * 16) none in cc

      fails : (slot : ℕ) (o : Option NotedSlot) → found changes slot ≡ o → kept test o ≡ None
      fails slot None is = refl
      fails slot (Some c) is = elim (test c) as (λ b. test c ≡ b → (if b then Some c else None) ≡ None) [
        | true ↦ λ passes. absurd (clash slot (linked slot (ap (λ o. option_map_or test o false) is ∙ passes)))
        | false ↦ λ _. refl
      ] refl
