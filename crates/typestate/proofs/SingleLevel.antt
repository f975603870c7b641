-- What goes where nothing was derived from the children of the slot that is named: these alone.
use Rattle.std.proofs.Common.{ℕ, ◌≡◌, ◌∙◌, ◌==◌, ◌≤◌, ◌||◌, Bool, true, false, if◌then◌else◌, is_some, Option, Some, None, List, [], ◌∷◌, ◌++◌}
use Rattle.std.proofs.Common.{map, refl, sym, ap, arith}
use Rattle.std.specs.List.{flat_map, list_any}
use Rattle.std.specs.Ordering.{is_eq, nat_cmp}
use Rattle.std.proofs.lemmas.Bool.Decides.{nat_tests}
use Rattle.model.specs.Acceptance.NotedStates.{NotedSlot, SlotKey, is_same_key, number_of}
use Rattle.typestate.specs.Descents.{AreBelow, if_other, is_found}
use Rattle.typestate.specs.Differences.{left_by, slots_of}
use Rattle.typestate.specs.Families.{children_of, found, has_parent}
use Rattle.typestate.specs.Levels.{all_below, below_by, touched_by}
use Rattle.typestate.specs.Orders.{Rise}
use Rattle.typestate.specs.SlotChanges.{emptied, noted_descends}
use Rattle.typestate.specs.declared.points.NotedSlots.{NotedSlots}
use Rattle.typestate.specs.declared.slot_changes.Removed.TheVariants.{Below}
use Rattle.typestate.proofs.Descents.{all-are-below, changed-found, more-below, starts-below, touched-levels}
use Rattle.typestate.proofs.Linked.{append-none, filter-found, filter-rises, found-number, kept}
use Rattle.typestate.proofs.PutPlaces.{rise-of}
use Rattle.typestate.proofs.Rising.{from-first, looks-equal}

same-number : (m k : ℕ) → is_eq (nat_cmp m k) ≡ (k == m)
same-number m k = grind (arith, nat_tests)

numbers-found : (xs : List NotedSlot) (m : ℕ) → is_found (map (λ (c : NotedSlot). number_of c.key) xs) m ≡ list_any (λ (c : NotedSlot). number_of c.key == m) xs
numbers-found [] m = refl
numbers-found (c ∷ rest) m =
    ap (λ b. b || is_found (map (λ (c : NotedSlot). number_of c.key) rest) m) (same-number m (number_of c.key))
    ∙ ap (λ b. (number_of c.key == m) || b) (numbers-found rest m)

or-nothing : (b : Bool) → b ≡ (b || false)
or-nothing true = refl
or-nothing false = refl

both-none : (xs ys : List NotedSlot) → xs ++ ys ≡ [] → (xs ≡ []) × (ys ≡ [])
both-none [] ys none = (refl, none)
both-none (x ∷ xs) ys none = absurd (let clash : x ∷ (xs ++ ys) ≡ [] = none in cc)

none-of-others : (f : NotedSlot → List NotedSlot) (root : SlotKey) (xs : List NotedSlot) → flat_map f xs ≡ [] → flat_map f (flat_map (if_other root) xs) ≡ []
none-of-others f root [] none = refl
none-of-others f root (x ∷ rest) none =
    let both = both-none (f x) (flat_map f rest) none in
    elim (is_same_key x.key root) as (λ b. flat_map f ((if b then [] else x ∷ []) ++ flat_map (if_other root) rest) ≡ []) [
      | true ↦ none-of-others f root rest both.1
      | false ↦ ap (λ (l : List NotedSlot). l ++ flat_map f (flat_map (if_other root) rest)) both.0 ∙ none-of-others f root rest both.1
    ]

module _ (n : NotedSlots) (root : SlotKey) (childless : flat_map (λ (s : NotedSlot). children_of n.changes.now s.key) (children_of n.changes.now root)
    ≡ []) where
  abbrev cs : List NotedSlot
  cs = n.changes.now

  abbrev children : List NotedSlot
  children = children_of cs root

  abbrev numbers : List ℕ
  numbers = map (λ (c : NotedSlot). number_of c.key) children

  abbrev is_child : NotedSlot → Bool
  is_child c = has_parent root (left_by c)

  first-level : AreBelow 1 n root numbers (flat_map (if_other root) children)
  first-level =
      more-below n root 0 [] numbers (emptied root ∷ []) children (flat_map (if_other root) children) (sym (append-none children)) (numbers-found children) refl
      (starts-below n root [] (emptied root ∷ []) refl refl)

  second-level : AreBelow 2 n root numbers []
  second-level =
      more-below n root 1 numbers numbers (flat_map (if_other root) children) [] []
      (sym (none-of-others (λ (s : NotedSlot). children_of cs s.key) root children childless)) (λ m. or-nothing (is_found numbers m)) refl first-level

  descends : (k : ℕ) → 2 ≤ k → (c : NotedSlot) → found cs (number_of c.key) ≡ Some c → is_child c ≡ noted_descends k (slots_of n) root c.key
  descends k more c here =
      sym (tested (is_child c)) ∙ sym (ap (λ o. is_some (kept is_child o)) here)
      ∙ sym (ap is_some (filter-found is_child cs 0 (number_of c.key) (from-first cs n.ordered)))
      ∙ sym (changed-found children c.key) ∙ sym (numbers-found children (number_of c.key))
      ∙ (all-are-below n root 2 k numbers [] refl more second-level c.key).0
    where
      tested : (b : Bool) → is_some (if b then Some c else None) ≡ b
      tested true = refl
      tested false = refl

  children-below : (k : ℕ) → 2 ≤ k → children ≡ below_by k n root
  children-below k more =
      let first = from-first cs n.ordered in
      let test : NotedSlot → Bool = λ c. noted_descends k (slots_of n) root c.key in
      looks-equal children (below_by k n root) 0 0 (filter-rises is_child cs 0 first) (filter-rises test cs 0 first)
      (λ key. filter-found is_child cs 0 (number_of key) first ∙ alike (number_of key) (found cs (number_of key)) refl
      ∙ sym (filter-found test cs 0 (number_of key) first))
    where
      alike : (m : ℕ) (o : Option NotedSlot) → found cs m ≡ o → kept is_child o ≡ kept (λ c. noted_descends k (slots_of n) root c.key) o
      alike m None is = refl
      alike m (Some c) is =
          ap (λ b. if b then Some c else None) (descends k more c (ap (found cs) (found-number cs m c is) ∙ is))

  pub single-below : children ≡ all_below n (Below root)
  single-below = children-below 256 (omega arith)

  pub single-touched : children ≡ touched_by n (Below root)
  single-touched = children-below 257 (omega arith) ∙ touched-levels n (Below root)

pub children-rise : (n : NotedSlots) (root : SlotKey) → Rise (children_of n.changes.now root)
children-rise n root =
    rise-of (children_of n.changes.now root) 0
    (filter-rises (λ (c : NotedSlot). has_parent root (left_by c)) n.changes.now 0 (from-first n.changes.now n.ordered))
