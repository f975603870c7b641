-- The test of descent and the relation are one.
use Rattle.std.proofs.Common.{ℕ, zero, suc, ◌≡◌, ◌∙◌, ◌==◌, ◌||◌, ◌+◌, ◌<◌, ◌≤◌, inl, inr, true, false, not, if◌then◌else◌, List, IfSome, IsTrue, Option, Some}
use Rattle.std.proofs.Common.{None, is_some, add-one, refl, sym, ap, arith}
use Rattle.std.specs.Option.{option_map_or}
use Rattle.std.proofs.Math.Bool.{or-true}
use Rattle.std.proofs.lemmas.Bool.{eq-eqb}
use Rattle.std.proofs.lemmas.Bool.Decides.{eqb_tells}
use Rattle.model.specs.Capabilities.Slots.{Slots, Descendant, child, deeper, IsDerivation, IsFull, IsOpen, depth_of, depth_within, is_empty, is_full, parent_at}
use Rattle.model.specs.declared.capabilities.Cap.TheVariants.{Empty}
use Rattle.model.specs.declared.slot_entries.Entry.{Entry}
use Rattle.model.proofs.Depths.{Parents, depth-none, depth-some}
use Rattle.model.specs.Capabilities.Orders.{IsOrderOf, descendants}
use Rattle.model.specs.Shared.Lists.{times_in}
use Rattle.model.specs.Capabilities.Slots.{descends_within, is_descendant}
use Rattle.model.proofs.Orders.{times-filter}

-- one step of the test
pub descends-none : (n : ℕ) (parents : Parents) (root slot : ℕ) → parents slot ≡ None → descends_within n parents root slot ≡ false
unfolding descends_within
descends-none zero parents root slot is = refl
descends-none (suc n) parents root slot is = ap (λ o. option_map_or (λ p. p == root || descends_within n parents root p) o false) is

pub descends-some : (n : ℕ) (parents : Parents) (root slot parent : ℕ) → parents slot ≡ Some parent →
    descends_within (suc n) parents root slot ≡ (parent == root || descends_within n parents root parent)
unfolding descends_within
descends-some n parents root slot parent is = ap (λ o. option_map_or (λ p. p == root || descends_within n parents root p) o false) is

pub descends-zero : (parents : Parents) (root slot : ℕ) → descends_within zero parents root slot ≡ false
unfolding descends_within
descends-zero parents root slot = refl

pub descends-root : (n : ℕ) (parents : Parents) (root slot parent : ℕ) → parents slot ≡ Some parent → parent ≡ root →
    descends_within (suc n) parents root slot ≡ true
descends-root n parents root slot parent is same =
    descends-some n parents root slot parent is ∙ ap (λ b. b || descends_within n parents root parent) (eq-eqb parent root same)

pub descends-on : (n : ℕ) (parents : Parents) (root slot parent : ℕ) → parents slot ≡ Some parent → (parent == root) ≡ false →
    descends_within (suc n) parents root slot ≡ descends_within n parents root parent
descends-on n parents root slot parent is other =
    descends-some n parents root slot parent is ∙ ap (λ b. b || descends_within n parents root parent) other

-- what passes the test descends
pub descendant-from_test : (n : ℕ) (slots : Slots) (root slot : ℕ) → descends_within n (parent_at slots) root slot ≡ true → Descendant slots root slot
descendant-from_test zero slots root slot test = absurd (let clash : false ≡ true = sym (descends-zero (parent_at slots) root slot) ∙ test in cc)
descendant-from_test (suc n) slots root slot test =
    elim (parent_at slots slot) as (λ o. parent_at slots slot ≡ o → Descendant slots root slot) [
      | None ↦ λ is. absurd (let clash : false ≡ true = sym (descends-none (suc n) (parent_at slots) root slot is) ∙ test in cc)
      | Some parent ↦ λ is. elim (eqb_tells parent root) [
        | inl here ↦ child slot (is ∙ ap (λ p. Some p) here.1)
        | inr other ↦ deeper slot parent is (descendant-from_test n slots root parent
            (sym (descends-on n (parent_at slots) root slot parent is other.0) ∙ test))
      ]
    ] refl

-- a slot that is found and passes the test descends
pub found-descends : (slots : Slots) (root : ℕ) (found : Option ℕ) → IfSome found (λ slot. IsTrue (is_descendant slots root slot)) →
    IfSome found (Descendant slots root)
found-descends slots root None known = known
found-descends slots root (Some slot) known = descendant-from_test (depth_of slots slot) slots root slot known

-- a depth below its bound is the same by a greater bound
pub depth-stable : (n : ℕ) (parents : Parents) (slot : ℕ) → depth_within n parents slot < n → depth_within (suc n) parents slot ≡ depth_within n parents slot
depth-stable zero parents slot below = absurd (omega arith)
depth-stable (suc n) parents slot below =
    elim (parents slot) as (λ o. parents slot ≡ o → depth_within (suc (suc n)) parents slot ≡ depth_within (suc n) parents slot) [
      | None ↦ λ is. depth-none (suc (suc n)) parents slot is ∙ sym (depth-none (suc n) parents slot is)
      | Some parent ↦ λ is.
          let one = depth-some n parents slot parent is in
          let two = depth-some (suc n) parents slot parent is in
          omega (arith, one, two, depth-stable n parents parent (omega (arith, one, below)))
    ] refl

-- a child is one deeper
pub depth-child : (slots : Slots) (slot parent : ℕ) → IsDerivation slots → parent_at slots slot ≡ Some parent → depth_of slots slot ≡ depth_of slots parent + 1
depth-child slots slot parent tree is =
    let one = depth-some 255 (parent_at slots) slot parent is in
    omega (arith, one, depth-stable 255 (parent_at slots) parent (omega (arith, one, tree.shallow slot)))

-- what descends passes the test
pub test-from_descendant : (slots : Slots) (root slot : ℕ) → IsDerivation slots → Descendant slots root slot → is_descendant slots root slot ≡ true
test-from_descendant slots root slot tree (child _ is) =
    ap (λ n. descends_within n (parent_at slots) root slot) (depth-child slots slot root tree is ∙ add-one (depth_of slots root))
    ∙ descends-root (depth_of slots root) (parent_at slots) root slot root is refl
test-from_descendant slots root slot tree (deeper _ parent is above) =
    let more = test-from_descendant slots root parent tree above in
    ap (λ n. descends_within n (parent_at slots) root slot) (depth-child slots slot parent tree is ∙ add-one (depth_of slots parent))
    ∙ descends-some (depth_of slots parent) (parent_at slots) root slot parent is
    ∙ ap (λ b. parent == root || b) more ∙ or-true (parent == root)

-- a full slot is open
pub full-open : (slots : Slots) (slot : ℕ) → IsFull slots slot → IsOpen slots slot
full-open slots slot full =
    elim (slots slot) as (λ o. slots slot ≡ o → IsOpen slots slot) [
      | None ↦ λ is. absurd (let clash : false ≡ true = ap (λ o. not (is_empty (option_map_or (λ h. h.capability) o Empty))) (sym is) ∙ full in cc)
      | Some held ↦ λ is. ap is_some is
    ] refl

-- the parent of a slot that holds an entry
pub parent-held : (slots : Slots) (slot : ℕ) (held : Entry) → slots slot ≡ Some held → parent_at slots slot ≡ held.parent
parent-held slots slot held is = ap (λ o. option_map_or (λ h. h.parent) o None) is

-- what descends is full
pub descendant-full : (slots : Slots) (root slot : ℕ) → IsDerivation slots → is_descendant slots root slot ≡ true → IsFull slots slot
descendant-full slots root slot tree test =
    elim (parent_at slots slot) as (λ o. parent_at slots slot ≡ o → IsFull slots slot) [
      | None ↦ λ is. absurd (let clash : false ≡ true = sym (descends-none (depth_of slots slot) (parent_at slots) root slot is) ∙ test in cc)
      | Some parent ↦ λ is. tree.child_full slot parent is
    ] refl

-- no slot is listed twice, and one that is listed is full
pub order-once : (order : List ℕ) (slots : Slots) → IsOrderOf order slots → (slot : ℕ) → times_in order slot ≤ 1
order-once order slots lists = λ slot.
    omega (arith, lists slot, elim (is_full slots slot) as (λ b. (if b then 1 else 0) ≤ 1) [ true ↦ omega arith | false ↦ omega arith ])

pub listed-full : (order : List ℕ) (slots : Slots) (slot : ℕ) → IsOrderOf order slots → 1 ≤ times_in order slot → IsFull slots slot
listed-full order slots slot lists found =
    elim (is_full slots slot) as (λ b. is_full slots slot ≡ b → IsFull slots slot) [
      | true ↦ λ is. is
      | false ↦ λ is. absurd (omega (arith, found, lists slot ∙ ap (λ b. if b then 1 else 0) is))
    ] refl

-- each descendant is listed once
pub descendants-once : (order : List ℕ) (slots : Slots) (root slot : ℕ) → IsDerivation slots → IsOrderOf order slots →
    times_in (descendants order slots root) slot ≡ (if is_descendant slots root slot then 1 else 0)
descendants-once order slots root slot tree lists =
    times-filter (is_descendant slots root) order slot
    ∙ elim (is_descendant slots root slot) as (λ b. is_descendant slots root slot ≡ b → (if b then times_in order slot else 0) ≡ (if b then 1 else 0)) [
      | true ↦ λ is. lists slot ∙ ap (λ b. if b then 1 else 0) (descendant-full slots root slot tree is)
      | false ↦ λ is. refl
    ] refl
