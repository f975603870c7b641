-- Slots outside a set, in which nothing outside derives from what is inside: what is above them is outside too.
use Rattle.std.proofs.Common.{ℕ, zero, suc, ◌≡◌, ◌∙◌, ◌==◌, ◌&&◌, ◌||◌, Bool, true, false, Option, Some, None, refl, sym, ap, subst}
use Rattle.std.specs.Option.{option_map_or}
use Rattle.std.proofs.lemmas.Bool.{false≢true, ne_eqb}
use Rattle.std.proofs.lemmas.Option.{none-some, same_Some}
use Rattle.model.specs.Capabilities.Slots.{Slots, descends_within, parent_at}
use Rattle.model.specs.Kernel.Removal.{SlotSet, ancestor_outside, is_some_slot}
use Rattle.removal_laws.proofs.Laws.{outside-in, outside-none, outside-out, outside-zero}

-- no slot that is inside
abbrev pub IsAway : SlotSet → Option ℕ → Type 0
IsAway mine o = (p : ℕ) → o ≡ Some p → mine p ≡ false

abbrev pub StaysAway : SlotSet → Slots → Type 0
StaysAway mine slots = (slot parent : ℕ) → mine slot ≡ false → parent_at slots slot ≡ Some parent → mine parent ≡ false

pub nothing-away : (mine : SlotSet) → IsAway mine None
nothing-away mine p is = absurd (none-some p is)

pub and-none : (a : Bool) → (a && false) ≡ false
and-none true = refl
and-none false = refl

pub apart-from : (mine : SlotSet) (p root : ℕ) → mine p ≡ false → mine root ≡ true → (p == root) ≡ false
apart-from mine p root other own = ne_eqb p root (λ same. false≢true (sym other ∙ ap mine same ∙ own))

-- ---- one map

module _ (mine : SlotSet) (slots : Slots) (out : StaysAway mine slots) where
  pub above-away : (slot : ℕ) → mine slot ≡ false → IsAway mine (parent_at slots slot)
  above-away slot other p is = out slot p other is

  pub ancestor-away : (n : ℕ) (set : SlotSet) (o : Option ℕ) → IsAway mine o → IsAway mine (ancestor_outside n set slots o)
  ancestor-away n set None beyond = subst (λ (x : Option ℕ). IsAway mine x) (sym (outside-none n set slots)) (nothing-away mine)
  ancestor-away zero set (Some p) beyond = subst (λ (x : Option ℕ). IsAway mine x) (sym (outside-zero set slots (Some p))) (nothing-away mine)
  ancestor-away (suc n) set (Some p) beyond = elim (set p) as (λ b. set p ≡ b → IsAway mine (ancestor_outside (suc n) set slots (Some p))) [
    | true ↦ λ is.
        subst (λ (x : Option ℕ). IsAway mine x) (sym (outside-in n set slots p is))
        (ancestor-away n set (parent_at slots p) (above-away p (beyond p refl)))
    | false ↦ λ is. subst (λ (x : Option ℕ). IsAway mine x) (sym (outside-out n set slots p is)) beyond
  ] refl

  -- what is outside descends from nothing inside
  pub descends-away : (n root slot : ℕ) → mine root ≡ true → mine slot ≡ false → descends_within n (parent_at slots) root slot ≡ false
  unfolding descends_within
  descends-away zero root slot own other = refl
  descends-away (suc n) root slot own other =
      elim (parent_at slots slot)
      as (λ o. parent_at slots slot ≡ o → option_map_or (λ p. p == root || descends_within n (parent_at slots) root p) o false ≡ false) [
        | None ↦ λ _. refl
        | Some p ↦ λ is.
            let further : mine p ≡ false = out slot p other is in
            ap (λ b. b || descends_within n (parent_at slots) root p) (apart-from mine p root further own) ∙ descends-away n root p own further
      ] refl

  pub up-away : (n root : ℕ) (o : Option ℕ) → mine root ≡ true → IsAway mine o
      → option_map_or (λ p. p == root || descends_within n (parent_at slots) root p) o false ≡ false
  up-away n root None own beyond = refl
  up-away n root (Some p) own beyond =
      let further : mine p ≡ false = beyond p refl in
      ap (λ b. b || descends_within n (parent_at slots) root p) (apart-from mine p root further own) ∙ descends-away n root p own further

  -- what descends from a slot inside derives from one
  pub descends-below : (n root slot : ℕ) → mine root ≡ true → descends_within n (parent_at slots) root slot ≡ true
      → (p : ℕ) × (parent_at slots slot ≡ Some p) × (mine p ≡ true)
  unfolding descends_within
  descends-below zero root slot own is = absurd (false≢true is)
  descends-below (suc n) root slot own is = by-parent (parent_at slots slot) refl is
    where
      by-parent : (o : Option ℕ) → parent_at slots slot ≡ o → option_map_or (λ p. p == root || descends_within n (parent_at slots) root p) o false ≡ true
          → (p : ℕ) × (parent_at slots slot ≡ Some p) × (mine p ≡ true)
      by-parent None none clash = absurd (false≢true clash)
      by-parent (Some p) up there = elim (mine p) as (λ b. mine p ≡ b → (q : ℕ) × (parent_at slots slot ≡ Some q) × (mine q ≡ true)) [
        | true ↦ λ here. (p, up, here)
        | false ↦ λ out. absurd (false≢true (sym (up-away n root (Some p) own (λ q same. ap mine (sym (same_Some p q same)) ∙ out)) ∙ there))
      ] refl

pub some-away : (mine : SlotSet) (slot : ℕ) (o : Option ℕ) → mine slot ≡ true → IsAway mine o → is_some_slot slot o ≡ false
some-away mine slot None own beyond = refl
some-away mine slot (Some p) own beyond = apart-from mine p slot (beyond p refl) own
