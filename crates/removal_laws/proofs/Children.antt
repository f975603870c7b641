-- Untyped memory loses its last child with one slot of a set, or with the others once that one is empty.
use Rattle.std.proofs.Common.{ℕ, ◌≡◌, ◌≢◌, ◌∙◌, ◌==◌, ◌/◌, ◌^◌, ◌<◌, ◌&&◌, ◌||◌, ◌⊎◌, inl, inr, Bool, true, false, not, if◌then◌else◌, Option, Some, None, refl}
use Rattle.std.proofs.Common.{sym, ap}
use Rattle.std.proofs.Math.Bool.{and-false, or-true}
use Rattle.std.proofs.lemmas.Bool.{eq-eqb, ne_eqb}
use Rattle.std.proofs.lemmas.Bool.Decides.{eqb_tells}
use Rattle.model.specs.Capabilities.Slots.{IsDerivation, IsFull, parent_at}
use Rattle.model.specs.Kernel.Removal.{SlotSet, ancestor_outside, is_some_slot, loses_last_child, new_parent}
use Rattle.model.specs.Kernel.State.{State}
use Rattle.model.proofs.Depths.{adopted_parent}
use Rattle.removal_laws.proofs.Found.{bool-iff, both, found, found-at, found-or, found-same, found-where, join, or-cases}
use Rattle.removal_laws.specs.Steps.{alone, less}
use Rattle.removal_laws.proofs.Lasts.{left-at, outside-at}
use Rattle.removal_laws.proofs.Keeping.{parent-out}
use Rattle.removal_laws.proofs.Parents.{outside-found, outside-none, outside-out}
use Rattle.removal_laws.proofs.Splits as splits

-- ---- a parent that is this slot

pub some-slot : (u : ℕ) (p : Option ℕ) → is_some_slot u p ≡ true → p ≡ Some u
some-slot u None is = absurd (let clash : false ≡ true = is in cc)
some-slot u (Some q) is = elim (eqb_tells q u) [ inl same ↦ ap (λ n. Some n) same.1 | inr other ↦ absurd (let clash : false ≡ true = sym other.0 ∙ is in cc) ]

pub slot-some : (u : ℕ) (p : Option ℕ) → p ≡ Some u → is_some_slot u p ≡ true
slot-some u p is = ap (is_some_slot u) is ∙ eq-eqb u u refl

table : (a1 a2 d b : Bool) → (d ≡ true → b ≡ true) → (b ≡ true → (a2 || d) ≡ true) → ((a1 || a2) && not b) ≡ ((a1 && not (a2 || d)) || (a2 && not b))
table true true d true forth back = refl
table true true d false forth back = refl
table true false true true forth back = refl
table true false true false forth back = absurd (let clash : false ≡ true = forth refl in cc)
table true false false true forth back = absurd (let clash : false ≡ true = back refl in cc)
table true false false false forth back = refl
table false true d b forth back = refl
table false false d b forth back = refl

not-not : (p : Bool) → not p ≡ true → p ≡ false
not-not true is = absurd (let clash : false ≡ true = is in cc)
not-not false is = refl

here-at : (y x : ℕ) → (y == x) ≡ true → y ≡ x
here-at y x is = elim (eqb_tells y x) [ inl at ↦ at.1 | inr other ↦ absurd (let clash : false ≡ true = sym other.0 ∙ is in cc) ]

apart-at : (y x : ℕ) → (y == x) ≡ false → y ≢ x
apart-at y x is = elim (eqb_tells y x) [ inl at ↦ absurd (let clash : true ≡ false = sym at.0 ∙ is in cc) | inr apart ↦ apart.1 ]

module _ (s : State) (set : SlotSet) (x : ℕ) (tree : IsDerivation s.slots) (near : (y : ℕ) → IsFull s.slots y → y < 2 ^ s.memory_bits / 16)
    (member : set x ≡ true) (full : IsFull s.slots x) (u : ℕ) (stays : set u ≡ false) where
  abbrev one : State
  one = splits.one s set x tree near member full

  abbrev rest : SlotSet
  rest = less set x

  apart : u ≢ x
  apart same = absurd (let clash : false ≡ true = sym stays ∙ ap set same ∙ member in cc)

  kept-child : (c : ℕ) → c ≢ x → parent_at s.slots c ≡ Some u → parent_at one.slots c ≡ Some u
  kept-child c other is =
      splits.parent-now s set x tree near member full c other
      ∙ ap (adopted_parent x (parent_at s.slots x)) is
      ∙ ap (λ b. if b then parent_at s.slots x else Some u) (ne_eqb u x apart)

  was-child : (c : ℕ) → c ≢ x → parent_at one.slots c ≡ Some u → IsFull s.slots c × ((parent_at s.slots c ≡ Some u) ⊎ (parent_at s.slots x ≡ Some u))
  was-child c other is =
      let now : adopted_parent x (parent_at s.slots x) (parent_at s.slots c) ≡ Some u = sym (splits.parent-now s set x tree near member full c other) ∙ is in
      elim (parent_at s.slots c) as (λ o. parent_at s.slots c ≡ o → IsFull s.slots c × ((o ≡ Some u) ⊎ (parent_at s.slots x ≡ Some u))) [
        | None ↦ λ none. absurd (let clash : None ≡ Some u = ap (adopted_parent x (parent_at s.slots x)) (sym none) ∙ now in cc)
        | Some p ↦ λ some. (
          tree.child_full c p some,
          elim (eqb_tells p x) [
            | inl at ↦ inr (ap (λ b. if b then parent_at s.slots x else Some p) (sym at.0) ∙ ap (adopted_parent x (parent_at s.slots x)) (sym some) ∙ now)
            | inr away ↦ inl (ap (λ b. if b then parent_at s.slots x else Some p) (sym away.0) ∙ ap (adopted_parent x (parent_at s.slots x)) (sym some) ∙ now)
          ],
        )
      ] refl

  -- a child in the set, and one left by the slot, by the set and by the others
  abbrev a : Bool
  a = found s.memory_bits (λ c. set c && is_some_slot u (parent_at s.slots c))

  abbrev a1 : Bool
  a1 = found s.memory_bits (λ c. alone x c && is_some_slot u (parent_at s.slots c))

  abbrev a2 : Bool
  a2 = found s.memory_bits (λ c. rest c && is_some_slot u (parent_at one.slots c))

  abbrev d : Bool
  d = found s.memory_bits (λ c. not (set c) && is_some_slot u (parent_at one.slots c))

  abbrev b : Bool
  b = found s.memory_bits (λ c. not (set c) && is_some_slot u (new_parent s set c))

  abbrev b1 : Bool
  b1 = found s.memory_bits (λ c. not (alone x c) && is_some_slot u (new_parent s (alone x) c))

  abbrev b2 : Bool
  b2 = found s.memory_bits (λ c. not (rest c) && is_some_slot u (new_parent one rest c))

  is-rest : (c : ℕ) → c ≢ x → set c ≡ true → rest c ≡ true
  is-rest c other is = ap (λ e. set c && not e) (ne_eqb c x other) ∙ ap (λ e. e && true) is

  of-rest : (c : ℕ) → rest c ≡ true → (set c ≡ true) × (c ≢ x)
  of-rest c is = elim (eqb_tells c x) [
    | inl at ↦ absurd (let clash : false ≡ true = sym (and-false (set c)) ∙ ap (λ e. set c && not e) (sym at.0) ∙ is in cc)
    | inr away ↦ ((both (set c) _ is).0, away.1)
  ]

  not-x : (c : ℕ) → set c ≡ false → c ≢ x
  not-x c out same = absurd (let clash : false ≡ true = sym out ∙ ap set same ∙ member in cc)

  at-a2 : (z : ℕ) → rest z ≡ true → parent_at one.slots z ≡ Some u → a2 ≡ true
  at-a2 z in_rest is = found-at s.memory_bits z _ (near z (was-child z (of-rest z in_rest).1 is).0) (join (rest z) _ in_rest (slot-some u _ is))

  split-a : a ≡ (a1 || a2)
  split-a = bool-iff a (a1 || a2)
      (λ is.
      let c = found-where s.memory_bits _ is in
      let parts = both (set c.0) _ c.1 in
      let below = some-slot u _ parts.1 in
      elim (eqb_tells c.0 x) [
        | inl at ↦ ap (λ e. e || a2) (found-at s.memory_bits c.0 (λ y. alone x y && is_some_slot u (parent_at s.slots y))
            (near c.0 (tree.child_full c.0 u below)) (join (alone x c.0) _ at.0 parts.1))
        | inr away ↦ ap (λ e. a1 || e) (at-a2 c.0 (is-rest c.0 away.1 parts.0) (kept-child c.0 away.1 below)) ∙ or-true a1
      ])
      (λ is. elim (or-cases a1 a2 is) [
        | inl one_is ↦
            let c = found-where s.memory_bits _ one_is in
            let parts = both (alone x c.0) _ c.1 in
            found-at s.memory_bits c.0 (λ y. set y && is_some_slot u (parent_at s.slots y)) (near c.0 (tree.child_full c.0 u (some-slot u _ parts.1)))
            (join (set c.0) _ (elim (eqb_tells c.0 x) [
              | inl at ↦ ap set at.1 ∙ member
              | inr away ↦
                  absurd (let clash : false ≡ true = sym away.0 ∙ parts.0 in cc)
            ]) parts.1)
        | inr two_is ↦
            let c = found-where s.memory_bits _ two_is in
            let parts = both (rest c.0) _ c.1 in
            let inner = of-rest c.0 parts.0 in
            let was = was-child c.0 inner.1 (some-slot u _ parts.1) in
            elim was.1 [
              | inl direct ↦ found-at s.memory_bits c.0 (λ y. set y && is_some_slot u (parent_at s.slots y)) (near c.0 was.0)
                  (join (set c.0) _ inner.0 (slot-some u _ direct))
              | inr through ↦ found-at s.memory_bits x (λ y. set y && is_some_slot u (parent_at s.slots y)) (near x full)
                  (join (set x) _ member (slot-some u _ through))
            ]
      ])

  out-at : (c : ℕ) (in_set : Bool) → set c ≡ in_set → (not in_set && is_some_slot u (new_parent s (alone x) c))
      ≡ (not in_set && is_some_slot u (parent_at one.slots c))
  out-at c true is = refl
  out-at c false is = ap (is_some_slot u) (sym (parent-out s (alone x) c (ne_eqb c x (not-x c is))))

  split-b1 : b1 ≡ (a2 || d)
  split-b1 =
      found-same s.memory_bits _ _ (λ c.
      outside-at (set c) (c == x) (is_some_slot u (new_parent s (alone x) c)) (is_some_slot u (parent_at one.slots c)) (λ is. ap set (here-at c x is) ∙ member)
      (λ is. ap (is_some_slot u) (parent-out s (alone x) c is))
      ∙ ap (λ e. (rest c && is_some_slot u (parent_at one.slots c)) || e) (out-at c (set c) refl))
      ∙ found-or s.memory_bits (λ c. rest c && is_some_slot u (parent_at one.slots c)) (λ c. not (set c) && is_some_slot u (parent_at one.slots c))

  split-b2 : b2 ≡ b
  split-b2 =
      found-same s.memory_bits _ _ (λ c.
      left-at (set c) (c == x) (is_some_slot u (new_parent s set c)) (is_some_slot u (new_parent one rest c)) (λ is. ap set (here-at c x is) ∙ member)
      (λ is. ap (λ p. is_some_slot u (ancestor_outside 256 rest one.slots p))
      (ap (parent_at one.slots) (here-at c x is) ∙ splits.root-now s set x tree near member full) ∙ ap (is_some_slot u) (outside-none 256 rest one.slots))
      (λ is. ap (is_some_slot u) (sym (splits.new-parent-split s set x tree near member full c (apart-at c x is)))))

  forth : d ≡ true → b ≡ true
  forth is =
      let c = found-where s.memory_bits _ is in
      let parts = both (not (set c.0)) _ c.1 in
      let out : set c.0 ≡ false = not-not (set c.0) parts.0 in
      let below = some-slot u _ parts.1 in
      let away = not-x c.0 out in
      let above : new_parent s set c.0 ≡ Some u =
      splits.new-parent-split s set x tree near member full c.0 away
      ∙ ap (ancestor_outside 256 rest one.slots) below
      ∙ outside-out 255 rest one.slots u (ap (λ e. e && not (u == x)) stays)
      in
      found-at s.memory_bits c.0 (λ y. not (set y) && is_some_slot u (new_parent s set y)) (near c.0 (was-child c.0 away below).0)
      (join (not (set c.0)) _ parts.0 (slot-some u _ above))

  back : b ≡ true → (a2 || d) ≡ true
  back is =
      let c = found-where s.memory_bits _ is in
      let parts = both (not (set c.0)) _ c.1 in
      let away = not-x c.0 (not-not (set c.0) parts.0) in
      let found_up : ancestor_outside 256 rest one.slots (parent_at one.slots c.0) ≡ Some u =
      sym (splits.new-parent-split s set x tree near member full c.0 away) ∙ some-slot u _ parts.1 in
      elim (outside-found 256 rest one.slots (parent_at one.slots c.0) u found_up) [
        | inl direct ↦
            ap (λ e. a2 || e) (found-at s.memory_bits c.0 (λ y. not (set y) && is_some_slot u (parent_at one.slots y)) (near c.0 (was-child c.0 away direct).0)
            (join (not (set c.0)) _ parts.0 (slot-some u _ direct)))
            ∙ or-true a2
        | inr z ↦ ap (λ e. e || d) (at-a2 z.0 z.1 z.2)
      ]

  pub loses-split : loses_last_child s set u ≡ (loses_last_child s (alone x) u || loses_last_child one rest u)
  loses-split =
      ap (λ e. e && not b) split-a
      ∙ table a1 a2 d b forth back
      ∙ ap (λ e. (a1 && not e) || (a2 && not b)) (sym split-b1)
      ∙ ap (λ e. (a1 && not b1) || (a2 && not e)) (sym split-b2)
