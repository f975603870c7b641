-- Whether an object is named by a slot that stays: another slot names it too, or one beside those that go.
use Rattle.std.proofs.Common.{ℕ, ◌≡◌, ◌∙◌, ◌==◌, ◌+◌, ◌<◌, ◌&&◌, inl, inr, Bool, true, false, not, Some, refl, sym, ap, subst, arith}
use Rattle.std.proofs.lemmas.Bool.{eq-eqb, ne_eqb}
use Rattle.std.proofs.lemmas.Bool.Decides.{eqb_tells}
use Rattle.cnode_ops.specs.Refusals.{goes, is_named_beside, stays}
use Rattle.cnode_ops.specs.Sets.{set_of}
use Rattle.cnode_ops.specs.declared.sets.Removed.{Removed}
use Rattle.cnode_ops.specs.declared.sets.Removed.TheVariants.{Below, One}
use Rattle.cnode_ops.proofs.FullSlots.{passes-full, same-number}
use Rattle.cnode_ops.proofs.SomeSlot.{some-at, some-where}
use Rattle.cnode_ops.proofs.StillNamed.{named-so, so-named}
use Rattle.model.proofs.Ancestors.{full-open}
use Rattle.model.specs.Capabilities.CapabilityKinds.{names_object}
use Rattle.model.specs.Capabilities.Slots.{IsFull, IsOpen, Slots, capability_at, is_full}
use Rattle.removal_laws.proofs.Laws.{both, join}
use Rattle.slots.specs.Kin.{IsShared, IsSharedBeside, object_at}

module _ (slots : Slots) (size : ℕ) (near : (slot : ℕ) → IsOpen slots slot → slot < size) where
  -- a slot that stays names the object
  found : (set : Removed) (offset other : ℕ) → object_at slots other ≡ Some offset → set_of slots set other ≡ false →
      is_named_beside slots size set offset ≡ true
  found set offset other names beside =
      let named : names_object offset (capability_at slots other) ≡ true = so-named (object_at slots other) offset names in
      let full : is_full slots other ≡ true = passes-full slots (names_object offset) refl other named in
      let here : other < 0 + size = omega (arith, near other (full-open slots other full)) in
      some-at 0 size other (λ slot. names_object offset (capability_at slots slot) && stays slots set slot) (omega arith) here
      (join (names_object offset (capability_at slots other)) (stays slots set other) named
      (join (is_full slots other) (not (set_of slots set other)) full (ap not beside)))

  not-so : (b : Bool) → not b ≡ true → b ≡ false
  not-so false is = refl
  not-so true is = absurd (let clash : false ≡ true = is in cc)

  -- what is found stays and names it
  told : (set : Removed) (offset : ℕ) → is_named_beside slots size set offset ≡ true → (other : ℕ) × (object_at slots other ≡ Some offset)
      × (set_of slots set other ≡ false)
  told set offset is =
      let at = some-where 0 size (λ slot. names_object offset (capability_at slots slot) && stays slots set slot) is in
      let parts = both (names_object offset (capability_at slots at.0)) (stays slots set at.0) at.3 in
      let stay = both (is_full slots at.0) (not (set_of slots set at.0)) parts.1 in
      (at.0, named-so (object_at slots at.0) offset parts.0, not-so (set_of slots set at.0) stay.1)

  -- an answer with both implications is the value
  decided : (result value : Bool) → (result ≡ true → value ≡ true) → (result ≡ false → value ≡ true → ⊥) → result ≡ value
  decided true value holds fails = sym (holds refl)
  decided false value holds fails = elim value as (λ b. value ≡ b → false ≡ b) [ false ↦ λ _. refl | true ↦ λ is. absurd (fails refl is) ] refl

  only-slot : (only slot : ℕ) → goes slots (One only) slot ≡ true → slot ≡ only
  only-slot only slot going = elim (eqb_tells slot only) [
    | inl here ↦ here.1
    | inr apart ↦ absurd (let clash : false ≡ true = sym apart.0 ∙ (both (is_full slots slot) (slot == only) going).1 in cc)
  ]

  pub only-full : (set : Removed) (only slot : ℕ) → set ≡ One only → goes slots set slot ≡ true → IsFull slots only
  only-full set only slot is going =
      let here : goes slots (One only) slot ≡ true = subst (λ (s : Removed). goes slots s slot ≡ true) is going in
      ap (is_full slots) (sym (only-slot only slot here)) ∙ (both (is_full slots slot) (slot == only) here).0

  of-one : (only slot offset : ℕ) (result : Bool) → goes slots (One only) slot ≡ true → object_at slots slot ≡ Some offset
      → (result ≡ true → IsShared slots only) → (result ≡ false → IsShared slots only → ⊥) → result ≡ is_named_beside slots size (One only) offset
  of-one only slot offset result going names shared alone =
      let same : slot ≡ only = only-slot only slot going in
      let named : object_at slots only ≡ Some offset = ap (object_at slots) (sym same) ∙ names in
      decided result (is_named_beside slots size (One only) offset)
      (λ yes.
      let is : IsShared slots only = shared yes in
      let own : is.offset ≡ offset = same-number is.offset offset (sym is.own ∙ named) in
      found (One only) offset is.other (is.names ∙ ap Some own) (ne_eqb is.other only is.apart))
      (λ none value.
      let at = told (One only) offset value in
      alone none (record {
        offset = offset;
        own = named;
        other = at.0;
        apart = λ here. absurd (let clash : false ≡ true = sym at.2 ∙ eq-eqb at.0 only here in cc);
        names = at.1;
      }))

  pub one-beside : (set : Removed) (only slot offset : ℕ) (result : Bool) → set ≡ One only → goes slots set slot ≡ true → object_at slots slot ≡ Some offset
      → (result ≡ true → IsShared slots only) → (result ≡ false → IsShared slots only → ⊥) → result ≡ is_named_beside slots size set offset
  one-beside set only slot offset result is going names shared alone =
      subst (λ (s : Removed). goes slots s slot ≡ true → result ≡ is_named_beside slots size s offset) (sym is)
      (λ here. of-one only slot offset result here names shared alone) going

  pub below-beside : (set : Removed) (root slot offset : ℕ) (result : Bool) → set ≡ Below root → object_at slots slot ≡ Some offset
      → (result ≡ true → IsSharedBeside slots root slot) → (result ≡ false → IsSharedBeside slots root slot → ⊥) →
      result ≡ is_named_beside slots size set offset
  below-beside set root slot offset result which names shared alone =
      subst (λ (s : Removed). result ≡ is_named_beside slots size s offset) (sym which)
      (decided result (is_named_beside slots size (Below root) offset)
      (λ yes.
      let is : IsSharedBeside slots root slot = shared yes in
      let own : is.offset ≡ offset = same-number is.offset offset (sym is.own ∙ names) in
      found (Below root) offset is.other (is.names ∙ ap Some own) is.beside)
      (λ none value.
      let at = told (Below root) offset value in
      alone none (record { offset = offset; own = names; other = at.0; beside = at.2; names = at.1 })))
