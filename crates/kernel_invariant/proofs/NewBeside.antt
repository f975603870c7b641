-- What one more object leaves of the slots of before.
use Rattle.std.proofs.Common.{ℕ, ◌≡◌, ◌≢◌, ◌∙◌, ◌+◌, ◌-◌, ◌*◌, ◌/◌, ◌%◌, ◌^◌, ◌≤◌, inl, inr, Bool, true, false, not, IsSome, if◌then◌else◌, Option, Some, None}
use Rattle.std.proofs.Common.{refl, sym, ap, subst, arith}
use Rattle.std.proofs.lemmas.Bool.{cases_lt}
use Rattle.kernel_invariant.proofs.OneMore.{outside-within, some-one}
use Rattle.kernel_invariant.specs.Growing.{one_placed}
use Rattle.model.proofs.Ancestors.{full-open}
use Rattle.model.proofs.SlotChanges.{capability_of, full-not-empty, full-same, parent_of, within-bounds}
use Rattle.model.specs.Capabilities.Slots.{IsDerivation, IsFull, IsOpen, capability_at, depth_of, empty_entry, is_empty, is_within, parent_at}
use Rattle.model.specs.Kernel.Removal.{slot_count}
use Rattle.model.specs.Kernel.Retype.{NewObject, NewObjects, first_capability, object, object_bits, place_of_new, with_new_slots}
use Rattle.model.specs.Kernel.State.{State, slot_of}
use Rattle.model.specs.declared.slot_entries.Entry.{Entry}
use Rattle.soundness.proofs.Laws.{depth-leaves, new-slots, slots-fit}
use Rattle.soundness.specs.Unused.{IsFree}

-- where memory is free, the slots of a new object are closed, and an open slot is none of them
pub window-apart : (s : State) (kind : NewObject) (from to place w : ℕ) → IsFree s from to → from ≤ place → place + 2 ^ object_bits kind ≤ to → place % 16 ≡ 0
    → IsOpen s.slots w → is_within (slot_of place 0) (slot_count (object kind)) w ≡ false
window-apart s kind from to place w free low high aligned is_open =
    elim (is_within (slot_of place 0) (slot_count (object kind)) w) as (λ b. is_within (slot_of place 0) (slot_count (object kind)) w ≡ b → b ≡ false) [
      | true ↦ λ inside.
          let bounds = within-bounds (slot_of place 0) (slot_count (object kind)) w inside in
          let start = bounds.0 in
          let end = bounds.1 in
          let count = new-slots kind in
          let fit = slots-fit kind in
          let none : s.slots (w * 16 / 16) ≡ None = free.slots (w * 16) (omega (arith, low, aligned, start)) (omega (arith, high, aligned, end, count, fit)) in
          let at : w * 16 / 16 ≡ w = omega arith in
          absurd (let clash : false ≡ true = subst (λ (o : Option Entry). IsSome o) (ap s.slots (sym at) ∙ none) is_open in cc)
      | false ↦ λ _. refl
    ] refl

module _ (s : State) (kind : NewObject) (place slot parent : ℕ) where
  abbrev single : NewObjects
  single = record { kind = kind; first = place; count = 1 }

  -- whether a slot is one of the new object's
  abbrev is_new : ℕ → Bool
  is_new x = is_within (slot_of place 0) (slot_count (object kind)) x

  -- every slot but the first capability's is the new object's, or as it was
  beside-first : (x : ℕ) → x ≢ slot → (one_placed s kind place slot parent).slots x ≡ (if is_new x then Some empty_entry else s.slots x)
  beside-first x other =
      let first_one : Option Entry = Some (record { capability = first_capability kind (place_of_new single (x - slot)); parent = Some parent }) in
      let apart : is_within slot 1 x ≡ false =
      outside-within slot 1 x (elim (cases_lt x slot) [
        | inl before ↦ inl before
        | inr from ↦ inr (omega (arith, from, other))
      ]) in
      ap (λ (b : Bool). if b then first_one else with_new_slots single s.slots x) apart
      ∙ ap (λ (b : Bool). if b then Some empty_entry else s.slots x) (some-one kind place (λ at. is_within (slot_of at 0) (slot_count (object kind)) x))

  pub rest-empty : (w : ℕ) → w ≢ slot → s.slots w ≡ Some empty_entry → (one_placed s kind place slot parent).slots w ≡ Some empty_entry
  rest-empty w other is =
      beside-first w other ∙ elim (is_new w) as (λ b. (if b then Some empty_entry else s.slots w) ≡ Some empty_entry) [ true ↦ refl | false ↦ is ]

  module _ (from to : ℕ) (free : IsFree s from to) (low : from ≤ place) (high : place + 2 ^ object_bits kind ≤ to) (aligned : place % 16 ≡ 0)
      (empty : s.slots slot ≡ Some empty_entry) where
    -- a full slot is as it was
    pub full-as_before : (x : ℕ) → IsFull s.slots x → (one_placed s kind place slot parent).slots x ≡ s.slots x
    full-as_before x full =
        beside-first x (full-not-empty s.slots x slot full empty)
        ∙ ap (λ (b : Bool). if b then Some empty_entry else s.slots x) (window-apart s kind from to place x free low high aligned (full-open s.slots x full))

    pub parent-full : IsFull s.slots parent → IsFull (one_placed s kind place slot parent).slots parent
    parent-full full = full-same s.slots (one_placed s kind place slot parent).slots parent (ap capability_of (full-as_before parent full)) full

    pub parent-depth : IsDerivation s.slots → IsFull s.slots parent → depth_of (one_placed s kind place slot parent).slots parent ≡ depth_of s.slots parent
    parent-depth derivation full =
        depth-leaves 256 (parent_at s.slots) (parent_at (one_placed s kind place slot parent).slots) (λ x. is_empty (capability_at s.slots x))
        (λ x holds. ap parent_of (full-as_before x (ap not holds))) (λ x p is. full-holds p (derivation.parent_full x p is)) parent (full-holds parent full)
      where
        full-holds : (x : ℕ) → IsFull s.slots x → is_empty (capability_at s.slots x) ≡ false
        full-holds x held = elim (is_empty (capability_at s.slots x)) as (λ b. not b ≡ true → b ≡ false) [
          | true ↦ λ is. absurd (let clash : false ≡ true = is in cc)
          | false ↦ λ _. refl
        ] held
