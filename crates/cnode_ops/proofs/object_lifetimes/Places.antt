-- The place of a new object: nothing is there, and what is at it when its room is made.
use Rattle.std.proofs.Common.{ℕ, ◌≡◌, ◌∙◌, ◌+◌, ◌/◌, ◌%◌, ◌^◌, ◌<◌, inl, inr, Bool, true, false, if◌then◌else◌, Option, Some, None, IsSome, option_map, List}
use Rattle.std.proofs.Common.{pow_pos, refl, sym, ap, subst, arith}
use Rattle.kernel_invariant.proofs.Laws.{alone, slots-alone, some-one, window-apart}
use Rattle.kernel_invariant.specs.Growing.{Growing}
use Rattle.model.proofs.Ancestors.{full-open}
use Rattle.model.proofs.SlotChanges.{capability_of, full-same, parent_of}
use Rattle.model.specs.Capabilities.Slots.{IsFull, IsOpen, OutsideSlots, Slots, depth_of, depth_within, empty_entry, is_within, parent_at}
use Rattle.model.specs.Kernel.Kinds.{kind_of}
use Rattle.model.specs.Kernel.Removal.{slot_count}
use Rattle.model.specs.Kernel.Retype.{NewObject, object, object_bits, with_new_slots}
use Rattle.model.specs.Kernel.State.{State, slot_of}
use Rattle.model.specs.declared.slot_entries.Entry.{Entry}

-- what holds of one holds of each that is it
pub of-some : (Holds : ℕ → Type 0) (one x : ℕ) → Holds one → Some one ≡ Some x → Holds x
of-some Holds one x holds is = let same : one ≡ x = cc is in subst Holds same holds

module _ (s : State) (kind : NewObject) (place : ℕ) (old : List ℕ) (growing : Growing s old place (place + 2 ^ object_bits kind)) where
  pub place-closed : OutsideSlots s.slots place (2 ^ object_bits kind)
  place-closed = growing.free.slots

  pub place-free : s.objects place ≡ None
  place-free = elim (s.objects place) as (λ o. s.objects place ≡ o → s.objects place ≡ None) [
    | None ↦ λ none. none
    | Some o ↦ λ some.
        let own = pow_pos (object_bits (kind_of o)) in
        let new = pow_pos (object_bits kind) in
        absurd (elim (growing.free.objects place (kind_of o) (ap (option_map kind_of) some))
        [ inl before ↦ omega (arith, before, own) | inr behind ↦ omega (arith, behind, new) ])
  ] refl

  pub place-near : place < 2 ^ s.memory_bits
  place-near = let inside = growing.inside in let new = pow_pos (object_bits kind) in omega (arith, inside, new)

  module _ (room : Slots) (sixteenth : place % 16 ≡ 0) (opens : room ≡ with_new_slots (alone kind place) s.slots) where
    pub room-of_open : (x : ℕ) → IsOpen s.slots x → room x ≡ s.slots x
    room-of_open x was =
        ap (λ (f : Slots). f x) opens
        ∙ ap (λ (b : Bool). if b then Some empty_entry else s.slots x) (some-one kind place (λ at. is_within (slot_of at 0) (slot_count (object kind)) x))
        ∙ ap (λ (b : Bool). if b then Some empty_entry else s.slots x)
        (window-apart s kind place (place + 2 ^ object_bits kind) place x growing.free (omega arith) (omega arith) sixteenth was)

    pub room-full : (x : ℕ) → IsFull s.slots x → IsFull room x
    room-full x full = full-same s.slots room x (ap capability_of (room-of_open x (full-open s.slots x full))) full

    -- a slot that was opened had no parent before, and has none now
    room-parent : (x : ℕ) → parent_at room x ≡ parent_at s.slots x
    room-parent x = elim (s.slots x) as (λ e. s.slots x ≡ e → parent_at room x ≡ parent_at s.slots x) [
      | Some e ↦ λ some. ap parent_of (room-of_open x (subst (λ (o : Option Entry). IsSome o) (sym some) refl))
      | None ↦ λ none.
          ap parent_of (ap (λ (f : Slots). f x) opens ∙ slots-alone kind place x s.slots)
          ∙ elim (is_within (place / 16) (slot_count (object kind)) x) as (λ b. parent_of (if b then Some empty_entry else s.slots x) ≡ parent_at s.slots x) [
            | true ↦ ap parent_of (sym none)
            | false ↦ refl
          ]
    ] refl

    pub room-depth : (x : ℕ) → depth_of room x ≡ depth_of s.slots x
    room-depth x = ap (λ (parents : ℕ → Option ℕ). depth_within 256 parents x) (λ i y. room-parent y i)
