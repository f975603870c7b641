-- Slots that are none of the thread's stay as they are where own slots are removed.
use Rattle.std.proofs.Common.{ℕ, ◌≡◌, ◌∙◌, ◌==◌, ◌<◌, ◌&&◌, ◌||◌, inl, inr, Bool, true, false, not, if◌then◌else◌, Option, Some, None, option_map, is_some}
use Rattle.std.proofs.Common.{List, length, get_or, refl, sym, ap, subst, arith}
use Rattle.std.specs.Option.{option_map_or}
use Rattle.std.specs.List.{list_any, range_with_len}
use Rattle.std.proofs.lemmas.Bool.{and_parts, eqb-true, false≢true}
use Rattle.std.proofs.lemmas.List.Folds.{Any-from_list_any}
use Rattle.std.proofs.lemmas.List.FromFn.{get_or-range_with_len, length-range_with_len}
use Rattle.model.specs.Acceptance.NotedStates.{NotedSlot}
use Rattle.model.specs.Capabilities.CapabilityKinds.{is_handler_of, is_untyped}
use Rattle.model.specs.Capabilities.Slots.{IsFull, capability_at, empty_entry, is_empty, parent_at}
use Rattle.model.specs.Images.Described.{Numbered}
use Rattle.model.specs.Images.Image.{Image}
use Rattle.model.specs.Kernel.Removal.{SlotSet, kept, kept_entry, new_parent, slots_emptied, takes_last, with_bindings}
use Rattle.model.specs.Kernel.Soundness.{of_boot_area}
use Rattle.model.specs.Kernel.State.{State, binding_slot, boot_area_slots}
use Rattle.model.specs.declared.capabilities.Cap.TheVariants.{Empty}
use Rattle.model.specs.declared.slot_entries.Entry.{Entry}
use Rattle.headline.specs.invocations.Mirrors.{Mirrors}
use Rattle.headline.proofs.invocations.RealRemoval.{set-or-empty}
use Rattle.headline.proofs.invocations.RemovalSides.{own_set}
use Rattle.headline.proofs.invocations.OtherParents.{same-capability, same-parent}

line-few : (k d : ℕ) → k < length (range_with_len 0 64) → get_or (range_with_len 0 64) k d < 64
line-few k d less =
    let few : k < 64 = subst (λ (n : ℕ). k < n) (length-range_with_len 0 64) less in
    subst (λ (n : ℕ). n < 64) (sym (get_or-range_with_len 0 64 k d few)) (omega (arith, few))

or-none : (a b : Bool) → a ≡ false → (a || b) ≡ true → b ≡ true
or-none a b none is = sym (ap (λ c. c || b) none) ∙ is

module _ (image : Image) (t : Numbered) (s : State) (slots : List NotedSlot) (m : Mirrors image t s slots) (set : SlotSet)
    (inside : (slot : ℕ) → set slot ≡ true → own_set image t slot ≡ true)
    (pools : (slot : ℕ) → set slot ≡ true → is_untyped (capability_at s.slots slot) ≡ false) where
  abbrev all : SlotSet
  all = with_bindings s set

  module _ (slot : ℕ) (other : own_set image t slot ≡ false) where
    line-below : all slot ≡ true → slot < boot_area_slots s.boot_radix
    line-below is =
        let binds : ℕ → Bool = λ line. slot == binding_slot s line && takes_last s set (is_handler_of line) in
        let out : set slot ≡ false =
        elim (set slot) as (λ b. set slot ≡ b → b ≡ false) [ true ↦ λ here. absurd (false≢true (sym other ∙ inside slot here)) | false ↦ λ _. refl ] refl in
        let some = or-none (set slot) (list_any binds (range_with_len 0 64)) out is in
        let place = Any-from_list_any binds (range_with_len 0 64) some in
        let parts = and_parts (slot == binding_slot s place.1) (takes_last s set (is_handler_of place.1)) place.4 in
        let same : slot ≡ binding_slot s place.1 = eqb-true slot (binding_slot s place.1) parts.0 in
        let few : place.1 < 64 = subst (λ (n : ℕ). n < 64) place.3 (line-few place.0 place.1 place.2) in
        omega (arith, same, few)

    empty-kept : all slot ≡ true → Some empty_entry ≡ s.slots slot
    empty-kept is = by-entry (s.slots slot) refl
      where
        empty : capability_at s.slots slot ≡ Empty
        empty = elim (set-or-empty image t s slots m set inside slot is) [
          | inl here ↦ absurd (false≢true (sym other ∙ inside slot here))
          | inr none ↦ none
        ]

        by-parent : (held : Entry) → s.slots slot ≡ Some held → (p : Option ℕ) → held.parent ≡ p → None ≡ p
        by-parent held at None none = refl
        by-parent held at (Some p) up =
            let full : IsFull s.slots slot =
            m.all.sound.slots.derivation.child_full slot p (ap (λ (o : Option Entry). option_map_or (λ h. h.parent) o None) at ∙ up) in
            absurd (false≢true (sym (ap (λ c. not (is_empty c)) empty) ∙ full))

        by-entry : (o : Option Entry) → s.slots slot ≡ o → Some empty_entry ≡ o
        by-entry None none =
            let open_so : is_some (s.slots slot) ≡ true = (m.all.sound.slots.there slot).1 (of_boot_area (line-below is)) in
            absurd (false≢true (sym (ap is_some none) ∙ open_so))
        by-entry (Some held) at =
            let here : Empty ≡ held.capability = sym empty ∙ ap (λ (o : Option Entry). option_map_or (λ h. h.capability) o Empty) at in
            let none : None ≡ held.parent = by-parent held at held.parent refl in
            λ i. Some (record { capability = here i; parent = none i })

    entry-kept : option_map (kept_entry s all slot) (s.slots slot) ≡ s.slots slot
    entry-kept = by-entry (s.slots slot) refl
      where
        by-entry : (o : Option Entry) → s.slots slot ≡ o → option_map (kept_entry s all slot) o ≡ o
        by-entry None none = refl
        by-entry (Some held) at =
            let cap : capability_at s.slots slot ≡ held.capability = ap (λ (o : Option Entry). option_map_or (λ h. h.capability) o Empty) at in
            let up : parent_at s.slots slot ≡ held.parent = ap (λ (o : Option Entry). option_map_or (λ h. h.parent) o None) at in
            let one : kept s all slot held.capability ≡ held.capability =
            ap (kept s all slot) (sym cap) ∙ same-capability image t s slots m set inside pools slot other ∙ cap in
            let two : new_parent s all slot ≡ held.parent = same-parent image t s slots m set inside pools slot other ∙ up in
            λ i. Some (record { capability = one i; parent = two i })

    pub other-kept : slots_emptied s (with_bindings s set) slot ≡ s.slots slot
    other-kept = elim (all slot) as (λ b. all slot ≡ b → (if b then Some empty_entry else option_map (kept_entry s all slot) (s.slots slot)) ≡ s.slots slot) [
      | true ↦ λ is. empty-kept is
      | false ↦ λ _. entry-kept
    ] refl
