-- Each slot of a sound state has its holder.
use Rattle.std.proofs.Common.{ℕ, ◌≡◌, ◌∙◌, ◌==◌, ◌+◌, ◌*◌, ◌-◌, ◌/◌, ◌^◌, ◌<◌, ◌≤◌, inl, inr, if◌then◌else◌, Some, None, List, refl, sym, ap, subst, arith}
use Rattle.std.specs.Option.{option_map_or}
use Rattle.std.proofs.lemmas.Bool.{cases_lt, lt-ltb}
use Rattle.std.proofs.lemmas.Bool.Decides.{eqb_tells}
use Rattle.std.proofs.lemmas.Nat.{pow_pos}
use Rattle.kernel_machine.specs.Setups.{slot_in, slots_of_holder}
use Rattle.model.proofs.Ancestors.{full-open}
use Rattle.model.proofs.SlotChanges.{within-bounds}
use Rattle.model.specs.Capabilities.Slots.{Slots}
use Rattle.model.specs.Kernel.Removal.{slot_count}
use Rattle.model.specs.Kernel.Soundness.{HasSlot, of_boot_area, of_object, IsSound}
use Rattle.model.specs.Kernel.State.{State}
use Rattle.model.specs.declared.slot_entries.Entry.{Entry}
use Rattle.objects.proofs.Laws.{object-aligned}
use Rattle.objects.specs.Tables.{Tables, state_of}
use Rattle.soundness.proofs.Laws.{object-inside, slot-stands}

module _ (s : State) where
  table-slots : slots_of_holder s (16 * 2 ^ s.boot_radix) ≡ 64
  table-slots = elim (eqb_tells (16 * 2 ^ s.boot_radix) 0) [
    | inl none ↦ let some = pow_pos s.boot_radix in absurd (omega (arith, some, none.1))
    | inr some ↦
        ap (λ b. if b then 2 ^ s.boot_radix else if 16 * 2 ^ s.boot_radix == 16 * 2 ^ s.boot_radix then 64 else slot_count (s.objects (16 * 2 ^ s.boot_radix)))
        some.0
        ∙ elim (eqb_tells (16 * 2 ^ s.boot_radix) (16 * 2 ^ s.boot_radix)) [
          | inl same ↦ ap (λ b. if b then 64 else slot_count (s.objects (16 * 2 ^ s.boot_radix))) same.0
          | inr apart ↦ absurd (apart.1 refl)
        ]
  ]

  object-slots : (offset : ℕ) → 16 * (2 ^ s.boot_radix + 64) ≤ offset → slots_of_holder s offset ≡ slot_count (s.objects offset)
  object-slots offset behind = elim (eqb_tells offset 0) [
    | inl none ↦ absurd (omega (arith, behind, none.1))
    | inr some ↦
        ap (λ b. if b then 2 ^ s.boot_radix else if offset == 16 * 2 ^ s.boot_radix then 64 else slot_count (s.objects offset)) some.0
        ∙ elim (eqb_tells offset (16 * 2 ^ s.boot_radix)) [
          | inl table ↦ absurd (omega (arith, behind, table.1))
          | inr other ↦ ap (λ b. if b then 64 else slot_count (s.objects offset)) other.0
        ]
  ]

-- where none of the places before has a slot, it is one of the boot CNode
pub in-boot-cnode : (o : Tables) (slots : Slots) (memory : List ℕ) (number : ℕ) → IsSound (state_of o slots memory) → HasSlot (state_of o slots memory) number
    → ((index : ℕ) → index < number → slots_of_holder (state_of o slots memory) (16 * (number - index)) ≤ index) →
    number < 2 ^ (state_of o slots memory).boot_radix
in-boot-cnode o slots memory number sound (of_boot_area less) none =
    let s = state_of o slots memory in
    elim (cases_lt number (2 ^ s.boot_radix)) [
      | inl inside ↦ inside
      | inr outside ↦
          let some = pow_pos s.boot_radix in
          let first : number - (number - 2 ^ s.boot_radix) ≡ 2 ^ s.boot_radix = omega (arith, outside) in
          let empty = none (number - 2 ^ s.boot_radix) (omega (arith, outside, some)) in
          let full : 64 ≤ number - 2 ^ s.boot_radix = subst (λ (n : ℕ). n ≤ number - 2 ^ s.boot_radix)
          (ap (λ (n : ℕ). slots_of_holder s (16 * n)) first ∙ table-slots s) empty in
          absurd (omega (arith, less, outside, full))
    ]
in-boot-cnode o slots memory number sound (of_object offset is) none =
    let s = state_of o slots memory in
    let bounds = within-bounds (offset / 16) (slot_count (s.objects offset)) number is in
    let stands = slot-stands s offset number is in
    let behind = (object-inside s sound.memory offset stands.kind stands.is).0 in
    let multiple = object-aligned o slots memory offset stands.kind stands.is in
    let low = bounds.0 in
    let high = bounds.1 in
    let start : 16 * (number - (number - offset / 16)) ≡ offset = omega (arith, low, multiple) in
    let empty = none (number - offset / 16) (omega (arith, low, behind)) in
    let full : slot_count (s.objects offset) ≤ number - offset / 16 =
    subst (λ (n : ℕ). n ≤ number - offset / 16) (ap (slots_of_holder s) start ∙ object-slots s offset behind) empty in
    absurd (omega (arith, low, high, full))

-- the slot that another was derived from has a holder
pub parent-held : (o : Tables) (slots : Slots) (memory : List ℕ) (number parent : ℕ) (held : Entry) → IsSound (state_of o slots memory) →
    slots number ≡ Some held
    → held.parent ≡ Some parent → HasSlot (state_of o slots memory) parent
unfolding state_of
parent-held o slots memory number parent held sound is above =
    (sound.slots.there parent).0
    (full-open slots parent (sound.slots.derivation.parent_full number parent (ap (λ e. option_map_or (λ (h : Entry). h.parent) e None) is ∙ above)))

-- what is so many slots after the first of a holder, which has so many
pub slot-inside : (o : Tables) (slots : Slots) (memory : List ℕ) (holder index count : ℕ) → count ≡ slots_of_holder (state_of o slots memory) holder →
    index < count
    → slots (holder / 16 + index) ≡ slot_in (state_of o slots memory) holder index
unfolding state_of
slot-inside o slots memory holder index count many less =
    sym (ap (λ b. if b then slots (holder / 16 + index) else None)
    (lt-ltb index (slots_of_holder (state_of o slots memory) holder) (subst (λ (n : ℕ). index < n) many less)))
