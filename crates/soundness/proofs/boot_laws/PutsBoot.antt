-- A state with nothing but holdings in its boot slots, and one capability more without a parent.
use Rattle.std.proofs.Common.{ℕ, suc, ◌≡◌, ◌∙◌, ◌^◌, ◌<◌, Bool, true, false, not, nat_lt, if◌then◌else◌, Option, Some, None, List, [], ◌∷◌, ◌++◌, inl, inr}
use Rattle.std.proofs.Common.{refl, sym, ap, arith}
use Rattle.std.specs.Prelude.{slice_get}
use Rattle.std.specs.Option.{option_map_or, option_or}
use Rattle.std.proofs.lemmas.Bool.{and_from, cases_eq, eq-eqb, lt-ltb, ne_eqb}
use Rattle.model.specs.Capabilities.Slots.{Slots, capability_at, empty_entry, inserted, is_empty, is_full}
use Rattle.model.specs.Images.Described.{Holding, held_in, holding}
use Rattle.model.specs.Kernel.Setup.{boot_area, put_in_boot_slot}
use Rattle.model.specs.Kernel.State.{State, boot_area_slots, with_slots}
use Rattle.model.specs.declared.capabilities.Cap.{Cap}
use Rattle.model.specs.declared.capabilities.Cap.TheVariants.{Empty}
use Rattle.model.specs.declared.slot_entries.Entry.{Entry}
use Rattle.soundness.proofs.boot_laws.ReadingsLists.{held-append, held-here, held-later}

abbrev pub shown_in : List Holding → ℕ → Entry
shown_in full slot = option_map_or (λ held. held) (held_in full slot) empty_entry

abbrev pub boot_slots_with : ℕ → List Holding → Slots
boot_slots_with radix full slot = if nat_lt slot (boot_area_slots radix) then Some (shown_in full slot) else None

-- the empty machine with these holdings in its slots
abbrev pub booted_with : ℕ → ℕ → List Holding → State
booted_with bits radix full = record {
  memory_bits = bits;
  boot_radix = radix;
  slots = boot_slots_with radix full;
  objects = λ offset. None;
  bytes = λ place. None;
  ready = λ priority. [];
  masked = λ line. false;
  pending = λ line. false;
}

pub booted-first : (bits radix : ℕ) → boot_area bits radix ≡ booted_with bits radix []
unfolding boot_area
booted-first bits radix = refl

-- what no holding is, no slot holds
pub none-shown : (test : Cap → Bool) (full : List Holding) (slot : ℕ) → test Empty ≡ false
    → ((j : ℕ) (h : Holding) → slice_get full j ≡ Some h → test h.1.capability ≡ false) → test (shown_in full slot).capability ≡ false
none-shown test [] slot empty each = empty
none-shown test (h ∷ hs) slot empty each =
    elim (cases_eq h.0 slot) [
      | inl same ↦ ap (λ o. test (option_map_or (λ held. held) o empty_entry).capability) (held-here h hs slot same) ∙ each 0 h refl
      | inr other ↦
          ap (λ o. test (option_map_or (λ held. held) o empty_entry).capability) (held-later h hs slot other)
          ∙ none-shown test hs slot empty (λ j g at. each (suc j) g at)
    ]

pub none-boot : (test : Cap → Bool) (radix : ℕ) (full : List Holding) (slot : ℕ) → test Empty ≡ false
    → ((j : ℕ) (h : Holding) → slice_get full j ≡ Some h → test h.1.capability ≡ false) → test (capability_at (boot_slots_with radix full) slot) ≡ false
none-boot test radix full slot empty each =
    elim (nat_lt slot (boot_area_slots radix))
    as (λ b. test (option_map_or (λ h. h.capability) (if b then Some (shown_in full slot) else None) Empty) ≡ false) [
      | true ↦ none-shown test full slot empty each
      | false ↦ empty
    ]

-- ---- one more

module _ (bits radix : ℕ) (full : List Holding) (slot : ℕ) (c : Cap) (inside : slot < 2 ^ radix) (free : held_in full slot ≡ None) where
  abbrev more : List Holding
  more = full ++ holding slot c None ∷ []

  open-there : nat_lt slot (boot_area_slots radix) ≡ true
  open-there = lt-ltb slot (boot_area_slots radix) (omega (arith, inside))

  free-there : is_full (boot_slots_with radix full) slot ≡ false
  free-there =
      ap (λ b. not (is_empty (option_map_or (λ h. h.capability) (if b then Some (shown_in full slot) else None) Empty))) open-there
      ∙ ap (λ o. not (is_empty (option_map_or (λ held. held) o empty_entry).capability)) free

  or-none : (o : Option Entry) → option_or o None ≡ o
  or-none None = refl
  or-none (Some h) = refl

  slot-more : (other : ℕ) → inserted (boot_slots_with radix full) slot c None other ≡ boot_slots_with radix more other
  slot-more other =
      elim (cases_eq other slot) [
        | inl same ↦
            ap (λ b. if b then Some (record { capability = c; parent = None }) else boot_slots_with radix full other) (eq-eqb other slot same)
            ∙ sym (ap (λ o. Some (option_map_or (λ held. held) o empty_entry))
            (held-append full (holding slot c None ∷ []) slot ∙ (λ i. option_or (free i) (held-here (holding slot c None) [] slot refl i))))
            ∙ sym (ap (λ b. if b then Some (shown_in more slot) else None) open-there)
            ∙ ap (boot_slots_with radix more) (sym same)
        | inr apart ↦
            ap (λ b. if b then Some (record { capability = c; parent = None }) else boot_slots_with radix full other) (ne_eqb other slot apart)
            ∙ ap (λ o. if nat_lt other (boot_area_slots radix) then Some (option_map_or (λ held. held) o empty_entry) else None)
            (sym (held-append full (holding slot c None ∷ []) other
            ∙ ap (option_or (held_in full other)) (held-later (holding slot c None) [] other (λ is. apart (sym is)))
            ∙ or-none (held_in full other)))
      ]

  pub put-more : put_in_boot_slot (booted_with bits radix full) slot c ≡ Some (booted_with bits radix more)
  put-more =
      let test = and_from (nat_lt slot (2 ^ radix)) (not (is_full (boot_slots_with radix full) slot)) (lt-ltb slot (2 ^ radix) inside) (ap not free-there) in
      ap (λ b. if b then Some (with_slots (booted_with bits radix full) (inserted (boot_slots_with radix full) slot c None)) else None) test
      ∙ (λ i. Some (record (booted_with bits radix more) { slots = λ other. slot-more other i }))
