-- What stays after a removal derives from something still, since some ancestor outside of the removed slots is left.
use Rattle.std.proofs.Common.{ℕ, zero, suc, ◌≡◌, ◌∙◌, ◌==◌, ◌&&◌, ◌||◌, ◌+◌, ◌^◌, ◌<◌, ◌⊎◌, inl, inr, Bool, true, false, not, get_or, if◌then◌else◌, Option}
use Rattle.std.proofs.Common.{Some, None, option_map, Result, Ok, Err, List, [], ◌∷◌, filter, refl, sym, ap, subst, arith}
use Rattle.std.specs.Prelude.{fold}
use Rattle.std.specs.List.{list_any, range_with_len}
use Rattle.std.specs.Option.{option_map_or}
use Rattle.std.proofs.lemmas.Bool.{false≢true, ne_eqb}
use Rattle.std.proofs.lemmas.List.Folds.{list_any_none}
use Rattle.model.specs.declared.capabilities.Cap.TheVariants.{Empty}
use Rattle.model.specs.declared.errors.KError.{KError}
use Rattle.model.specs.declared.errors.KError.TheVariants.{RevokeFirst}
use Rattle.model.specs.declared.slot_entries.Entry.{Entry}
use Rattle.model.specs.Capabilities.CapabilityKinds.{is_handler_of}
use Rattle.model.specs.Capabilities.Slots.{IsDerivation, IsFull, depth_within, empty_entry, is_empty, parent_at}
use Rattle.model.specs.Kernel.Removal.{SlotSet, ancestor_outside, closes, closing, emptied, is_set_back, kept_entry, remove, slots_emptied, takes_last}
use Rattle.model.specs.Kernel.Removal.{thread_places, wants_revoke_first, with_bindings, without_slots}
use Rattle.model.specs.Kernel.Scheduling.{wake}
use Rattle.model.specs.Kernel.State.{State, binding_slot}
use Rattle.removal_laws.proofs.Laws.{kept-test}
use Rattle.headline.proofs.invocations.DerivedEntries.{AllHang, Hangs, closed-hangs, empty-hangs}

-- who is woken has no slots of his own to change
woken-slots : (threads : List ℕ) (s : State) → (fold wake s threads).slots ≡ s.slots
woken-slots [] s = refl
woken-slots (x ∷ rest) s = woken-slots rest (wake s x)

-- each parent of such a slot is one too, or a boot slot
abbrev pub DeriveNear : (ℕ → Type 0) → State → Type 0
DeriveNear own s = (slot parent : ℕ) → own slot → parent_at s.slots slot ≡ Some parent → own parent ⊎ (parent < 2 ^ s.boot_radix)

-- no boot slot is in the set
abbrev pub NoBoot : State → SlotSet → Type 0
NoBoot s set = (slot : ℕ) → slot < 2 ^ s.boot_radix → set slot ≡ false

-- interrupt lines have other slots
module _ (s : State) (set : SlotSet) (none : NoBoot s set) (slot : ℕ) (less : slot < 2 ^ s.boot_radix) where
  abbrev binds : ℕ → Bool
  binds line = slot == binding_slot s line && takes_last s set (is_handler_of line)

  unbound : (line : ℕ) → binds line ≡ false
  unbound line = ap (λ b. b && takes_last s set (is_handler_of line)) (ne_eqb slot (binding_slot s line) (λ same. absurd (omega (arith, same, less))))

  pub bound-no-boot : with_bindings s set slot ≡ false
  bound-no-boot =
      ap (λ b. b || list_any binds (range_with_len 0 64)) (none slot less)
      ∙ list_any_none binds (range_with_len 0 64) (λ k d inside. unbound (get_or (range_with_len 0 64) k d))

module _ (s : State) (derivation : IsDerivation s.slots) (own : ℕ → Type 0) (hang : AllHang own s.slots) (near : DeriveNear own s) where
  module _ (set : SlotSet) (none : NoBoot s set) where
    -- the nearest ancestor outside is found within as many steps as the slot is deep
    heir : (n slot : ℕ) → own slot → IsFull s.slots slot → depth_within n (parent_at s.slots) slot < n
        → (parent : ℕ) × (ancestor_outside n set s.slots (parent_at s.slots slot) ≡ Some parent)
    unfolding ancestor_outside depth_within
    heir zero slot mine full less = absurd (omega (arith, less))
    heir (suc n) slot mine full less =
        let above = hang slot mine full in
        let deep : depth_within (suc n) (parent_at s.slots) slot ≡ depth_within n (parent_at s.slots) above.0 + 1 =
        ap (λ (o : Option ℕ). option_map_or (λ parent. depth_within n (parent_at s.slots) parent + 1) o 0) above.1 in
        let found = elim (set above.0) as (λ b. set above.0 ≡ b
        → (parent : ℕ) × ((if b then ancestor_outside n set s.slots (parent_at s.slots above.0) else Some above.0) ≡ Some parent)) [
          | false ↦ λ _. (above.0, refl)
          | true ↦ λ among. elim (near slot above.0 mine above.1) [
            | inl inside ↦ heir n above.0 inside (derivation.parent_full slot above.0 above.1) (omega (arith, less, deep))
            | inr below ↦ absurd (false≢true (sym (none above.0 below) ∙ among))
          ]
        ] refl in
        (found.0, ap (ancestor_outside (suc n) set s.slots) above.1 ∙ found.1)

    kept-hangs : (slot : ℕ) → own slot → (o : Option Entry) → s.slots slot ≡ o → Hangs (option_map (kept_entry s set slot) o)
    kept-hangs slot mine None is = closed-hangs
    kept-hangs slot mine (Some held) is = λ full.
        let was : not (is_empty held.capability) ≡ true =
        ap not (sym (kept-test is_empty (λ o b v w. refl) (λ f r m n. refl) (λ t m n. refl) s set slot held.capability)) ∙ full in
        let deep = derivation.shallow slot in
        heir 256 slot mine (ap (λ (o : Option Entry). not (is_empty (option_map_or (λ (e : Entry). e.capability) o Empty))) is ∙ was) (omega (arith, deep))

    pub emptied-hang : AllHang own (slots_emptied s set)
    emptied-hang slot mine = elim (set slot) as (λ b. Hangs (if b then Some empty_entry else option_map (kept_entry s set slot) (s.slots slot))) [
      | true ↦ empty-hangs
      | false ↦ kept-hangs slot mine (s.slots slot) refl
    ]

    closed-hang : AllHang own (closing (emptied s set) (closes s set)).slots
    closed-hang slot mine = elim (closes s set slot) as (λ b. Hangs (if b then None else slots_emptied s set slot)) [
      | true ↦ closed-hangs
      | false ↦ emptied-hang slot mine
    ]

    without-hang : AllHang own (without_slots s set).slots
    without-hang =
        subst (AllHang own) (sym (woken-slots (filter (is_set_back s set) (thread_places s)) (closing (emptied s set) (closes s set)))) closed-hang

  pub removed-hang : (set : SlotSet) (after : State) → NoBoot s set → remove s set ≡ Ok after → AllHang own after.slots
  unfolding remove
  removed-hang set after none is =
      let all = with_bindings s set in
      elim (wants_revoke_first s all) as (λ b. (if b then Err RevokeFirst else Ok (without_slots s all)) ≡ Ok after → AllHang own after.slots) [
        | true ↦ λ clash. absurd (let e : ◌≡◌ {A = Result State KError} (Err RevokeFirst) (Ok after) = clash in cc)
        | false ↦ λ here.
            let same : without_slots s all ≡ after = (let e : ◌≡◌ {A = Result State KError} (Ok (without_slots s all)) (Ok after) = here in cc) in
            subst (λ (t : State). AllHang own t.slots) same (without-hang all (bound-no-boot s set none))
      ] is
