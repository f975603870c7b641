-- Slots of a thread are removed: no object ends that has slots, and nothing is unmapped.
use Rattle.std.proofs.Common.{ℕ, ◌≡◌, ◌∙◌, ◌==◌, ◌/◌, ◌^◌, ◌<◌, ◌&&◌, ◌||◌, ◌⊎◌, inl, inr, Bool, true, false, not, if◌then◌else◌, Option, Some, None, Result}
use Rattle.std.proofs.Common.{Ok, Err, List, [], ◌∷◌, filter, length, get_or, refl, sym, ap, subst, arith}
use Rattle.std.specs.Prelude.{fold}
use Rattle.std.specs.Option.{option_map_or}
use Rattle.std.specs.List.{list_any, range_with_len}
use Rattle.std.proofs.lemmas.Bool.{and_parts, eqb-true, ne_eqb}
use Rattle.std.proofs.lemmas.Bool.Decides.{nat_tests}
use Rattle.std.proofs.lemmas.List.Folds.{Any-from_list_any, list_any_none}
use Rattle.std.proofs.lemmas.List.FromFn.{get_or-range_with_len, length-range_with_len}
use Rattle.model.specs.Capabilities.CapabilityKinds.{is_handler_of, names_object, object_of}
use Rattle.model.specs.Capabilities.Slots.{Slots, capability_at, is_full, is_within}
use Rattle.model.specs.Kernel.AddressSpaces.{maps_region, region_pages}
use Rattle.model.specs.Kernel.Removal.{SlotSet, closes, closing, emptied, ends, ends_filled, ends_root, frame_loses, is_root_at, is_set_back, is_slot_of, kept}
use Rattle.model.specs.Kernel.Removal.{loses_last_child, remove, slot_count, slots_emptied, some_inside, some_outside, takes_last, thread_places}
use Rattle.model.specs.Kernel.Removal.{wants_revoke_first, with_bindings, without_slots}
use Rattle.model.specs.Kernel.Scheduling.{wake}
use Rattle.model.specs.Kernel.State.{State, binding_slot, slots_of}
use Rattle.model.specs.declared.capabilities.Cap.{Cap}
use Rattle.model.specs.declared.capabilities.Cap.TheVariants.{Empty, Untyped, Endpoint, Notification, CNode, Frame, PageTable, Tcb, RootTable, InterruptControl}
use Rattle.model.specs.declared.capabilities.Cap.TheVariants.{InterruptHandler}
use Rattle.model.specs.declared.capabilities.FrameMapping.{FrameMapping}
use Rattle.model.specs.declared.errors.KError.{KError}
use Rattle.model.specs.declared.errors.KError.TheVariants.{RevokeFirst}
use Rattle.removal_laws.proofs.Laws.{found-at, found-none, found-where}
use Rattle.typestate.proofs.Allowed.{slots_allowed}

-- a slot of the boot CNode, and none of these, holds such a capability
pub record HeldElse (s : State) (mine : ℕ → Bool) (test : Cap → Bool) : Type 0 where
  pub slot : ℕ
  pub boot : slot < 2 ^ s.boot_radix
  pub memory : slot < 2 ^ s.memory_bits / 16
  pub other : mine slot ≡ false
  pub holds : test (capability_at s.slots slot) ≡ true

pub record MayRemove (s : State) (mine : ℕ → Bool) : Type 0 where
  pub bound : (line : ℕ) → line < 64 → mine (binding_slot s line) ≡ false
  pub lines : (line : ℕ) → line < 64 → (capability_at s.slots (binding_slot s line) ≡ Empty) ⊎ HeldElse s mine (is_handler_of line)
  pub objects : (offset : ℕ) → (slot_count (s.objects offset) ≡ 0) ⊎ HeldElse s mine (names_object offset)
  pub roots : (slot root : ℕ) → mine slot ≡ true → is_root_at root (capability_at s.slots slot) ≡ true → HeldElse s mine (is_root_at root)
  pub tables : (slot root region : ℕ) → mine slot ≡ true → maps_region root region (capability_at s.slots slot) ≡ false

few-lines : (k d : ℕ) → k < length (range_with_len 0 64) → get_or (range_with_len 0 64) k d < 64
few-lines k d less =
    let few : k < 64 = subst (λ n. k < n) (length-range_with_len 0 64) less in
    subst (λ n. n < 64) (sym (get_or-range_with_len 0 64 k d few)) (omega (arith, few))

and-none : (a : Bool) → (a && false) ≡ false
and-none true = refl
and-none false = refl

-- untyped memory that lost its last child
abbrev pub reset : Bool → Cap → Cap
reset lost (Untyped offset bits watermark) = Untyped offset bits (if lost then 0 else watermark)
reset lost capability = capability

fold-slots : (threads : List ℕ) (s : State) → (fold wake s threads).slots ≡ s.slots
fold-slots [] s = refl
fold-slots (x ∷ rest) s = fold-slots rest (wake s x)

module _ (s : State) (mine : ℕ → Bool) (may : MayRemove s mine) (set : SlotSet) (inside : (slot : ℕ) → set slot ≡ true → mine slot ≡ true) where
  abbrev all : SlotSet
  all = with_bindings s set

  abbrev binds : ℕ → ℕ → Bool
  binds slot line = slot == binding_slot s line && takes_last s set (is_handler_of line)

  outside : (slot : ℕ) → mine slot ≡ false → set slot ≡ false
  outside slot other = elim (set slot) as (λ b. set slot ≡ b → b ≡ false) [
    | true ↦ λ is. absurd (let clash : false ≡ true = sym other ∙ inside slot is in cc)
    | false ↦ λ _. refl
  ] refl

  unbound : (slot : ℕ) → ((line : ℕ) → line < 64 → (slot == binding_slot s line) ≡ false) → all slot ≡ set slot
  unbound slot apart =
      ap (λ b. set slot || b) (list_any_none (binds slot) (range_with_len 0 64)
      (λ k d less. binds-none (get_or (range_with_len 0 64) k d) (few-lines k d less))) ∙ or-none (set slot)
    where
      binds-none : (line : ℕ) → line < 64 → binds slot line ≡ false
      binds-none line few = ap (λ b. b && takes_last s set (is_handler_of line)) (apart line few)

      or-none : (a : Bool) → (a || false) ≡ a
      or-none true = refl
      or-none false = refl

  -- of the thread's slots none is more
  pub own-same : (slot : ℕ) → mine slot ≡ true → all slot ≡ set slot
  own-same slot own = unbound slot (λ line few. ne_eqb slot (binding_slot s line)
      (λ same. absurd (let clash : true ≡ false = sym own ∙ ap mine same ∙ may.bound line few in cc)))

  boot-out : (slot : ℕ) → slot < 2 ^ s.boot_radix → mine slot ≡ false → all slot ≡ false
  boot-out slot boot other = unbound slot (λ line few. ne_eqb slot (binding_slot s line) (λ same. absurd (omega (arith, same, boot)))) ∙ outside slot other

  seen-outside : (within : SlotSet) (test : Cap → Bool) (e : HeldElse s mine test) → within e.slot ≡ false → some_outside s within test ≡ true
  seen-outside within test e out =
      found-at s.memory_bits e.slot (λ slot. not (within slot) && test (capability_at s.slots slot)) e.memory
      (ap (λ b. not b && test (capability_at s.slots e.slot)) out ∙ e.holds)

  not-last : (within : SlotSet) (test : Cap → Bool) (e : HeldElse s mine test) → within e.slot ≡ false → takes_last s within test ≡ false
  not-last within test e out = ap (λ b. some_inside s within test && not b) (seen-outside within test e out) ∙ and-none (some_inside s within test)

  -- what is more is empty
  pub bound-empty : (slot : ℕ) → all slot ≡ true → (set slot ≡ true) ⊎ (capability_at s.slots slot ≡ Empty)
  bound-empty slot is = elim (set slot) as (λ b. set slot ≡ b → (b || list_any (binds slot) (range_with_len 0 64)) ≡ true →
      (set slot ≡ true) ⊎ (capability_at s.slots slot ≡ Empty)) [
        | true ↦ λ here _. inl here
        | false ↦ λ _ some.
            let place = Any-from_list_any (binds slot) (range_with_len 0 64) some in
            let parts = and_parts (slot == binding_slot s place.1) (takes_last s set (is_handler_of place.1)) place.4 in
            let same : slot ≡ binding_slot s place.1 = eqb-true slot (binding_slot s place.1) parts.0 in
            elim (may.lines place.1 (subst (λ n. n < 64) place.3 (few-lines place.0 place.1 place.2))) [
              | inl empty ↦ inr (ap (capability_at s.slots) same ∙ empty)
              | inr e ↦ absurd (let clash : false ≡ true = sym (not-last set (is_handler_of place.1) e (outside e.slot e.other)) ∙ parts.1 in cc)
            ]
      ] refl is

  -- ---- no object ends that has slots

  slotless : (offset slot : ℕ) → slot_count (s.objects offset) ≡ 0 → is_slot_of s offset slot ≡ false
  slotless offset slot none = ap (λ n. is_within (offset / 16) n slot) none ∙ nowhere (offset / 16) slot
    where
      nowhere : (first slot : ℕ) → is_within first 0 slot ≡ false
      nowhere first slot = grind (arith, nat_tests)

  fills-none : (offset : ℕ) → ends_filled s all offset ≡ false
  fills-none offset = elim (may.objects offset) [
    | inl none ↦
        ap (λ b. ends s all offset && b) (found-none s.memory_bits (λ slot. is_slot_of s offset slot && not (all slot) && is_full s.slots slot)
        (λ slot. ap (λ b. b && not (all slot) && is_full s.slots slot) (slotless offset slot none))) ∙ and-none (ends s all offset)
    | inr e ↦ ap (λ b. b && list_any (λ slot. is_slot_of s offset slot && not (all slot) && is_full s.slots slot) (slots_of s))
        (not-last all (names_object offset) e (boot-out e.slot e.boot e.other))
  ]

  wants-none : wants_revoke_first s all ≡ false
  wants-none = found-none s.memory_bits (λ slot. all slot && option_map_or (ends_filled s all) (object_of (capability_at s.slots slot)) false)
      (λ slot. ap (λ b. all slot && b) (by-object (object_of (capability_at s.slots slot))) ∙ and-none (all slot))
    where
      by-object : (o : Option ℕ) → option_map_or (ends_filled s all) o false ≡ false
      by-object None = refl
      by-object (Some offset) = fills-none offset

  closes-none : (slot : ℕ) → closes s all slot ≡ false
  closes-none slot = found-none s.memory_bits (λ other. all other
      && option_map_or (λ offset. ends s all offset && is_slot_of s offset slot) (object_of (capability_at s.slots other)) false)
      (λ other. ap (λ b. all other && b) (by-object (object_of (capability_at s.slots other))) ∙ and-none (all other))
    where
      by-object : (o : Option ℕ) → option_map_or (λ offset. ends s all offset && is_slot_of s offset slot) o false ≡ false
      by-object None = refl
      by-object (Some offset) = elim (may.objects offset) [
        | inl none ↦ ap (λ b. ends s all offset && b) (slotless offset slot none) ∙ and-none (ends s all offset)
        | inr e ↦ ap (λ b. b && is_slot_of s offset slot) (not-last all (names_object offset) e (boot-out e.slot e.boot e.other))
      ]

  -- the slots behind the removal
  pub removed-slots : slots_allowed (remove s set) ≡ Ok (slots_emptied s all)
  unfolding remove
  removed-slots =
      let left : Slots → Result Slots KError = λ slots. Ok slots in
      ap (λ b. slots_allowed (if b then Err RevokeFirst else Ok (without_slots s all))) wants-none
      ∙ ap left (fold-slots (filter (is_set_back s all) (thread_places s)) (closing (emptied s all) (closes s all)))
      ∙ ap left (λ i slot. (ap (λ b. if b then None else slots_emptied s all slot) (closes-none slot)) i)

  -- ---- nothing is unmapped

  roots-stay : (root : ℕ) → ends_root s all root ≡ false
  roots-stay root = elim (some_inside s all (is_root_at root)) as (λ b. some_inside s all (is_root_at root) ≡ b →
      (b && not (some_outside s all (is_root_at root))) ≡ false) [
        | false ↦ λ _. refl
        | true ↦ λ some.
            let place = found-where s.memory_bits (λ slot. all slot && is_root_at root (capability_at s.slots slot)) some in
            let parts = and_parts (all place.0) (is_root_at root (capability_at s.slots place.0)) place.1 in
            elim (bound-empty place.0 parts.0) [
              | inl here ↦
                  let e = may.roots place.0 root (inside place.0 here) parts.1 in
                  ap not (seen-outside all (is_root_at root) e (boot-out e.slot e.boot e.other))
              | inr empty ↦ absurd (let clash : false ≡ true = sym (ap (is_root_at root) empty) ∙ parts.1 in cc)
            ]
      ] refl

  tables-none : (root region : ℕ) → some_inside s all (maps_region root region) ≡ false
  tables-none root region = found-none s.memory_bits (λ slot. all slot && maps_region root region (capability_at s.slots slot)) (λ slot.
      elim (all slot) as (λ b. all slot ≡ b → (b && maps_region root region (capability_at s.slots slot)) ≡ false) [
        | false ↦ λ _. refl
        | true ↦ λ is. elim (bound-empty slot is) [
          | inl here ↦ may.tables slot root region (inside slot here)
          | inr empty ↦ ap (maps_region root region) empty
        ]
      ] refl)

  frames-stay : (mapping : FrameMapping) → frame_loses s all mapping ≡ false
  frames-stay mapping =
      ap (λ b. b || some_inside s all (maps_region mapping.root (mapping.page / region_pages))) (roots-stay mapping.root)
      ∙ tables-none mapping.root (mapping.page / region_pages)

  pub kept-is : (slot : ℕ) (capability : Cap) → kept s all slot capability ≡ reset (loses_last_child s all slot) capability
  kept-is slot Empty = refl
  kept-is slot (Untyped _ _ _) = refl
  kept-is slot (Endpoint _ _ _) = refl
  kept-is slot (Notification _ _ _) = refl
  kept-is slot (CNode _ _ _) = refl
  kept-is slot (Frame offset r None) = refl
  kept-is slot (Frame offset r (Some mapping)) = ap (λ b. if b then Frame offset r None else Frame offset r (Some mapping)) (frames-stay mapping)
  kept-is slot (PageTable offset None) = refl
  kept-is slot (PageTable offset (Some mapping)) = ap (λ b. if b then PageTable offset None else PageTable offset (Some mapping)) (roots-stay mapping.root)
  kept-is slot (Tcb _) = refl
  kept-is slot (RootTable _) = refl
  kept-is slot InterruptControl = refl
  kept-is slot (InterruptHandler _) = refl
