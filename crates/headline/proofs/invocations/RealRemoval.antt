-- Own slots are removed from the state as it is: that has no error, closes no slot and unmaps nothing.
use Rattle.std.proofs.Common.{ℕ, ◌≡◌, ◌∙◌, ◌/◌, ◌^◌, ◌<◌, ◌&&◌, ◌⊎◌, inl, inr, Bool, true, false, not, Some, None, List, refl, sym, ap, arith}
use Rattle.std.specs.Option.{option_map_or}
use Rattle.std.specs.List.{list_any}
use Rattle.std.proofs.lemmas.Bool.{and_parts, false≢true}
use Rattle.std.proofs.lemmas.Bool.Decides.{nat_tests}
use Rattle.std.proofs.lemmas.Option.{none-some, same_Some}
use Rattle.model.specs.Acceptance.NotedStates.{NotedSlot}
use Rattle.model.specs.Capabilities.CapabilityKinds.{names_object, object_of}
use Rattle.model.specs.Capabilities.Slots.{capability_at, is_full, is_within}
use Rattle.model.specs.Images.Described.{Numbered}
use Rattle.model.specs.Images.Image.{Image}
use Rattle.model.specs.Kernel.Kinds.{kind_at}
use Rattle.model.specs.Kernel.Removal.{SlotSet, closes, ends, ends_filled, is_slot_of, kept, loses_last_child, slot_count, some_inside, some_outside}
use Rattle.model.specs.Kernel.Removal.{wants_revoke_first, with_bindings}
use Rattle.model.specs.Kernel.Retype.{NewObject}
use Rattle.model.specs.Kernel.State.{State, slots_of}
use Rattle.model.specs.declared.capabilities.Cap.{Cap}
use Rattle.model.specs.declared.capabilities.Cap.TheVariants.{Empty}
use Rattle.removal_laws.proofs.Laws.{found-at, found-none, found-where}
use Rattle.typestate.proofs.Laws.{HeldElse, MayRemove, bound-empty, kept-is, own-same, reset}
use Rattle.headline.specs.invocations.Mirrors.{Mirrors}
use Rattle.headline.proofs.invocations.ParentsAway.{and-none}
use Rattle.headline.proofs.invocations.BootNames.{cnode-held}
use Rattle.headline.proofs.invocations.OwnHeld.{OwnHeld, count-by-kind, own-held, slots_of_kind}
use Rattle.headline.proofs.invocations.RemovalSides.{IsSide, else-of, may-remove, own_set}
use Rattle.headline.proofs.facts.Laws.{is-listed}

-- the state without its objects, for what only slots say
abbrev bare : State → State
bare s = record s { objects = λ offset. None }

slotless : (first slot : ℕ) → is_within first 0 slot ≡ false
slotless first slot = grind (arith, nat_tests)

module _ (image : Image) (t : Numbered) (s : State) (slots : List NotedSlot) (m : Mirrors image t s slots) where
  abbrev mine : SlotSet
  mine = own_set image t

  pub side : IsSide image t s
  side = record { radix = m.all.boot_radix; memory = m.all.memory_bits; boot = m.boot; home = m.home }

  bare-side : IsSide image t (bare s)
  bare-side = record { radix = m.all.boot_radix; memory = m.all.memory_bits; boot = m.boot; home = m.home }

  may : MayRemove (bare s) (own_set image t)
  may = may-remove image t m.stand (bare s) bare-side (λ offset. inl refl)

  module _ (set : SlotSet) (inside : (slot : ℕ) → set slot ≡ true → own_set image t slot ≡ true) where
    abbrev all : SlotSet
    all = with_bindings s set

    pub own-all : (slot : ℕ) → own_set image t slot ≡ true → with_bindings s set slot ≡ set slot
    own-all slot own = own-same (bare s) (own_set image t) may set inside slot own

    pub set-or-empty : (slot : ℕ) → with_bindings s set slot ≡ true → (set slot ≡ true) ⊎ (capability_at s.slots slot ≡ Empty)
    set-or-empty slot is = bound-empty (bare s) (own_set image t) may set inside slot is

    pub kept-reset : (slot : ℕ) (c : Cap) → kept s (with_bindings s set) slot c ≡ reset (loses_last_child s (with_bindings s set) slot) c
    kept-reset slot c = kept-is (bare s) (own_set image t) may set inside slot c

    -- ---- what ends

    pub record EndsOwn (offset : ℕ) : Type 0 where
      pub slot : ℕ
      pub there : set slot ≡ true
      pub names : names_object offset (capability_at s.slots slot) ≡ true

    pub ends-own : (offset : ℕ) → ends s (with_bindings s set) offset ≡ true → EndsOwn offset
    ends-own offset is =
        let parts = and_parts (some_inside s all (names_object offset)) (not (some_outside s all (names_object offset))) is in
        let place = found-where s.memory_bits (λ slot. all slot && names_object offset (capability_at s.slots slot)) parts.0 in
        let both = and_parts (all place.0) (names_object offset (capability_at s.slots place.0)) place.1 in
        elim (set-or-empty place.0 both.0) [
          | inl here ↦ record { slot = place.0; there = here; names = both.1 }
          | inr empty ↦ absurd (false≢true (sym (ap (names_object offset) empty) ∙ both.1))
        ]

    stays-out : (offset slot : ℕ) → own_set image t slot ≡ false → names_object offset (capability_at s.slots slot) ≡ true → all slot ≡ false
    stays-out offset slot out names = elim (all slot) as (λ b. all slot ≡ b → b ≡ false) [
      | false ↦ λ _. refl
      | true ↦ λ is. elim (set-or-empty slot is) [
        | inl here ↦ absurd (false≢true (sym out ∙ inside slot here))
        | inr empty ↦ absurd (false≢true (sym (ap (names_object offset) empty) ∙ names))
      ]
    ] refl

    -- not what a slot names that is none of the thread's
    pub stays-named : (offset slot : ℕ) → slot < 2 ^ s.memory_bits / 16 → own_set image t slot ≡ false → names_object offset (capability_at s.slots slot) ≡ true
        → ends s (with_bindings s set) offset ≡ false
    stays-named offset slot near out names =
        let passes : (not (all slot) && names_object offset (capability_at s.slots slot)) ≡ true =
        ap (λ b. not b && names_object offset (capability_at s.slots slot)) (stays-out offset slot out names) ∙ names in
        ap (λ b. some_inside s all (names_object offset) && not b)
        (found-at s.memory_bits slot (λ x. not (all x) && names_object offset (capability_at s.slots x)) near passes)
        ∙ and-none (some_inside s all (names_object offset))

    pub stays-else : (offset : ℕ) → HeldElse s (own_set image t) (names_object offset) → ends s (with_bindings s set) offset ≡ false
    stays-else offset e = stays-named offset e.slot e.memory e.other e.holds

    -- ---- no object ends that has slots

    abbrev IsFree : ℕ → Type 0
    IsFree offset = (slot_count (s.objects offset) ≡ 0) ⊎ (ends s all offset ≡ false)

    pub kind-count : (offset : ℕ) (kind : NewObject) → kind_at s offset ≡ Some kind → slot_count (s.objects offset) ≡ slots_of_kind kind
    kind-count offset kind is = count-by-kind (s.objects offset) ∙ ap (λ o. option_map_or slots_of_kind o 0) is

    object-free : (slot offset : ℕ) → set slot ≡ true → object_of (capability_at s.slots slot) ≡ Some offset → IsFree offset
    object-free slot offset here is = by-held (own-held image t.thread (capability_at s.slots slot) (m.home slot (inside slot here)))
      where
        by-held : OwnHeld image t.thread (capability_at s.slots slot) → IsFree offset
        by-held (OwnHeld.nothing none) = absurd (none-some offset (sym none ∙ is))
        by-held (OwnHeld.plain kind o named of few) =
            let same : o ≡ offset = same_Some o offset (sym of ∙ is) in
            inl (ap (λ (n : ℕ). slot_count (s.objects n)) (sym same) ∙ kind-count o kind (m.all.sound.memory.named slot kind o named) ∙ few)
        by-held (OwnHeld.cnode radix o named of own) =
            let same : o ≡ offset = same_Some o offset (sym of ∙ is) in
            inr (ap (ends s all) (sym same)
            ∙ stays-else o
            (else-of image t m.stand s side (names_object o)
            (cnode-held image m.accepted.spelled.fits m.accepted.formed t.thread (is-listed image t m.listed) o radix own)))

    free-slots : (offset slot : ℕ) → IsFree offset → (ends s all offset && is_slot_of s offset slot) ≡ false
    free-slots offset slot (inl none) = ap (λ (n : ℕ). ends s all offset && is_within (offset / 16) n slot) none
        ∙ ap (λ b. ends s all offset && b) (slotless (offset / 16) slot) ∙ and-none (ends s all offset)
    free-slots offset slot (inr stays) = ap (λ b. b && is_slot_of s offset slot) stays

    free-filled : (offset : ℕ) → IsFree offset → ends_filled s all offset ≡ false
    free-filled offset (inl none) =
        ap (λ b. ends s all offset && b) (found-none s.memory_bits (λ slot. is_slot_of s offset slot && not (all slot) && is_full s.slots slot)
        (λ slot. ap (λ b. b && not (all slot) && is_full s.slots slot) (ap (λ (n : ℕ). is_within (offset / 16) n slot) none ∙ slotless (offset / 16) slot)))
        ∙ and-none (ends s all offset)
    free-filled offset (inr stays) = ap (λ b. b && list_any (λ slot. is_slot_of s offset slot && not (all slot) && is_full s.slots slot) (slots_of s)) stays

    -- of each object that a removed slot names
    named-none : (test : ℕ → Bool) → ((offset : ℕ) → IsFree offset → test offset ≡ false) → (slot : ℕ)
        → (all slot && option_map_or test (object_of (capability_at s.slots slot)) false) ≡ false
    named-none test free slot = elim (all slot) as (λ b. all slot ≡ b → (b && option_map_or test (object_of (capability_at s.slots slot)) false) ≡ false) [
      | false ↦ λ _. refl
      | true ↦ λ is. elim (set-or-empty slot is) [
        | inr empty ↦ ap (λ c. option_map_or test (object_of c) false) empty
        | inl here ↦ elim (object_of (capability_at s.slots slot)) as (λ o. object_of (capability_at s.slots slot) ≡ o → option_map_or test o false ≡ false) [
          | None ↦ λ _. refl
          | Some offset ↦ λ of. free offset (object-free slot offset here of)
        ] refl
      ]
    ] refl

    pub wants-none : wants_revoke_first s (with_bindings s set) ≡ false
    wants-none = found-none s.memory_bits (λ slot. all slot && option_map_or (ends_filled s all) (object_of (capability_at s.slots slot)) false)
        (named-none (ends_filled s all) free-filled)

    pub closes-none : (slot : ℕ) → closes s (with_bindings s set) slot ≡ false
    closes-none slot =
        found-none s.memory_bits
        (λ other. all other && option_map_or (λ offset. ends s all offset && is_slot_of s offset slot) (object_of (capability_at s.slots other)) false)
        (named-none (λ offset. ends s all offset && is_slot_of s offset slot) (λ offset free. free-slots offset slot free))
