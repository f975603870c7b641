-- The slots of the objects that end with a set.
use Rattle.std.proofs.Common.{ℕ, ◌≡◌, ◌∙◌, ◌+◌, ◌/◌, ◌&&◌, Bool, true, false, not, Option, Some, None, List, if◌then◌else◌, refl, sym, ap, arith}
use Rattle.std.specs.Option.{option_map_or}
use Rattle.std.proofs.Math.Bool.{and-false, and-true}
use Rattle.cnode_ops.specs.Marked.{is_unmarked}
use Rattle.cnode_ops.specs.Refusals.{goes, is_left_filled, is_named_beside, is_some_left_filled, own_slots, refuses, slots_named, some_own, some_slot, stays}
use Rattle.cnode_ops.specs.declared.sets.Removed.{Removed}
use Rattle.cnode_ops.proofs.SomeSlot.{some-at, some-none}
use Rattle.model.specs.Capabilities.CapabilityKinds.{object_of}
use Rattle.model.specs.Capabilities.Slots.{Slots, capability_at, is_full}
use Rattle.model.specs.declared.capabilities.Cap.{Cap}
use Rattle.removal_laws.proofs.Laws.{both}

pub no-slot : (first : ℕ) (test : ℕ → Bool) → some_slot first 0 test ≡ false
no-slot first test = some-none first 0 test (λ i less. absurd (omega (arith, less)))

-- what an object's slots are by what is known of it
pub own-is : (slots : Slots) (size : ℕ) (set : Removed) (capability : Cap) (offset : ℕ) (named : Bool) → object_of capability ≡ Some offset →
    named ≡ is_named_beside slots size set offset
    → own_slots slots size set capability ≡ (offset / 16, if named then 0 else slots_named capability)
own-is slots size set capability offset named object is =
    ap (λ (o : Option ℕ). option_map_or (λ at. (at / 16, if is_named_beside slots size set at then 0 else slots_named capability)) o (0, 0))
    object
    ∙ ap (λ b. (offset / 16, if b then 0 else slots_named capability)) (sym is)

pub own-none : (slots : Slots) (size : ℕ) (set : Removed) (capability : Cap) → object_of capability ≡ None → own_slots slots size set capability ≡ (0, 0)
own-none slots size set capability object =
    ap (λ (o : Option ℕ). option_map_or (λ at. (at / 16, if is_named_beside slots size set at then 0 else slots_named capability)) o (0, 0))
    object

-- one of them stays exactly if the object is left so
module _ (slots : Slots) (size : ℕ) (set : Removed) where
  at-object : (count : ℕ) (o : Option ℕ)
      → some_own (option_map_or (λ at. (at / 16, if is_named_beside slots size set at then 0 else count)) o (0, 0)) (stays slots set)
      ≡ option_map_or (λ at. some_slot (at / 16) count (stays slots set) && not (is_named_beside slots size set at)) o false
  at-object count None = no-slot 0 (stays slots set)
  at-object count (Some at) = elim (is_named_beside slots size set at)
      as (λ b. some_slot (at / 16) (if b then 0 else count) (stays slots set) ≡ (some_slot (at / 16) count (stays slots set) && not b)) [
        | true ↦ no-slot (at / 16) (stays slots set) ∙ sym (and-false (some_slot (at / 16) count (stays slots set)))
        | false ↦ sym (and-true (some_slot (at / 16) count (stays slots set)))
      ]

  pub own-filled : (capability : Cap) → some_own (own_slots slots size set capability) (stays slots set) ≡ is_left_filled slots size set capability
  own-filled capability = at-object (slots_named capability) (object_of capability)

  -- where no object that ends has a full slot, none is left filled
  less-passes : (own : ℕ × ℕ) (test more : ℕ → Bool) → ((y : ℕ) → test y ≡ true → more y ≡ true) → some_own own more ≡ false → some_own own test ≡ false
  less-passes own test more is none = some-none own.0 own.1 test (λ i less.
      elim (test (own.0 + i)) as (λ b. test (own.0 + i) ≡ b → b ≡ false) [
        | false ↦ λ _. refl
        | true ↦ λ yes. absurd (let clash : false ≡ true = sym none
            ∙ some-at own.0 own.1 (own.0 + i) more (omega arith) (omega (arith, less)) (is (own.0 + i) yes) in cc)
      ] refl)

  pub none-refused : ((slot : ℕ) → goes slots set slot ≡ true → some_own (own_slots slots size set (capability_at slots slot)) (is_full slots) ≡ false)
      → is_some_left_filled slots size set ≡ false
  none-refused none = some-none 0 size (refuses slots size set) (λ i less.
      elim (goes slots set (0 + i)) as (λ b. goes slots set (0 + i) ≡ b → (b && is_left_filled slots size set (capability_at slots (0 + i))) ≡ false) [
        | false ↦ λ _. refl
        | true ↦ λ is.
            sym (own-filled (capability_at slots (0 + i)))
            ∙ less-passes (own_slots slots size set (capability_at slots (0 + i))) (stays slots set) (is_full slots) (λ y yes. (both (is_full slots y) _ yes).0)
            (none (0 + i) is)
      ] refl)

  -- and where nothing goes, none is
  pub nothing-refused : ((slot : ℕ) → goes slots set slot ≡ false) → is_some_left_filled slots size set ≡ false
  nothing-refused none = some-none 0 size (refuses slots size set)
      (λ i less. ap (λ b. b && is_left_filled slots size set (capability_at slots (0 + i))) (none (0 + i)))

  -- what is asked by marks is asked of what stays
  pub asked-by-marks : (words : List ℕ) → ((slot : ℕ) → is_unmarked slots words slot ≡ stays slots set slot)
      → some_slot 0 size (λ slot. goes slots set slot && some_own (own_slots slots size set (capability_at slots slot)) (is_unmarked slots words))
      ≡ is_some_left_filled slots size set
  asked-by-marks words stay =
      let same : (slot : ℕ) → (goes slots set slot && some_own (own_slots slots size set (capability_at slots slot)) (is_unmarked slots words)) ≡ refuses slots
      size set slot = λ slot.
      ap (λ b. goes slots set slot && b)
      (ap (λ (test : ℕ → Bool). some_own (own_slots slots size set (capability_at slots slot)) test) (λ j y. stay y j) ∙ own-filled (capability_at slots slot))
      in
      ap (λ (test : ℕ → Bool). some_slot 0 size test) (λ j slot. same slot j)
