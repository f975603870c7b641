-- Slots that are none of the thread's keep their parents and their capabilities where own slots are removed.
use Rattle.std.proofs.Common.{ℕ, ◌≡◌, ◌∙◌, ◌^◌, ◌<◌, ◌&&◌, inl, inr, Bool, true, false, not, if◌then◌else◌, Option, Some, None, List, refl, sym, ap, subst}
use Rattle.std.proofs.Common.{arith}
use Rattle.std.specs.Option.{option_map_or}
use Rattle.std.specs.List.{list_any}
use Rattle.std.proofs.lemmas.Bool.{and_parts, eqb-true, false≢true}
use Rattle.model.proofs.Depths.{depth-none}
use Rattle.model.specs.Acceptance.NotedStates.{NotedSlot}
use Rattle.model.specs.Capabilities.CapabilityKinds.{is_untyped}
use Rattle.model.specs.Capabilities.Slots.{IsFull, capability_at, depth_of, is_empty, parent_at}
use Rattle.model.specs.Images.Described.{Numbered}
use Rattle.model.specs.Images.Image.{Image}
use Rattle.model.specs.Kernel.Removal.{SlotSet, ancestor_outside, is_some_slot, kept, loses_last_child, new_parent, with_bindings}
use Rattle.model.specs.Kernel.State.{State, slots_of}
use Rattle.model.specs.declared.capabilities.Cap.{Cap}
use Rattle.model.specs.declared.capabilities.Cap.TheVariants.{Empty, Untyped, Endpoint, Notification, CNode, Frame, PageTable, Tcb, RootTable, InterruptControl}
use Rattle.model.specs.declared.capabilities.Cap.TheVariants.{InterruptHandler}
use Rattle.model.specs.declared.slot_entries.Entry.{Entry}
use Rattle.removal_laws.proofs.Laws.{found-where, outside-none, outside-out}
use Rattle.typestate.proofs.Laws.{reset}
use Rattle.headline.specs.invocations.Mirrors.{Mirrors}
use Rattle.headline.proofs.invocations.BootPools.{first-or-unused, marked}
use Rattle.headline.proofs.invocations.EmptiedSlots.{reset-none}
use Rattle.headline.proofs.invocations.RealRemoval.{kept-reset, set-or-empty}
use Rattle.headline.proofs.invocations.RemovalSides.{other-out, out-other, own_set}

reset-unused : (b : Bool) (c : Cap) → marked c ≡ 0 → reset b c ≡ c
reset-unused false c none = reset-none c
reset-unused true Empty none = refl
reset-unused true (Untyped offset bits watermark) none = ap (Untyped offset bits) (sym none)
reset-unused true (Endpoint _ _ _) none = refl
reset-unused true (Notification _ _ _) none = refl
reset-unused true (CNode _ _ _) none = refl
reset-unused true (Frame _ _ _) none = refl
reset-unused true (PageTable _ _) none = refl
reset-unused true (Tcb _) none = refl
reset-unused true (RootTable _) none = refl
reset-unused true InterruptControl none = refl
reset-unused true (InterruptHandler _) none = refl

child-is : (slot : ℕ) (o : Option ℕ) → is_some_slot slot o ≡ true → o ≡ Some slot
child-is slot None is = absurd (false≢true is)
child-is slot (Some p) is = ap Some (eqb-true p slot is)

module _ (image : Image) (t : Numbered) (s : State) (slots : List NotedSlot) (m : Mirrors image t s slots) (set : SlotSet)
    (inside : (slot : ℕ) → set slot ≡ true → own_set image t slot ≡ true)
    (pools : (slot : ℕ) → set slot ≡ true → is_untyped (capability_at s.slots slot) ≡ false) where
  abbrev all : SlotSet
  all = with_bindings s set

  -- what has or is a parent is in the set itself
  pub full-in : (slot : ℕ) → IsFull s.slots slot → with_bindings s set slot ≡ true → set slot ≡ true
  full-in slot full is = elim (set-or-empty image t s slots m set inside slot is) [
    | inl here ↦ here
    | inr empty ↦ absurd (false≢true (sym (ap (λ c. not (is_empty c)) empty) ∙ full))
  ]

  -- a parent that is none of the thread's stays
  pub parent-stays : (slot parent : ℕ) → parent_at s.slots slot ≡ Some parent → own_set image t parent ≡ false → with_bindings s set parent ≡ false
  parent-stays slot parent up out = elim (all parent) as (λ b. all parent ≡ b → b ≡ false) [
    | true ↦ λ is. absurd (false≢true (sym out ∙ inside parent (full-in parent (m.all.sound.slots.derivation.parent_full slot parent up) is)))
    | false ↦ λ _. refl
  ] refl

  module _ (slot : ℕ) (other : own_set image t slot ≡ false) where
    -- ---- its parent

    pub same-parent : new_parent s all slot ≡ parent_at s.slots slot
    same-parent = by-parent (parent_at s.slots slot) refl
      where
        by-parent : (o : Option ℕ) → parent_at s.slots slot ≡ o → ancestor_outside 256 all s.slots o ≡ o
        by-parent None none = outside-none 256 all s.slots
        by-parent (Some p) up =
            outside-out 255 all s.slots p (parent-stays slot p up (other-out image t p (m.outside slot p (out-other image t slot other) up)))

    -- ---- its capability

    record LostChild : Type 0 where
      pub child : ℕ
      pub here : set child ≡ true
      pub up : parent_at s.slots child ≡ Some slot

    lost-child : loses_last_child s all slot ≡ true → LostChild
    lost-child lost =
        let went : ℕ → Bool = λ child. all child && is_some_slot slot (parent_at s.slots child) in
        let parts = and_parts (list_any went (slots_of s))
        (not (list_any (λ child. not (all child) && is_some_slot slot (new_parent s all child)) (slots_of s))) lost in
        let place = found-where s.memory_bits went parts.0 in
        let both = and_parts (all place.0) (is_some_slot slot (parent_at s.slots place.0)) place.1 in
        let up = child-is slot (parent_at s.slots place.0) both.1 in
        record { child = place.0; here = full-in place.0 (m.all.sound.slots.derivation.child_full place.0 slot up) both.0; up = up }

    boot-parent : LostChild → slot < 2 ^ s.boot_radix
    boot-parent c = elim (m.near c.child slot (inside c.child c.here) c.up) [
      | inl own ↦ absurd (false≢true (sym other ∙ own))
      | inr boot ↦ boot
    ]

    -- a boot slot that loses a child is not the untyped memory of a pool
    loses-nothing : LostChild → marked (capability_at s.slots slot) ≡ 0
    loses-nothing c =
        let boot = boot-parent c in
        let deep : depth_of s.slots slot ≡ 1 =
        m.hang.boot c.child slot (inside c.child c.here) c.up boot ∙ ap (λ (b : Bool). if b then 0 else 1) (pools c.child c.here) in
        let below : slot < 2 ^ image.header.boot_radix = subst (λ (n : ℕ). slot < 2 ^ n) m.all.boot_radix boot in
        let same = m.boot slot (omega (arith, below)) in
        elim (first-or-unused image slot) [
          | inl first ↦
              let flat : depth_of s.slots slot ≡ 0 =
              depth-none 256 (parent_at s.slots) slot (ap (λ (o : Option Entry). option_map_or (λ h. h.parent) o None) same ∙ first) in
              absurd (omega (arith, deep, flat))
          | inr unused ↦ ap (λ (o : Option Entry). marked (option_map_or (λ h. h.capability) o Empty)) same ∙ unused
        ]

    pub same-capability : kept s all slot (capability_at s.slots slot) ≡ capability_at s.slots slot
    same-capability =
        kept-reset image t s slots m set inside slot (capability_at s.slots slot)
        ∙ (elim (loses_last_child s all slot) as (λ b. loses_last_child s all slot ≡ b → reset b (capability_at s.slots slot) ≡ capability_at s.slots slot) [
          | true ↦ λ lost. reset-unused true (capability_at s.slots slot) (loses-nothing (lost-child lost))
          | false ↦ λ _. reset-none (capability_at s.slots slot)
        ] refl)
