-- How own slots hang where others of them were removed: below what was above the removed ones.
use Rattle.std.proofs.Common.{ℕ, ◌≡◌, ◌∙◌, ◌^◌, ◌<◌, ◌⊎◌, inl, inr, Bool, true, false, if◌then◌else◌, Option, Some, None, List, refl, sym, ap, subst, arith}
use Rattle.std.specs.Option.{option_map_or}
use Rattle.std.proofs.lemmas.Option.{none-some}
use Rattle.headline.specs.facts.Hanging.{HangsAsListed}
use Rattle.model.specs.Acceptance.NotedStates.{NotedSlot}
use Rattle.model.specs.Capabilities.CapabilityKinds.{is_untyped}
use Rattle.model.specs.Capabilities.Slots.{capability_at, depth_of, parent_at}
use Rattle.model.specs.Images.Described.{Numbered}
use Rattle.model.specs.Images.Image.{Image}
use Rattle.model.specs.Kernel.Removal.{SlotSet, ancestor_outside, emptied, kept, loses_last_child, new_parent, slots_emptied, with_bindings}
use Rattle.model.specs.Kernel.State.{State}
use Rattle.model.specs.declared.capabilities.Cap.TheVariants.{Empty}
use Rattle.model.specs.declared.slot_entries.Entry.{Entry}
use Rattle.removal_laws.proofs.Laws.{outside-found, outside-none, outside-out}
use Rattle.headline.specs.invocations.Changes.{DerivesNear}
use Rattle.headline.specs.invocations.Mirrors.{Mirrors}
use Rattle.headline.proofs.invocations.DepthsKept.{depth-kept}
use Rattle.headline.proofs.invocations.EmptiedSlots.{capability-left, parent-left, reset-untyped}
use Rattle.headline.proofs.invocations.NotedRemoval.{out-there}
use Rattle.headline.proofs.invocations.OtherSlotsLeft.{other-kept}
use Rattle.headline.proofs.invocations.OtherParents.{full-in, parent-stays}
use Rattle.headline.proofs.invocations.RealRemoval.{kept-reset}
use Rattle.headline.proofs.invocations.RemovalSides.{boot-out, own_set}

module _ (image : Image) (t : Numbered) (s : State) (slots : List NotedSlot) (m : Mirrors image t s slots) (set : SlotSet)
    (inside : (slot : ℕ) → set slot ≡ true → own_set image t slot ≡ true)
    (pools : (slot : ℕ) → set slot ≡ true → is_untyped (capability_at s.slots slot) ≡ false) where
  abbrev all : SlotSet
  all = with_bindings s set

  -- it hung there before, or below a slot of the thread's, above which a removed one hung there
  pub data HangsThere (slot parent : ℕ) : Type 0 where
    direct : parent_at s.slots slot ≡ Some parent → HangsThere slot parent
    through : (p z : ℕ) → parent_at s.slots slot ≡ Some p → own_set image t p ≡ true → set z ≡ true → parent_at s.slots z ≡ Some parent → HangsThere slot parent

  by-parent : (slot parent : ℕ) (o : Option ℕ) → parent_at s.slots slot ≡ o → ancestor_outside 256 all s.slots o ≡ Some parent → HangsThere slot parent
  by-parent slot parent None none is = absurd (none-some parent (sym (outside-none 256 all s.slots) ∙ is))
  by-parent slot parent (Some p) up is = elim (own_set image t p) as (λ b. own_set image t p ≡ b → HangsThere slot parent) [
    | true ↦ λ own. elim (outside-found 256 all s.slots (Some p) parent is) [
      | inl same ↦ direct (up ∙ same)
      | inr (z, there, above) ↦
          through p z up own (full-in image t s slots m set inside pools z (m.all.sound.slots.derivation.child_full z parent above) there) above
    ]
    | false ↦ λ out. direct (up ∙ sym (outside-out 255 all s.slots p (parent-stays image t s slots m set inside pools slot p up out)) ∙ is)
  ] refl

  pub stays-with : (slot parent : ℕ) → parent_at (slots_emptied s all) slot ≡ Some parent → all slot ≡ false
  stays-with slot parent is = elim (all slot) as (λ b. all slot ≡ b → b ≡ false) [
    | false ↦ λ _. refl
    | true ↦ λ gone. absurd (none-some parent (sym (parent-left s all slot ∙ ap (λ b. if b then None else new_parent s all slot) gone) ∙ is))
  ] refl

  pub hangs-there : (slot parent : ℕ) → parent_at (slots_emptied s all) slot ≡ Some parent → HangsThere slot parent
  hangs-there slot parent is =
      by-parent slot parent (parent_at s.slots slot) refl
      (sym (parent-left s all slot ∙ ap (λ b. if b then None else new_parent s all slot) (stays-with slot parent is)) ∙ is)

  near-there : (slot parent : ℕ) → own_set image t slot ≡ true → HangsThere slot parent → (own_set image t parent ≡ true) ⊎ (parent < 2 ^ s.boot_radix)
  near-there slot parent own (direct up) = m.near slot parent own up
  near-there slot parent own (through p z up there here above) = m.near z parent (inside z here) above

  pub near-left : DerivesNear image t (emptied s (with_bindings s set))
  near-left slot parent own is = near-there slot parent own (hangs-there slot parent is)

  -- ---- depths

  pub boot-away : (parent : ℕ) → parent < 2 ^ s.boot_radix → own_set image t parent ≡ false
  boot-away parent boot =
      let below : parent < 2 ^ image.header.boot_radix = subst (λ (n : ℕ). parent < 2 ^ n) m.all.boot_radix boot in
      boot-out image t m.stand parent (omega (arith, below))

  depth-left : (parent : ℕ) → parent < 2 ^ s.boot_radix → depth_of (slots_emptied s all) parent ≡ depth_of s.slots parent
  depth-left parent boot =
      depth-kept (parent_at s.slots) (parent_at (slots_emptied s all)) (λ p. own_set image t p ≡ false)
      (λ p out. ap (λ (o : Option Entry). option_map_or (λ h. h.parent) o None) (other-kept image t s slots m set inside pools p out))
      (λ p q out up. out-there image t s slots m p q out up) 256 parent (boot-away parent boot)

  untyped-left : (slot parent : ℕ) → parent_at (slots_emptied s all) slot ≡ Some parent
      → is_untyped (capability_at (slots_emptied s all) slot) ≡ is_untyped (capability_at s.slots slot)
  untyped-left slot parent is =
      ap is_untyped (capability-left s all slot ∙ ap (λ b. if b then Empty else kept s all slot (capability_at s.slots slot)) (stays-with slot parent is)
      ∙ kept-reset image t s slots m set inside slot (capability_at s.slots slot))
      ∙ reset-untyped (loses_last_child s all slot) (capability_at s.slots slot)

  boot-there : (slot parent : ℕ) → own_set image t slot ≡ true → parent < 2 ^ s.boot_radix → HangsThere slot parent
      → depth_of s.slots parent ≡ (if is_untyped (capability_at s.slots slot) then 0 else 1)
  boot-there slot parent own boot (direct up) = m.hang.boot slot parent own up boot
  boot-there slot parent own boot (through p z up there here above) =
      m.hang.boot z parent (inside z here) above boot ∙ ap (λ (b : Bool). if b then 0 else 1) (pools z here)
      ∙ sym (ap (λ (b : Bool). if b then 0 else 1) (m.hang.own slot p own up there))

  own-there : (slot parent : ℕ) → own_set image t slot ≡ true → own_set image t parent ≡ true → HangsThere slot parent
      → is_untyped (capability_at s.slots slot) ≡ false
  own-there slot parent own mine (direct up) = m.hang.own slot parent own up mine
  own-there slot parent own mine (through p z up there here above) = m.hang.own slot p own up there

  pub hang-left : HangsAsListed image t (emptied s (with_bindings s set))
  hang-left = record {
    boot = λ slot parent own is boot.
        depth-left parent boot ∙ boot-there slot parent own boot (hangs-there slot parent is)
        ∙ sym (ap (λ (b : Bool). if b then 0 else 1) (untyped-left slot parent is));
    own = λ slot parent own is mine. untyped-left slot parent is ∙ own-there slot parent own mine (hangs-there slot parent is);
  }
