-- What Delete and Revoke name is found alike on both sides.
use Rattle.std.proofs.Common.{ℕ, ◌≡◌, ◌∙◌, true, Result, Ok, List, sym, ap}
use Rattle.model.specs.declared.capabilities.Cap.{Cap}
use Rattle.model.specs.declared.capabilities.Cap.TheVariants.{CNode}
use Rattle.model.specs.declared.errors.KError.{KError}
use Rattle.model.specs.declared.invocations.SlotName.{SlotName}
use Rattle.model.specs.Acceptance.NotedStates.{NotedSlot, is_foreign, is_own_cnode}
use Rattle.model.specs.Acceptance.ThreadRules.{reached}
use Rattle.model.specs.Capabilities.Slots.{capability_at}
use Rattle.model.specs.Images.Described.{Numbered}
use Rattle.model.specs.Images.Image.{Image}
use Rattle.model.specs.Kernel.Arguments.{◌>>=◌, argument_slot}
use Rattle.model.specs.Kernel.State.{State}
use Rattle.soundness.proofs.Laws.{passes-both}
use Rattle.headline.specs.lookups.Found.{slots_noted}
use Rattle.typestate.specs.Spaces.{is_inside}
use Rattle.headline.specs.invocations.Mirrors.{Mirrors}
use Rattle.headline.proofs.invocations.OwnHeld.{not-false}
use Rattle.headline.proofs.invocations.RemovalSides.{own_set}

module _ (image : Image) (t : Numbered) (s : State) (slots : List NotedSlot) (m : Mirrors image t s slots) where
  -- ---- what the call names

  pub cnode-inside : (slot : ℕ) → own_set image t slot ≡ true → (offset radix guard : ℕ) → capability_at s.slots slot ≡ CNode offset radix guard
      → is_inside image t.thread (capability_at s.slots slot) ≡ true
  cnode-inside slot own offset radix guard is =
      ap (is_inside image t.thread) is
      ∙ not-false (is_own_cnode image (reached image t.thread) offset radix)
      (sym (ap (is_foreign image t.thread (reached image t.thread)) is) ∙ m.home slot own)

  pub record Target (capability : Cap) (name : SlotName) (act : ℕ → Result State KError) (end : State) : Type 0 where
    pub slot : ℕ
    pub own : own_set image t slot ≡ true
    pub there : argument_slot s.slots capability name ≡ Ok slot
    pub noted : argument_slot (slots_noted image t slots) capability name ≡ Ok slot
    pub acts : act slot ≡ Ok end

  pub target : (capability : Cap) (name : SlotName) (act : ℕ → Result State KError) (end : State) → is_inside image t.thread capability ≡ true
      → (argument_slot (slots_noted image t slots) capability name >>= act) ≡ Ok end → Target capability name act end
  target capability name act end inside is =
      let parts = passes-both (argument_slot (slots_noted image t slots) capability name) act end is in
      let there = m.finds capability name inside ∙ parts.first in
      record { slot = parts.value; own = m.finds_own capability name parts.value inside there; there = there; noted = parts.first; acts = parts.rest }
