-- What a call on a line leaves is whole.
use Rattle.std.proofs.Common.{ℕ, ◌≡◌, ◌∙◌, false, IsSome, List, Option, Some, None, refl, sym, ap, subst}
use Rattle.kernel_invariant.proofs.Laws.{copy-agrees, follows-law, put-closes}
use Rattle.kernel_invariant.specs.Wholeness.{Agreed, IsWhole}
use Rattle.model.specs.Capabilities.CapabilityKinds.{frame_mapping}
use Rattle.model.specs.Capabilities.CapabilityWords.{IsCapability}
use Rattle.model.specs.Capabilities.Slots.{SameOutside, Slots, capability_at, empty_entry, inserted}
use Rattle.model.specs.Kernel.Kinds.{object_named}
use Rattle.model.specs.Kernel.Soundness.{IsSound}
use Rattle.model.specs.Kernel.State.{with_slots}
use Rattle.model.specs.declared.capabilities.Cap.{Cap}
use Rattle.model.specs.declared.slot_entries.Entry.{Entry}
use Rattle.objects.specs.Tables.{Tables, state_of}
use Rattle.soundness.proofs.Laws.{is_single}

-- a child that names what its parent names
pub record Child (slots : Slots) (slot source : ℕ) (made : Cap) : Type 0 where
  pub empty : slots slot ≡ Some empty_entry
  pub valid : IsCapability made
  pub single : is_single made ≡ false
  pub unmapped : frame_mapping made ≡ None
  pub object : object_named made ≡ object_named (capability_at slots source)

module _ (o : Tables) (slots now : Slots) (old new : List ℕ) (slot source : ℕ) (made : Cap) (agreed : Agreed o slots old) (same : SameOutside slots old new)
    (child : Child slots slot source made) (is : now ≡ inserted slots slot made (Some source)) where
  pub child-state : state_of o now new ≡ with_slots (state_of o slots old) (inserted slots slot made (Some source))
  child-state =
      ap (λ (n : Slots). state_of o n new) is
      ∙ follows-law o slots (inserted slots slot made (Some source)) old new agreed same
      (put-closes slots slot made (Some source) (subst (λ (x : Option Entry). IsSome x) (sym child.empty) refl))

  pub child-whole : IsSound (with_slots (state_of o slots old) (inserted slots slot made (Some source))) → IsWhole o now new
  child-whole sound =
      let after = subst (λ (n : Slots). Agreed o n new) (sym is)
      (copy-agrees o slots old new slot source made agreed same child.empty child.valid child.single child.unmapped child.object) in
      record { sound = subst IsSound (sym child-state) sound; agrees = after.0; stands = after.1 }
