-- Another capability in one of a thread's slots, with the same parent.
use Rattle.std.proofs.Common.{ℕ, ◌≡◌, ◌==◌, ◌⊎◌, inl, true, false, if◌then◌else◌, List, Option, Some, refl}
use Rattle.model.specs.declared.capabilities.Cap.{Cap}
use Rattle.model.specs.declared.capabilities.FrameMapping.{FrameMapping}
use Rattle.model.specs.declared.slot_entries.Entry.{Entry}
use Rattle.model.specs.Acceptance.Authority.{IsOwnSlot}
use Rattle.model.specs.Acceptance.NotedKernel.{noted_after}
use Rattle.model.specs.Acceptance.NotedStates.{NotedSlot}
use Rattle.model.specs.Acceptance.ThreadInvariants.{root_table_of}
use Rattle.model.specs.Capabilities.CapabilityKinds.{frame_mapping, is_untyped}
use Rattle.model.specs.Capabilities.Slots.{capability_at, parent_at, recapped}
use Rattle.model.specs.Images.Described.{Numbered}
use Rattle.model.specs.Images.Image.{Image}
use Rattle.model.specs.Kernel.Kinds.{Names}
use Rattle.model.specs.Kernel.Retype.{NewFrame}
use Rattle.model.specs.Kernel.State.{State, with_slots}
use Rattle.headline.specs.lookups.Found.{slots_noted}
use Rattle.headline.specs.invocations.Changes.{ChangesOwn}
use Rattle.headline.specs.invocations.Mirrors.{Mirrors}
use Rattle.headline.proofs.invocations.Changing.{changes}
use Rattle.headline.proofs.invocations.Follows.{Follows, follows-same}
use Rattle.headline.proofs.invocations.Inserting.{IsSameHeld, entry-other, noted-alike, same-held}

module _ (image : Image) (t : Numbered) (s : State) (slots : List NotedSlot) (m : Mirrors image t s slots) (slot : ℕ)
    (own : IsOwnSlot image t.thread slot) (new : Cap)
    (frames : (frame : ℕ) → Names NewFrame frame new → Names NewFrame frame (capability_at s.slots slot))
    (maps : (mapping : FrameMapping) → frame_mapping new ≡ Some mapping
    → (frame_mapping (capability_at s.slots slot) ≡ Some mapping) ⊎ (mapping.root ≡ root_table_of image t))
    (pool : is_untyped new ≡ is_untyped (capability_at s.slots slot)) where
  abbrev there : Option Entry
  there = Some (record { capability = new; parent = parent_at s.slots slot })

  follows-there : Follows image t s there
  follows-there = record { from = slot; own = own; frames = frames; maps = maps; parents = λ parent is. inl (is, pool) }

  pub recapped-changes : ChangesOwn image t s (with_slots s (recapped s.slots slot new))
      (noted_after image t.thread (recapped (slots_noted image t slots) slot new))
  recapped-changes =
      changes image t s slots m (recapped s.slots slot new) (λ x other. entry-other image t s.slots slot x there own other)
      (λ x is_own. elim (x == slot) as (λ b. Follows image t s (if b then there else s.slots x))
      [ true ↦ follows-there | false ↦ follows-same image t s x is_own ])
      (noted_after image t.thread (recapped (slots_noted image t slots) slot new))
      (noted-alike image t (recapped s.slots slot new) (recapped (slots_noted image t slots) slot new) (λ x is_own.
      elim (x == slot) as (λ b. IsSameHeld image t (if b then there else s.slots x)
      (if b then Some (record { capability = new; parent = parent_at (slots_noted image t slots) slot }) else slots_noted image t slots x)) [
        | true ↦ record { capability = refl; above = m.above slot own }
        | false ↦ same-held image t s slots m x is_own
      ]))
