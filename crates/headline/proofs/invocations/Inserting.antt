-- A new capability in one of a thread's slots, below another of them.
use Rattle.std.proofs.Common.{ℕ, ◌≡◌, ◌∙◌, ◌==◌, inl, inr, true, false, if◌then◌else◌, List, Option, Some, None, option_and_then, refl, sym, ap, subst}
use Rattle.std.proofs.lemmas.Bool.Decides.{eqb_tells}
use Rattle.std.proofs.lemmas.Option.{none-some, same_Some}
use Rattle.model.specs.declared.capabilities.Cap.{Cap}
use Rattle.model.specs.declared.slot_entries.Entry.{Entry}
use Rattle.model.specs.Acceptance.Authority.{IsOwnSlot}
use Rattle.model.specs.Acceptance.NotedKernel.{key_of, noted_after}
use Rattle.model.specs.Acceptance.NotedStates.{NotedSlot}
use Rattle.model.specs.Acceptance.ThreadRules.{reached}
use Rattle.model.specs.Capabilities.CapabilityKinds.{frame_mapping, is_untyped}
use Rattle.model.specs.Capabilities.Slots.{Slots, capability_at, inserted, with_entry}
use Rattle.model.specs.Images.Described.{Numbered}
use Rattle.model.specs.Images.Image.{Image}
use Rattle.model.specs.Kernel.Kinds.{Names}
use Rattle.model.specs.Kernel.Retype.{NewFrame}
use Rattle.model.specs.Kernel.State.{State, with_slots}
use Rattle.headline.specs.lookups.Found.{slots_noted}
use Rattle.headline.specs.invocations.Changes.{ChangesOwn, IsOther}
use Rattle.headline.specs.invocations.Mirrors.{Mirrors}
use Rattle.headline.proofs.invocations.Changing.{changes}
use Rattle.headline.proofs.invocations.Follows.{Follows, follows-same, held_capability, held_parent}
use Rattle.headline.proofs.invocations.NotedSame.{noted-same}

-- ---- one slot with another entry

pub entry-other : (image : Image) (t : Numbered) (slots : Slots) (slot x : ℕ) (held : Option Entry) → IsOwnSlot image t.thread slot → IsOther image t x
    → with_entry slots slot held x ≡ slots x
entry-other image t slots slot x held own other = elim (eqb_tells x slot) [
  | inl same ↦ absurd (other (subst (λ (n : ℕ). IsOwnSlot image t.thread n) (sym same.1) own))
  | inr differs ↦ ap (λ b. if b then held else slots x) differs.0
]

-- two entries that are noted the same
pub record IsSameHeld (image : Image) (t : Numbered) (a b : Option Entry) : Type 0 where
  pub capability : held_capability a ≡ held_capability b
  pub above : option_and_then (key_of image (reached image t.thread)) (held_parent a) ≡ option_and_then (key_of image (reached image t.thread)) (held_parent b)

pub noted-alike : (image : Image) (t : Numbered) (a b : Slots) → ((slot : ℕ) → IsOwnSlot image t.thread slot → IsSameHeld image t (a slot) (b slot))
    → noted_after image t.thread a ≡ noted_after image t.thread b
noted-alike image t a b same = noted-same image t a b (λ slot own. (same slot own).capability) (λ slot own. (same slot own).above)

module _ (image : Image) (t : Numbered) (s : State) (slots : List NotedSlot) (m : Mirrors image t s slots) where
  pub same-held : (slot : ℕ) → IsOwnSlot image t.thread slot → IsSameHeld image t (s.slots slot) (slots_noted image t slots slot)
  same-held slot own = record { capability = m.held slot own; above = m.above slot own }

  -- ---- the new one

  module _ (slot source : ℕ) (own : IsOwnSlot image t.thread slot) (mine : IsOwnSlot image t.thread source) (new : Cap)
      (unmapped : frame_mapping new ≡ None) (frames : (frame : ℕ) → Names NewFrame frame new → Names NewFrame frame (capability_at s.slots source))
      (no_pool : is_untyped new ≡ false) where
    abbrev added : Option Entry
    added = Some (record { capability = new; parent = Some source })

    follows-added : Follows image t s added
    follows-added = record {
      from = source;
      own = mine;
      frames = frames;
      maps = λ mapping is. absurd (none-some mapping (sym unmapped ∙ is));
      parents = λ parent is. inr (subst (λ (n : ℕ). IsOwnSlot image t.thread n) (same_Some source parent is) mine, no_pool);
    }

    pub inserted-changes : ChangesOwn image t s (with_slots s (inserted s.slots slot new (Some source)))
        (noted_after image t.thread (inserted (slots_noted image t slots) slot new (Some source)))
    inserted-changes =
        changes image t s slots m (inserted s.slots slot new (Some source)) (λ x other. entry-other image t s.slots slot x added own other)
        (λ x is_own. elim (x == slot) as (λ b. Follows image t s (if b then added else s.slots x))
        [ true ↦ follows-added | false ↦ follows-same image t s x is_own ])
        (noted_after image t.thread (inserted (slots_noted image t slots) slot new (Some source)))
        (noted-alike image t (inserted s.slots slot new (Some source)) (inserted (slots_noted image t slots) slot new (Some source)) (λ x is_own.
        elim (x == slot) as (λ b. IsSameHeld image t (if b then added else s.slots x) (if b then added else slots_noted image t slots x)) [
          | true ↦ record { capability = refl; above = refl }
          | false ↦ same-held x is_own
        ]))
