-- Each own slot holds the noted capability, where what is noted is what its slots hold.
use Rattle.std.proofs.Common.{ℕ, ◌≡◌, ◌∙◌, true, false, not, if◌then◌else◌, Option, Some, None, option_and_then, List, refl, sym, ap}
use Rattle.std.specs.Option.{option_map_or}
use Rattle.model.specs.declared.capabilities.Cap.{Cap}
use Rattle.model.specs.declared.capabilities.Cap.TheVariants.{Empty}
use Rattle.model.specs.declared.slot_entries.Entry.{Entry}
use Rattle.model.specs.Acceptance.Authority.{IsOwnSlot}
use Rattle.model.specs.Acceptance.NotedKernel.{kernel_entry, key_of, noted_after, noted_entry, noted_kernel}
use Rattle.model.specs.Acceptance.NotedStates.{NotedSlot, SlotKey, slot_at}
use Rattle.model.specs.Acceptance.ThreadRules.{reached}
use Rattle.model.specs.Capabilities.Slots.{Slots, capability_at, empty_entry, is_empty, parent_at}
use Rattle.model.specs.Images.Described.{Numbered, described}
use Rattle.model.specs.Images.Image.{Image}
use Rattle.removal_laws.proofs.Laws.{empty-is}
use Rattle.typestate.specs.Spaces.{StandsApart}
use Rattle.headline.specs.lookups.Found.{slots_noted}
use Rattle.headline.proofs.lookups.NotedAfter.{noted-at}
use Rattle.headline.proofs.lookups.ThreadKeys.{HasKey, key-found}

-- the capability of a noted slot; an empty slot is not noted
abbrev pub capability_noted : Option NotedSlot → Cap
capability_noted found = option_map_or (λ s. s.capability) found Empty

module _ (image : Image) (t : Numbered) (slots : List NotedSlot) (slot : ℕ) (of : HasKey image (reached image t.thread) slot) where
  -- what is in an own slot of the kernel in which the rules look up
  pub entry-noted : slots_noted image t slots slot ≡ Some (noted_entry image t.thread slots of.key)
  unfolding noted_kernel
  entry-noted = ap (λ (k : Option SlotKey). option_map_or (λ (key : SlotKey). Some (noted_entry image t.thread slots key)) k ((described image).slots slot))
      of.at

  pub capability-noted : capability_at (slots_noted image t slots) slot ≡ capability_noted (slot_at slots of.key)
  capability-noted =
      ap (λ (held : Option Entry). option_map_or (λ h. h.capability) held Empty) entry-noted
      ∙ by-found (slot_at slots of.key)
    where
      by-found : (found : Option NotedSlot) → (option_map_or (kernel_entry image t.thread) found empty_entry).capability ≡ capability_noted found
      by-found None = refl
      by-found (Some s) = refl

module _ (image : Image) (t : Numbered) (stand : StandsApart image t.thread) (after : Slots) (slots : List NotedSlot)
    (same : noted_after image t.thread after ≡ slots) where
  abbrev cnodes : List ℕ
  cnodes = reached image t.thread

  module _ (slot : ℕ) (of : HasKey image cnodes slot) where
    -- what is noted of an own slot, full or empty
    pub slot-noted : slot_at slots of.key
        ≡ (if not (is_empty (capability_at after slot))
        then Some (record { key = of.key; capability = capability_at after slot; parent = option_and_then (key_of image cnodes) (parent_at after slot) })
        else None)
    slot-noted =
        ap (λ (noted : List NotedSlot). slot_at noted of.key) (sym same) ∙ noted-at image t.thread stand after slot of
        ∙ ap (λ (n : ℕ). if not (is_empty (capability_at after n))
        then Some (let s : NotedSlot = record {
          key = of.key;
          capability = capability_at after n;
          parent =
              option_and_then (key_of image cnodes) (parent_at after n);
        } in s)
        else None) of.place

    held-there : capability_noted (slot_at slots of.key) ≡ capability_at after slot
    held-there =
        ap capability_noted slot-noted ∙ by-capability (capability_at after slot) (option_and_then (key_of image cnodes) (parent_at after slot))
      where
        by-capability : (c : Cap) (parent : Option SlotKey)
            → capability_noted (if not (is_empty c) then Some (record { key = of.key; capability = c; parent = parent }) else None) ≡ c
        by-capability c parent =
            let s : NotedSlot = record { key = of.key; capability = c; parent = parent } in
            elim (is_empty c) as (λ b. is_empty c ≡ b → capability_noted (if not b then Some s else None) ≡ c) [
              | true ↦ λ is. sym (empty-is c is)
              | false ↦ λ _. refl
            ] refl

    pub keyed-same : capability_at after slot ≡ capability_at (slots_noted image t slots) slot
    keyed-same = sym held-there ∙ sym (capability-noted image t slots slot of)

  pub own-same : (slot : ℕ) → IsOwnSlot image t.thread slot → capability_at after slot ≡ capability_at (slots_noted image t slots) slot
  own-same slot own = keyed-same slot (key-found image cnodes slot own)
