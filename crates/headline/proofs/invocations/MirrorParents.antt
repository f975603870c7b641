-- What a thread's slots hang below: in the state and among what is noted the same own slots, boot slots of the same depth, and so all depths.
use Rattle.std.proofs.Common.{ℕ, zero, suc, ◌≡◌, ◌∙◌, ◌+◌, ◌^◌, ◌<◌, ◌⊎◌, inl, inr, true, false, if◌then◌else◌, List, Option, Some, None, option_and_then, refl}
use Rattle.std.proofs.Common.{sym, ap, subst}
use Rattle.std.specs.Prelude.{Contains}
use Rattle.std.specs.Option.{option_map_or}
use Rattle.std.proofs.lemmas.Bool.{false≢true}
use Rattle.std.proofs.lemmas.Option.{none-some, same_Some}
use Rattle.model.specs.declared.slot_entries.Entry.{Entry}
use Rattle.model.specs.Acceptance.Authority.{IsOwnSlot}
use Rattle.model.specs.Acceptance.NotedKernel.{kernel_entry, key_of, noted_after, noted_kernel, slot_of_key}
use Rattle.model.specs.Acceptance.NotedStates.{NotedSlot, SlotKey, slot_at}
use Rattle.model.specs.Acceptance.ThreadInvariants.{HasBootParent}
use Rattle.model.specs.Acceptance.ThreadRules.{reached}
use Rattle.model.specs.Capabilities.Slots.{capability_at, depth_of, depth_within, empty_entry, is_full, parent_at}
use Rattle.model.specs.Images.Described.{Numbered}
use Rattle.model.specs.Images.Image.{Image}
use Rattle.model.specs.Kernel.Soundness.{IsSound}
use Rattle.model.specs.Kernel.State.{State}
use Rattle.model.proofs.Depths.{depth-none, depth-some}
use Rattle.headline.specs.facts.Hanging.{HangsAsListed}
use Rattle.headline.specs.lookups.Found.{slots_noted}
use Rattle.headline.proofs.lookups.Laws.{HasKey, entry-noted, found-there, key-found, slot-noted}
use Rattle.typestate.specs.SlotChanges.{boot_depth, noted_depth}
use Rattle.typestate.specs.Spaces.{AreOwn, StandsApart}
use Rattle.typestate.proofs.Laws.{IsNamed, depth-is, key-named, parent-key}
use Rattle.headline.specs.invocations.Changes.{DerivesNear}
use Rattle.headline.specs.invocations.Mirrors.{key_above}
use Rattle.headline.proofs.invocations.BootDepths.{depth-first, hangs-below}
use Rattle.headline.proofs.invocations.OwnNotes.{own-above, own-keyed}

module _ (image : Image) (t : Numbered) (stand : StandsApart image t.thread) (s : State) (sound : IsSound s) (slots : List NotedSlot)
    (same : noted_after image t.thread s.slots ≡ slots) where
  abbrev cnodes : List ℕ
  cnodes = reached image t.thread

  abbrev own : ℕ → Type 0
  own slot = IsOwnSlot image t.thread slot

  -- a slot that is empty derives from nothing
  bare : (slot : ℕ) → is_full s.slots slot ≡ false → parent_at s.slots slot ≡ None
  bare slot empty =
      elim (parent_at s.slots slot) as (λ o. parent_at s.slots slot ≡ o → o ≡ None) [
        | None ↦ λ _. refl
        | Some parent ↦ λ is. absurd (false≢true (sym empty ∙ sound.slots.derivation.child_full slot parent is))
      ] refl

  module _ (slot : ℕ) (of : HasKey image cnodes slot) where
    abbrev full_slot : NotedSlot
    full_slot = record { key = of.key; capability = capability_at s.slots slot; parent = key_above image t s.slots slot }

    pub full-noted : is_full s.slots slot ≡ true → slot_at slots of.key ≡ Some full_slot
    full-noted full = slot-noted image t stand s.slots slots same slot of ∙ ap (λ b. if b then Some full_slot else None) full

    pub none-noted : is_full s.slots slot ≡ false → slot_at slots of.key ≡ None
    none-noted empty = slot-noted image t stand s.slots slots same slot of ∙ ap (λ b. if b then Some full_slot else None) empty

    above-of : (found : Option NotedSlot) → slot_at slots of.key ≡ found
        → key_above image t (slots_noted image t slots) slot
        ≡ option_and_then (key_of image cnodes) (option_map_or (kernel_entry image t.thread) found empty_entry).parent
    above-of found is =
        ap (λ (o : Option Entry). option_and_then (key_of image cnodes) (option_map_or (λ h. h.parent) o None)) (entry-noted image t slots slot of)
        ∙ ap (λ (o : Option NotedSlot). option_and_then (key_of image cnodes) (option_map_or (kernel_entry image t.thread) o empty_entry).parent) is

    same-above : key_above image t s.slots slot ≡ key_above image t (slots_noted image t slots) slot
    same-above = elim (is_full s.slots slot) as (λ b. is_full s.slots slot ≡ b
        → key_above image t s.slots slot ≡ key_above image t (slots_noted image t slots) slot) [
          | true ↦ λ full. sym (above-of (Some full_slot) (full-noted full)
              ∙ parent-key image t.thread stand full_slot (own-above image t.thread (parent_at s.slots slot)))
          | false ↦ λ empty. ap (option_and_then (key_of image cnodes)) (bare slot empty) ∙ sym (above-of None (none-noted empty))
        ] refl

  pub above-same : (slot : ℕ) → own slot → key_above image t s.slots slot ≡ key_above image t (slots_noted image t slots) slot
  above-same slot mine = same-above slot (key-found image cnodes slot mine)

  -- ---- what is no own slot above is a boot slot

  module _ (parents : (noted : NotedSlot) → Contains slots noted → noted.parent ≡ None → HasBootParent s (slot_of_key image noted.key)) where
    boot-above : (slot : ℕ) (of : HasKey image cnodes slot) → is_full s.slots slot ≡ true → key_above image t s.slots slot ≡ None → HasBootParent s slot
    boot-above slot of full none =
        subst (λ (n : ℕ). HasBootParent s n) of.place
        (parents (full_slot slot of) (found-there slots of.key (full_slot slot of) (full-noted slot of full)) none)

    pub near-own : DerivesNear image t s
    near-own slot parent mine is =
        elim (key_of image cnodes parent) as (λ o. key_of image cnodes parent ≡ o → own parent ⊎ (parent < 2 ^ s.boot_radix)) [
          | Some key ↦ λ at. inl (own-keyed image t.thread parent key at)
          | None ↦ λ none.
              let above = boot-above slot (key-found image cnodes slot mine)
              (sound.slots.derivation.child_full slot parent is) (ap (option_and_then (key_of image cnodes)) is ∙ none) in
              inr (subst (λ (n : ℕ). n < 2 ^ s.boot_radix) (same_Some above.parent parent (sym above.is ∙ is)) above.boot)
        ] refl

    -- ---- depths

    module _ (hang : HangsAsListed image t s) where
      -- a boot slot above an own slot
      boot-deep : (slot parent : ℕ) → own slot → parent_at s.slots slot ≡ Some parent → key_of image cnodes parent ≡ None
          → (n : ℕ) → depth_within n (parent_at s.slots) parent ≡ boot_depth n (capability_at s.slots slot)
      boot-deep slot parent mine is none =
          let boot : parent < 2 ^ s.boot_radix = elim (near-own slot parent mine is) [
            | inl inside ↦ let of = key-found image cnodes parent inside in absurd (none-some of.key (sym none ∙ of.at))
            | inr below ↦ below
          ] in
          hangs-below (parent_at s.slots) parent (capability_at s.slots slot) (hang.boot slot parent mine is boot)

      abbrev IsNotedDepth : ℕ → Type 0
      IsNotedDepth n = (slot : ℕ) (of : HasKey image cnodes slot) → depth_within n (parent_at s.slots) slot ≡ noted_depth n slots of.key

      module _ (n : ℕ) (later : IsNotedDepth n) (slot : ℕ) (of : HasKey image cnodes slot) where
        abbrev found_depth : Option NotedSlot → ℕ
        found_depth o = option_map_or (λ (r : NotedSlot). option_map_or (noted_depth n slots) r.parent (boot_depth n r.capability) + 1) o 0

        from-key : (parent : ℕ) (key : Option SlotKey) → parent_at s.slots slot ≡ Some parent → key_of image cnodes parent ≡ key
            → depth_within n (parent_at s.slots) parent ≡ option_map_or (noted_depth n slots) key (boot_depth n (capability_at s.slots slot))
        from-key parent None is none = boot-deep slot parent (own-keyed image t.thread slot of.key of.at) is none n
        from-key parent (Some key) is at =
            let there = key-found image cnodes parent (own-keyed image t.thread parent key at) in
            later parent there ∙ ap (noted_depth n slots) (same_Some there.key key (sym there.at ∙ at))

        from-parent : is_full s.slots slot ≡ true → (above : Option ℕ) → parent_at s.slots slot ≡ above
            → depth_within (suc n) (parent_at s.slots) slot ≡ found_depth (Some (full_slot slot of))
        from-parent full None is =
            let above = boot-above slot of full (ap (option_and_then (key_of image cnodes)) is) in
            absurd (none-some above.parent (sym is ∙ above.is))
        from-parent full (Some parent) is =
            depth-some n (parent_at s.slots) slot parent is ∙ ap (λ (d : ℕ). d + 1) (from-key parent (key_of image cnodes parent) is refl)
            ∙ ap (λ (o : Option ℕ). option_map_or (noted_depth n slots) (option_and_then (key_of image cnodes) o)
            (boot_depth n (capability_at s.slots slot)) + 1) (sym is)

        next-depth : depth_within (suc n) (parent_at s.slots) slot ≡ noted_depth (suc n) slots of.key
        unfolding noted_depth
        next-depth = elim (is_full s.slots slot) as (λ b. is_full s.slots slot ≡ b
            → depth_within (suc n) (parent_at s.slots) slot ≡ found_depth (slot_at slots of.key)) [
              | false ↦ λ empty. depth-none (suc n) (parent_at s.slots) slot (bare slot empty) ∙ ap found_depth (sym (none-noted slot of empty))
              | true ↦ λ full. from-parent full (parent_at s.slots slot) refl ∙ ap found_depth (sym (full-noted slot of full))
            ] refl

      real-depth : (n : ℕ) → IsNotedDepth n
      unfolding noted_depth
      real-depth zero slot of = depth-first (parent_at s.slots) slot
      real-depth (suc n) slot of = next-depth n (real-depth n) slot of

      pub same-depth : AreOwn image t.thread slots → (slot : ℕ) → own slot → depth_of s.slots slot ≡ depth_of (slots_noted image t slots) slot
      unfolding noted_kernel
      same-depth are slot mine =
          let of = key-found image cnodes slot mine in
          real-depth 256 slot of ∙ sym (depth-is image t.thread stand slots are 256 of.key (IsNamed.own (key-named image cnodes slot of.key of.at)))
          ∙ ap (depth_of (slots_noted image t slots)) of.place
