-- Capabilities that an image lists hang below boot slots: pools below memory that derives from nothing, all others one deeper.
use Rattle.std.proofs.Common.{ℕ, ◌≡◌, ◌∙◌, ◌+◌, ◌<◌, inl, inr, true, false, if◌then◌else◌, List, Some, None, option_and_then, refl, sym, ap, subst, arith}
use Rattle.std.specs.Prelude.{slice_get}
use Rattle.std.proofs.lemmas.Bool.{cases_lt, false≢true, le-leb, lt-leb}
use Rattle.std.proofs.lemmas.Option.{none-some, same_Some, slice_get_cases}
use Rattle.format_laws.specs.Fitting.{CapabilityFits, IsFitting, ObjectFits}
use Rattle.format_laws.proofs.Laws.{is-fitting}
use Rattle.soundness.proofs.Laws.{ReadsBoot, are-formed, described-sound, listed-untyped, object-at, source-untyped}
use Rattle.model.specs.declared.capabilities.Cap.{Cap}
use Rattle.model.specs.declared.entries.CapabilityEntry.{CapabilityEntry}
use Rattle.model.specs.Acceptance.Accepted.{IsWellFormed}
use Rattle.model.specs.Acceptance.Authority.{IsOwnSlot}
use Rattle.model.specs.Acceptance.NotedKernel.{key_of, noted_of, slot_of_key}
use Rattle.model.specs.Acceptance.NotedStates.{NotedSlot, SlotKey}
use Rattle.model.specs.Acceptance.ThreadRules.{reached}
use Rattle.model.specs.Acceptance.WellFormed.{is_untyped_type}
use Rattle.model.specs.Capabilities.CapabilityKinds.{is_untyped}
use Rattle.model.specs.Capabilities.Slots.{IsFull, Slots, capability_at, depth_of, parent_at}
use Rattle.model.specs.Images.Described.{Numbered, described, listed_capability, listed_parent}
use Rattle.model.specs.Images.Image.{Image, Thread, whole_image}
use Rattle.model.specs.Images.Places.{cnode_slot, control_slot, handler_slot, interrupt_of, object_at, original_slot, source_boot_slot, type_at}
use Rattle.model.proofs.Depths.{depth-none, depth-some}
use Rattle.headline.proofs.lookups.Laws.{HasKey, key-found}
use Rattle.thread_spaces.specs.Given.{IsListed}
use Rattle.thread_spaces.proofs.Laws.{boot-holds, capability-shown, from-loaded, listed-shown, original-below, parent-in-boot, parent-shown, stands-apart}
use Rattle.headline.proofs.starts.Laws.{IsListedSlot, at-key, slot-listed}
use Rattle.typestate.proofs.Laws.{IsNamed, key-named}
use Rattle.headline.specs.facts.Hanging.{HangsAsListed}

module _ (image : Image) (fits : whole_image.fits image ≡ true) (well : IsWellFormed image) where
  abbrev start : Slots
  start = (described image).slots

  fitting : IsFitting image
  fitting = is-fitting image fits

  first-depth : (slot : ℕ) → parent_at start slot ≡ None → depth_of start slot ≡ 0
  first-depth slot none = depth-none 256 (parent_at start) slot none

  second-depth : (slot above : ℕ) → parent_at start slot ≡ Some above → parent_at start above ≡ None → depth_of start slot ≡ 1
  second-depth slot above is none = depth-some 255 (parent_at start) slot above is ∙ ap (λ (d : ℕ). d + 1) (depth-none 255 (parent_at start) above none)

  original-depth : (number : ℕ) → number < image.header.objects → is_untyped_type (type_at image number) ≡ false
      → depth_of start (original_slot image number) ≡ 1
  original-depth number less plain =
      let below = original-below image fits well number less plain in
      second-depth (original_slot image number) below.above below.parent below.first

  home-depth : (number : ℕ) → number < image.header.objects → depth_of start (object_at image number).untyped ≡ 0
  home-depth number less =
      let home = (object_at image number).untyped in
      let inside = ObjectFits.untyped (IsFitting.object (is-fitting image fits) number (object_at image number)
      (object-at image number (is-fitting image fits) less)) in
      first-depth home (parent-shown image home _
      (from-loaded image home _ (is-fitting image fits) (ReadsBoot.untyped (boot-holds image fits well) home inside)))

  handler-depth : (k : ℕ) → k < image.header.interrupts → depth_of start (handler_slot image k) ≡ 1
  handler-depth k less = elim ((slice_get_cases image.interrupts k).1) [
    | inl some ↦
        let holds = boot-holds image fits well in
        let control = parent-shown image (control_slot image) _ (from-loaded image (control_slot image) _ (is-fitting image fits) (ReadsBoot.control holds)) in
        second-depth (handler_slot image k) (control_slot image)
        (parent-shown image (handler_slot image k) _
        (from-loaded image (handler_slot image k) _ (is-fitting image fits) (ReadsBoot.handler holds k some.0 less some.2)))
        control
    | inr past ↦ absurd (let size = IsFitting.interrupts (is-fitting image fits) in let most = past.0 in omega (arith, less, size, most))
  ]

  -- ---- what is listed

  module _ (k : ℕ) (c : CapabilityEntry) (at : slice_get image.capabilities k ≡ Some c) where
    pool-depth : is_untyped (listed_capability image c) ≡ true → depth_of start (object_at image c.source).untyped ≡ 0
    pool-depth is = elim (cases_lt c.source image.header.objects) [
      | inl object ↦ home-depth c.source object
      | inr handler ↦
          let none = ap (λ b. is_untyped_type (if b then None else type_at image c.source)) (le-leb image.header.objects c.source handler) in
          absurd (false≢true (sym none ∙ sym (listed-untyped image c) ∙ is))
    ]

    other-depth : is_untyped (listed_capability image c) ≡ false → depth_of start (source_boot_slot image c.source) ≡ 1
    other-depth is = elim (cases_lt c.source image.header.objects) [
      | inl object ↦
          subst (λ b. depth_of start (if b then handler_slot image (interrupt_of image c.source) else original_slot image c.source) ≡ 1)
          (sym (lt-leb image.header.objects c.source object))
          (original-depth c.source object (source-untyped image c.source (is-fitting image fits) ∙ sym (listed-untyped image c) ∙ is))
      | inr handler ↦
          subst (λ b. depth_of start (if b then handler_slot image (interrupt_of image c.source) else original_slot image c.source) ≡ 1)
          (sym (le-leb image.header.objects c.source handler))
          (handler-depth (interrupt_of image c.source)
          (let source = CapabilityFits.source (IsFitting.capability (is-fitting image fits) k c at) in omega (arith, source, handler)))
    ]

    listed-depth : depth_of start (listed_parent image c) ≡ (if is_untyped (listed_capability image c) then 0 else 1)
    listed-depth =
        elim (is_untyped (listed_capability image c)) as (λ b. is_untyped (listed_capability image c) ≡ b
        → depth_of start (if b then (object_at image c.source).untyped else source_boot_slot image c.source) ≡ (if b then 0 else 1)) [
          | true ↦ pool-depth
          | false ↦ other-depth
        ] refl

  -- ---- what is in an own slot is listed

  module _ (t : Thread) (listed : IsListed image t) (slot parent : ℕ) (own : IsOwnSlot image t slot) (is : parent_at start slot ≡ Some parent) where
    abbrev cnodes : List ℕ
    cnodes = reached image t

    abbrev noted : SlotKey → NotedSlot
    noted key = record {
      key = key;
      capability = capability_at start (slot_of_key image key);
      parent = option_and_then (key_of image (reached image t)) (parent_at start (slot_of_key image key));
    }

    full-there : IsFull start slot
    full-there = (described-sound image fits well).slots.derivation.child_full slot parent is

    from-key : (of : HasKey image cnodes slot) → depth_of start parent ≡ (if is_untyped (capability_at start slot) then 0 else 1)
    from-key of =
        let full : IsFull start (slot_of_key image of.key) = subst (λ (n : ℕ). IsFull start n) (sym of.place) full-there in
        let there : noted_of image cnodes start of.key ≡ Some (noted of.key) = ap (λ b. if b then Some (noted of.key) else None) full in
        let entry : IsListedSlot image cnodes image.capabilities (noted of.key) =
        slot-listed image cnodes image.capabilities of.key (noted of.key)
        (sym (at-key image t fits well listed of.key (IsNamed.own (key-named image cnodes slot of.key of.at))) ∙ there) in
        let c = entry.entry in
        let place : cnode_slot image c.cnode c.index ≡ slot = ap (λ (s : NotedSlot). slot_of_key image s.key) (sym entry.is) ∙ of.place in
        let shown = listed-shown image fits well entry.place c entry.at in
        let above : listed_parent image c ≡ parent = same_Some _ _ (sym (parent-shown image _ _ shown) ∙ ap (parent_at start) place ∙ is) in
        let held : listed_capability image c ≡ capability_at start slot = sym (capability-shown image _ _ shown) ∙ ap (capability_at start) place in
        ap (depth_of start) (sym above) ∙ listed-depth entry.place c entry.at ∙ ap (λ (d : Cap). if is_untyped d then 0 else 1) held

    pub hangs-so : depth_of start parent ≡ (if is_untyped (capability_at start slot) then 0 else 1)
    hangs-so = from-key (key-found image cnodes slot own)

    pub no-own-parent : IsOwnSlot image t parent → ⊥
    no-own-parent mine =
        let boot = parent-in-boot image (is-fitting image fits) (are-formed image well) slot parent is in
        let of = key-found image cnodes parent mine in
        none-some of.key (sym ((stands-apart image t fits well listed).behind parent (omega (arith, boot))) ∙ of.at)

pub hangs-at-start : (image : Image) (fits : whole_image.fits image ≡ true) (well : IsWellFormed image) (t : Numbered)
    → IsListed image t.thread → HangsAsListed image t (described image)
hangs-at-start image fits well t listed = record {
  boot = λ slot parent own is less. hangs-so image fits well t.thread listed slot parent own is;
  own = λ slot parent own is mine. absurd (no-own-parent image fits well t.thread listed slot parent own is mine);
}
