-- A thread's frames are mapped under no other thread's root table: a page is mapped once, and what is mapped there the other thread's
-- slots or boot slots map.
use Rattle.std.proofs.Common.{ℕ, ◌≡◌, ◌∙◌, ◌==◌, ◌/◌, ◌^◌, ◌<◌, ◌≤◌, inl, inr, true, List, Option, Some, refl, sym, ap, subst, arith}
use Rattle.std.specs.Prelude.{Contains}
use Rattle.std.specs.Option.{option_map_or}
use Rattle.std.proofs.lemmas.Bool.{and_from, eq-eqb}
use Rattle.std.proofs.lemmas.Option.{none-some, slice_get_within}
use Rattle.format_laws.specs.Fitting.{IsFitting}
use Rattle.format_laws.proofs.Laws.{is-fitting}
use Rattle.soundness.proofs.Laws.{ReadsBoot, are-formed, boot-slots-suffice}
use Rattle.model.specs.declared.capabilities.Cap.{Cap}
use Rattle.model.specs.declared.capabilities.Cap.TheVariants.{Empty, Untyped, Endpoint, Notification, CNode, Frame, PageTable, Tcb, RootTable, InterruptControl}
use Rattle.model.specs.declared.capabilities.Cap.TheVariants.{InterruptHandler}
use Rattle.model.specs.declared.capabilities.FrameMapping.{FrameMapping}
use Rattle.model.specs.declared.labels.Label.{Label}
use Rattle.model.specs.declared.rights.Rights.{Rights}
use Rattle.model.specs.declared.slot_entries.Entry.{Entry}
use Rattle.model.specs.Acceptance.Accepted.{IsWellFormed}
use Rattle.model.specs.Acceptance.Authority.{IsOwnSlot}
use Rattle.model.specs.Acceptance.NotedKernel.{noted_after, slot_of_key}
use Rattle.model.specs.Acceptance.NotedStates.{NotedSlot}
use Rattle.model.specs.Acceptance.ThreadInvariants.{ImageMaps, NotedMaps, root_table_of}
use Rattle.model.specs.Capabilities.CapabilityKinds.{frame_mapping}
use Rattle.model.specs.Capabilities.Rights.{frame_rights}
use Rattle.model.specs.Capabilities.Slots.{capability_at}
use Rattle.model.specs.Images.Described.{Numbered, described, numbered_threads}
use Rattle.model.specs.Images.Image.{Image, whole_image}
use Rattle.model.specs.Images.Places.{boot_slots, frame_copy_slot, offset_of}
use Rattle.model.specs.Kernel.AddressSpaces.{Maps, maps_page, page_size}
use Rattle.model.specs.Kernel.State.{State}
use Rattle.headline.specs.facts.Standing.{AllStand}
use Rattle.headline.proofs.kept.Laws.{IsOwnKey, each-contained, noted-own}
use Rattle.thread_spaces.proofs.Laws.{boot-holds, capability-shown, from-loaded}
use Rattle.headline.proofs.starts.Laws.{contained}
use Rattle.headline.specs.invocations.Changes.{MapsNothingElse}
use Rattle.headline.proofs.invocations.OwnNotes.{noted-holds}
use Rattle.headline.proofs.invocations.OtherSlots.{StandsSomewhere, boot-kept, boot-other, stands-somewhere}
use Rattle.headline.proofs.invocations.TwoThreads.{one-owner}

-- ---- what maps a page

record IsFrame (c : Cap) (mapping : FrameMapping) : Type 0 where
  pub frame : ℕ
  pub held : Rights
  pub is : c ≡ Frame frame held (Some mapping)

frame-of : (c : Cap) (mapping : FrameMapping) → frame_mapping c ≡ Some mapping → IsFrame c mapping
frame-of Empty mapping is = absurd (none-some mapping is)
frame-of (Untyped _ _ _) mapping is = absurd (none-some mapping is)
frame-of (Endpoint _ _ _) mapping is = absurd (none-some mapping is)
frame-of (Notification _ _ _) mapping is = absurd (none-some mapping is)
frame-of (CNode _ _ _) mapping is = absurd (none-some mapping is)
frame-of (Frame offset r m) mapping is = record { frame = offset; held = r; is = ap (λ (o : Option FrameMapping). Frame offset r o) is }
frame-of (PageTable _ _) mapping is = absurd (none-some mapping is)
frame-of (Tcb _) mapping is = absurd (none-some mapping is)
frame-of (RootTable _) mapping is = absurd (none-some mapping is)
frame-of InterruptControl mapping is = absurd (none-some mapping is)
frame-of (InterruptHandler _) mapping is = absurd (none-some mapping is)

maps-own : (c : Cap) (root page frame : ℕ) (held allowed : Rights)
    → c ≡ Frame frame held (Some (record { root = root; page = page; rights = allowed })) → maps_page root page c ≡ true
maps-own c root page frame held allowed is =
    ap (maps_page root page) is ∙ and_from (root == root) (page == page) (eq-eqb root root refl) (eq-eqb page page refl)

module _ (image : Image) (fits : whole_image.fits image ≡ true) (well : IsWellFormed image) where
  -- the boot slot of a mapping of the image's
  pub record MapsInBoot (u : Numbered) (page frame : ℕ) (allowed : Rights) : Type 0 where
    pub slot : ℕ
    pub boot : slot < 2 ^ image.header.boot_radix
    pub held : Rights
    pub capability : capability_at (described image).slots slot
        ≡ Frame frame held (Some (record { root = root_table_of image u; page = page; rights = allowed }))

  pub maps-in-boot : (u : Numbered) (page frame : ℕ) (allowed : Rights) → ImageMaps image u page frame allowed → MapsInBoot u page frame allowed
  maps-in-boot u page frame allowed maps =
      let fitting = is-fitting image fits in
      let f = maps.entry in
      let place = contained image.frames f maps.listed in
      let k = place.0 in
      let less : k < image.header.frames = subst (λ (n : ℕ). k < n) (IsFitting.frames fitting) (slice_get_within image.frames k f place.1) in
      let enough : boot_slots image ≤ 2 ^ image.header.boot_radix = boot-slots-suffice image fitting (are-formed image well) in
      let shown = from-loaded image (frame_copy_slot image k) _ fitting (ReadsBoot.frame (boot-holds image fits well) k f less place.1) in
      let same_page : f.address / page_size ≡ page = omega (arith, maps.address) in
      let same_root : offset_of image f.root ≡ root_table_of image u = ap (offset_of image) maps.root in
      record {
        slot = frame_copy_slot image k;
        boot = omega (arith, less, enough);
        held = frame_rights;
        capability = capability-shown image (frame_copy_slot image k) _ shown
            ∙ (λ i. Frame (sym maps.object i) frame_rights (Some (record { root = same_root i; page = same_page i; rights = sym maps.rights i })));
      }

  module _ (s : State) (labels : List Label) (all : AllStand image s labels) (t u : Numbered) (listed : Contains (numbered_threads image) t)
      (among : Contains (numbered_threads image) u) (slot : ℕ) (own : IsOwnSlot image t.thread slot) (page frame : ℕ) (held allowed : Rights)
      (is : capability_at s.slots slot ≡ Frame frame held (Some (record { root = root_table_of image u; page = page; rights = allowed }))) where
    abbrev root : ℕ
    root = root_table_of image u

    -- the page is mapped by no other slot
    only : (other : ℕ) (rights : Rights)
        → capability_at s.slots other ≡ Frame frame rights (Some (record { root = root_table_of image u; page = page; rights = allowed })) → slot ≡ other
    only other rights there =
        all.sound.mappings.one_page slot other root page (maps-own (capability_at s.slots slot) root page frame held allowed is)
        (maps-own (capability_at s.slots other) root page frame rights allowed there)

    not-boot : MapsInBoot u page frame allowed → ⊥
    not-boot maps =
        let boot = maps.boot in
        let kept = boot-kept image fits well s labels all maps.slot (omega (arith, boot)) in
        let there = ap (λ (o : Option Entry). option_map_or (λ h. h.capability) o Empty) kept ∙ maps.capability in
        boot-other image fits well t maps.slot listed (omega (arith, boot)) (subst (λ (n : ℕ). IsOwnSlot image t.thread n) (only maps.slot maps.held there) own)

    is-own : (at : StandsSomewhere image u s) → NotedMaps image u at.state.slots page frame allowed → t ≡ u
    is-own at maps =
        let n = maps.slot in
        let there : Contains (noted_after image u.thread s.slots) n = subst (λ (ns : List NotedSlot). Contains ns n) (sym at.stands.slots) maps.noted in
        let mine = each-contained (λ (m : NotedSlot). IsOwnKey image u.thread m.key) (noted_after image u.thread s.slots) n
        (noted-own image u.thread s.slots) there in
        let holds = each-contained (λ (m : NotedSlot). m.capability ≡ capability_at s.slots (slot_of_key image m.key))
        (noted_after image u.thread s.slots) n (noted-holds image u.thread s.slots) there in
        let same : slot ≡ slot_of_key image n.key = only (slot_of_key image n.key) maps.held (sym holds ∙ maps.capability) in
        one-owner image fits well t u slot listed among own (subst (λ (k : ℕ). IsOwnSlot image u.thread k) (sym same) mine)

    is-other : (u ≡ t → ⊥) → ⊥
    is-other apart =
        let at = stands-somewhere image u s labels (all.stand u among) in
        let maps : Maps s.slots (root_table_of image u) page frame allowed = record { slot = slot; frame_rights = held; capability = is } in
        elim ((at.stands.maps page frame allowed).0 maps) [
          | inl given ↦ not-boot (maps-in-boot u page frame allowed given)
          | inr noted ↦ apart (sym (is-own at noted))
        ]

  pub maps-nothing-else : (s : State) (labels : List Label) → AllStand image s labels → (t : Numbered) → Contains (numbered_threads image) t
      → MapsNothingElse image t s
  maps-nothing-else s labels all t listed u slot mapping among apart own is under =
      let of = frame-of (capability_at s.slots slot) mapping is in
      is-other s labels all t u listed among slot own mapping.page of.frame of.held mapping.rights
      (of.is ∙ ap (λ (r : ℕ). Frame of.frame of.held (Some (record { root = r; page = mapping.page; rights = mapping.rights }))) under) apart
