-- The mappings under a thread's root table are the image's, and no slot of the thread names a frame of code.
use Rattle.std.proofs.Common.{ℕ, zero, suc, ◌≡◌, ◌∙◌, ◌==◌, ◌-◌, ◌/◌, ◌%◌, ◌<◌, ◌&&◌, ◌||◌, inl, inr, true, false, filter, find, map, if◌then◌else◌, List, []}
use Rattle.std.proofs.Common.{◌∷◌, get_or, Option, Some, None, refl, sym, ap, subst, arith}
use Rattle.std.specs.Prelude.{Contains, slice_get}
use Rattle.std.specs.Option.{option_map_or}
use Rattle.std.specs.List.{list_any}
use Rattle.std.proofs.lemmas.Bool.{and_parts, eq-eqb, eqb-true, cases_lt, false≢true, or_parts}
use Rattle.std.proofs.lemmas.Option.{none-some, same_Some, slice_get_within, slice_get-get_or}
use Rattle.format_laws.specs.Fitting.{CapabilityFits, FrameFits, IsFitting, ThreadFits}
use Rattle.format_laws.proofs.Laws.{is-fitting}
use Rattle.soundness.proofs.Laws.{AreFormed, FrameKept, ReadsBoot, are-formed, first_of_type, limited-frame, mapped_by, mapping_of, object-at, offsets-apart}
use Rattle.soundness.proofs.Laws.{payload-mapping}
use Rattle.model.specs.declared.capabilities.Cap.{Cap}
use Rattle.model.specs.declared.capabilities.Cap.TheVariants.{Empty, Untyped, Endpoint, Notification, CNode, Frame, PageTable, Tcb, RootTable, InterruptControl}
use Rattle.model.specs.declared.capabilities.Cap.TheVariants.{InterruptHandler}
use Rattle.model.specs.declared.capabilities.FrameMapping.{FrameMapping}
use Rattle.model.specs.declared.entries.CapabilityEntry.{CapabilityEntry}
use Rattle.model.specs.declared.entries.FrameEntry.{FrameEntry}
use Rattle.model.specs.declared.entries.InterruptEntry.{InterruptEntry}
use Rattle.model.specs.declared.entries.TableEntry.{TableEntry}
use Rattle.model.specs.declared.rights.Rights.{Rights}
use Rattle.model.specs.declared.slot_entries.Entry.{Entry}
use Rattle.model.specs.Acceptance.Accepted.{IsWellFormed}
use Rattle.model.specs.Acceptance.NotedStates.{NotedSlot, image_slots, listed_slot}
use Rattle.model.specs.Acceptance.ThreadInvariants.{ImageMaps, IsCode, MapsAreNoted, NotedMaps}
use Rattle.model.specs.Acceptance.ThreadRules.{is_member, reached}
use Rattle.model.specs.Acceptance.WellFormed.{executes, has_writable_code, is_mapped_twice, is_named_otherwise, is_device}
use Rattle.model.specs.Capabilities.CapabilityKinds.{frame_mapping, object_of, with_payload}
use Rattle.model.specs.Capabilities.Rights.{frame_rights}
use Rattle.model.specs.Capabilities.Slots.{capability_at}
use Rattle.model.specs.Images.Described.{Numbered, binding_holding, described, handler_holding, limited, listed_capability, notification_holding, original}
use Rattle.model.specs.Images.Described.{source_capability, untyped_holding}
use Rattle.model.specs.Images.Image.{Image, Thread, whole_image}
use Rattle.model.specs.Images.Places.{cnode_slot, frame_copy_slot, interrupt_of, is_handler, object_at, offset_of, type_at}
use Rattle.model.specs.Kernel.AddressSpaces.{Maps, page_size}
use Rattle.model.specs.Kernel.Retype.{NewObject, NewUntyped, NewThread, NewEndpoint, NewNotification, NewCNode, NewFrame, NewPageTable, NewRootTable}
use Rattle.thread_spaces.specs.Given.{IsListed}
use Rattle.thread_spaces.proofs.Laws.{OfSections, boot-holds, capability-shown, each-slot, each-own, from-loaded, listed-handler, listed-object, listed-shown}
use Rattle.thread_spaces.proofs.Laws.{slots_in}
use Rattle.headline.proofs.starts.GivenSlots.{IsListedSlot}
use Rattle.headline.proofs.starts.ListFacts.{contained, contains, none-at}

-- ---- a slot of the image's is listed

pub at-listed : (image : Image) (cnodes : List ℕ) (capabilities : List CapabilityEntry) (k : ℕ) (s : NotedSlot) →
    slice_get (slots_in image cnodes capabilities) k ≡ Some s → IsListedSlot image cnodes capabilities s
at-listed image cnodes [] k s at = absurd (none-some s at)
at-listed image cnodes (c ∷ rest) k s at =
    elim (is_member c.cnode cnodes) as (λ b. is_member c.cnode cnodes ≡ b
    → slice_get (map (listed_slot image) (if b then c ∷ filter (λ d. is_member d.cnode cnodes) rest else filter (λ d. is_member d.cnode cnodes) rest)) k ≡ Some
    s → IsListedSlot image cnodes (c ∷ rest) s) [
      | true ↦ λ among here. first k among (at-listed image cnodes rest) here
      | false ↦ λ _ behind. later (at-listed image cnodes rest k s behind)
    ] refl at
  where
    later : IsListedSlot image cnodes rest s → IsListedSlot image cnodes (c ∷ rest) s
    later of = record { place = suc of.place; entry = of.entry; at = of.at; member = of.member; is = of.is }

    first : (j : ℕ) → is_member c.cnode cnodes ≡ true →
        ((i : ℕ) (r : NotedSlot) → slice_get (slots_in image cnodes rest) i ≡ Some r → IsListedSlot image cnodes rest r)
        → slice_get (listed_slot image c ∷ slots_in image cnodes rest) j ≡ Some s → IsListedSlot image cnodes (c ∷ rest) s
    first zero among others here = record { place = 0; entry = c; at = refl; member = among; is = sym (same_Some (listed_slot image c) s here) }
    first (suc j) among others behind = later (others j s behind)

pub given-listed : (image : Image) (t : Thread) (s : NotedSlot) → Contains (image_slots image t) s → IsListedSlot image (reached image t) image.capabilities s
unfolding image_slots
given-listed image t s there = let place = contained (slots_in image (reached image t) image.capabilities) s there in
    at-listed image (reached image t) image.capabilities place.0 s place.1

-- ---- frames of code

-- a frame that is mapped with execute is mapped once, and nothing else names it
pub record IsOnlyCode (image : Image) (k : ℕ) (f : FrameEntry) : Type 0 where
  pub once : is_mapped_twice image k f.frame ≡ false
  pub unlisted : list_any (λ c. c.source == f.frame) image.capabilities ≡ false
  pub unfilled : list_any (λ c. c.header.frame == f.frame) image.contents ≡ false

pub only-code : (image : Image) (k : ℕ) (f : FrameEntry) → has_writable_code image (k, f) ≡ false → executes f ≡ true → IsOnlyCode image k f
unfolding has_writable_code
only-code image k f kept runs =
    let outer = or_parts (f.rights == 7) (executes f && is_named_otherwise image k f.frame) kept in
    let named : is_named_otherwise image k f.frame ≡ false = sym (ap (λ b. b && is_named_otherwise image k f.frame) runs) ∙ outer.1 in
    let inside = or_parts (is_mapped_twice image k f.frame || list_any (λ c. c.source == f.frame) image.capabilities
    || list_any (λ c. c.header.frame == f.frame) image.contents) (is_device image f.frame) named in
    let a = or_parts (is_mapped_twice image k f.frame || list_any (λ c. c.source == f.frame) image.capabilities)
    (list_any (λ c. c.header.frame == f.frame) image.contents) inside.0 in
    let b = or_parts (is_mapped_twice image k f.frame) (list_any (λ c. c.source == f.frame) image.capabilities) a.0 in
    record { once = b.0; unlisted = b.1; unfilled = a.1 }

-- ---- capabilities that map no frame

table-frame : (image : Image) (found : Option TableEntry) (c : Cap) → frame_mapping (mapped_by image found c) ≡ frame_mapping c
table-frame image None c = refl
table-frame image (Some e) Empty = refl
table-frame image (Some e) (Untyped _ _ _) = refl
table-frame image (Some e) (Endpoint _ _ _) = refl
table-frame image (Some e) (Notification _ _ _) = refl
table-frame image (Some e) (CNode _ _ _) = refl
table-frame image (Some e) (Frame _ _ _) = refl
table-frame image (Some e) (PageTable _ _) = refl
table-frame image (Some e) (Tcb _) = refl
table-frame image (Some e) (RootTable _) = refl
table-frame image (Some e) InterruptControl = refl
table-frame image (Some e) (InterruptHandler _) = refl

first-frame : (kind : Option NewObject) (offset : ℕ) → frame_mapping (first_of_type kind offset) ≡ None
first-frame None offset = refl
first-frame (Some (NewUntyped bits)) offset = refl
first-frame (Some NewThread) offset = refl
first-frame (Some NewEndpoint) offset = refl
first-frame (Some NewNotification) offset = refl
first-frame (Some (NewCNode radix)) offset = refl
first-frame (Some NewFrame) offset = refl
first-frame (Some NewPageTable) offset = refl
first-frame (Some NewRootTable) offset = refl

pub original-no-frame : (image : Image) (number : ℕ) → frame_mapping (original image number) ≡ None
original-no-frame image number =
    table-frame image (find (λ e. e.table == number) image.tables) (first_of_type (type_at image number) (offset_of image number))
    ∙ first-frame (type_at image number) (offset_of image number)

handler-frame : (found : Option InterruptEntry) → frame_mapping (option_map_or (λ (i : InterruptEntry). InterruptHandler i.line) found Empty) ≡ None
handler-frame None = refl
handler-frame (Some i) = refl

pub listed-no-frame : (image : Image) (c : CapabilityEntry) → frame_mapping (listed_capability image c) ≡ None
listed-no-frame image c =
    limited-frame (source_capability image c.source) c.rights c.payload
    ∙ elim (is_handler image c.source)
    as (λ b. frame_mapping (if b then option_map_or (λ (i : InterruptEntry). InterruptHandler i.line)
    (slice_get image.interrupts (interrupt_of image c.source)) Empty else original image c.source) ≡ None) [
      | true ↦ handler-frame (slice_get image.interrupts (interrupt_of image c.source))
      | false ↦ original-no-frame image c.source
    ]

-- ---- the object of a listed capability

of-object : (kind : Option NewObject) (offset word payload frame : ℕ) → object_of (limited (first_of_type kind offset) word payload) ≡ Some frame →
    offset ≡ frame
of-object None offset word payload frame is = absurd (none-some frame is)
of-object (Some (NewUntyped bits)) offset word payload frame is = absurd (none-some frame is)
of-object (Some NewThread) offset word payload frame is = same_Some offset frame is
of-object (Some NewEndpoint) offset word payload frame is = same_Some offset frame is
of-object (Some NewNotification) offset word payload frame is = same_Some offset frame is
of-object (Some (NewCNode radix)) offset word payload frame is = same_Some offset frame is
of-object (Some NewFrame) offset word payload frame is = same_Some offset frame is
of-object (Some NewPageTable) offset word payload frame is = same_Some offset frame is
of-object (Some NewRootTable) offset word payload frame is = same_Some offset frame is

module _ (image : Image) (fits : whole_image.fits image ≡ true) (well : IsWellFormed image) where
  fitting : IsFitting image
  fitting = is-fitting image fits

  formed : AreFormed image
  formed = are-formed image well

  frame-source : (k : ℕ) (c : CapabilityEntry) (frame : ℕ) → slice_get image.capabilities k ≡ Some c → object_of (listed_capability image c) ≡ Some frame
      → (c.source < image.header.objects) × (offset_of image c.source ≡ frame)
  frame-source k c frame at names = elim (cases_lt c.source image.header.objects) [
    | inl less ↦
        let o = object_at image c.source in
        let same = listed-object image c fits well (record { number = k; listed = at }) o (offset_of image c.source) less
        (object-at image c.source fitting less) refl in
        (less, of-object _ (offset_of image c.source) c.rights c.payload frame (ap object_of same ∙ names))
    | inr most ↦
        let source = CapabilityFits.source (IsFitting.capability fitting k c at) in
        let many = fitting.interrupts in
        let place = c.source - image.header.objects in
        let nothing : InterruptEntry = record { line = 0; notification = 0; badge = 0 } in
        let same = listed-handler image c (get_or image.interrupts place nothing) most
        (slice_get-get_or image.interrupts place nothing (omega (arith, source, many, most))) in
        absurd (none-some frame (ap object_of same ∙ names))
  ]

  pub code-unnamed : (t : Thread) (s : NotedSlot) (frame : ℕ) (held : Rights) (mapping : Option FrameMapping) → Contains (image_slots image t) s →
      s.capability ≡ Frame frame held mapping → IsCode image frame → ⊥
  code-unnamed t s frame held mapping there is code =
      let of = given-listed image t s there in
      let c = of.entry in
      let f = code.entry in
      let place = contained image.frames f code.listed in
      let holds : listed_capability image c ≡ Frame frame held mapping = ap (λ (x : NotedSlot). x.capability) (sym of.is) ∙ is in
      let source = frame-source of.place c frame of.at (ap object_of holds) in
      let kept = AreFormed.frame formed place.0 f place.1 in
      let only = only-code image place.0 f (FrameKept.code kept) code.executes in
      let same : c.source ≡ f.frame =
      offsets-apart image c.source f.frame fitting formed source.0 (FrameFits.frame (IsFitting.frame fitting place.0 f place.1)) (source.1 ∙ code.place) in
      false≢true (sym (none-at (λ (d : CapabilityEntry). d.source == f.frame) image.capabilities of.place c only.unlisted of.at) ∙ eq-eqb c.source f.frame same)

  -- ---- mappings

  module _ (t : Numbered) (listed : IsListed image t.thread) (page frame : ℕ) (allowed : Rights) where
    abbrev root : ℕ
    root = offset_of image t.thread.header.root

    abbrev mapping : FrameMapping
    mapping = record { root = root; page = page; rights = allowed }

    abbrev Lists : Type 0
    Lists = ImageMaps image t page frame allowed

    root-less : t.thread.header.root < image.header.objects
    root-less = ThreadFits.root (IsFitting.thread fitting listed.number t.thread listed.listed)

    entry-maps : (k : ℕ) (f : FrameEntry) → slice_get image.frames k ≡ Some f → offset_of image f.frame ≡ frame → mapping_of image f ≡ mapping → Lists
    entry-maps k f at object same =
        let kept = AreFormed.frame formed k f at in
        let page_is : f.address / page_size ≡ page = ap (λ (m : FrameMapping). m.page) same in
        let whole : f.address % page_size ≡ 0 = eqb-true (f.address % page_size) 0 (and_parts _ (f.address % page_size == 0) (FrameKept.address kept)).1 in
        record {
          entry = f;
          listed = contains image.frames k f at;
          root = offsets-apart image f.root t.thread.header.root fitting formed (FrameFits.root (IsFitting.frame fitting k f at)) root-less
              (ap (λ (m : FrameMapping). m.root) same);
          address = omega (arith, page_is, whole);
          object = sym object;
          rights = sym (ap (λ (m : FrameMapping). m.rights) same);
        }

    module _ (held : Rights) where
      abbrev IsMapped : ℕ → Entry → Type 0
      IsMapped slot e = e.capability ≡ Frame frame held (Some mapping) → Lists

      no-frame : (c : Cap) → frame_mapping c ≡ None → c ≡ Frame frame held (Some mapping) → Lists
      no-frame c none is = absurd (none-some mapping (sym none ∙ ap frame_mapping is))

      mapped-sections : OfSections IsMapped image
      mapped-sections = record {
        untyped = λ k u at. no-frame (((untyped_holding image (k, u)).1).capability) refl;
        original = λ number less. no-frame (original image number) (original-no-frame image number);
        control = no-frame InterruptControl refl;
        handler = λ k i at. no-frame (((handler_holding image (k, i)).1).capability) refl;
        frame = λ k f at is.
            let object : Some (offset_of image f.frame) ≡ Some frame = ap object_of is in
            let maps : Some (mapping_of image f) ≡ Some mapping = ap frame_mapping is in
            entry-maps k f at (same_Some (offset_of image f.frame) frame object) (same_Some (mapping_of image f) mapping maps);
        notification = λ k i at. no-frame (((notification_holding image (k, i)).1).capability) refl;
        binding = λ k i at. no-frame (((binding_holding image (k, i)).1).capability) refl;
        listed = λ k c at. no-frame (listed_capability image c) (listed-no-frame image c);
        thread = λ k u at. each-own IsMapped image u
            (no-frame (with_payload (original image u.header.cnode) u.header.guard)
            (payload-mapping (original image u.header.cnode) u.header.guard ∙ original-no-frame image u.header.cnode))
            (no-frame (original image u.header.root) (original-no-frame image u.header.root))
            (λ some. no-frame (original image u.header.buffer) (original-no-frame image u.header.buffer));
      }

      of-slot : (slot : ℕ) → capability_at (described image).slots slot ≡ Frame frame held (Some mapping) → Lists
      of-slot slot is = of-found ((described image).slots slot) refl
        where
          of-found : (found : Option Entry) → (described image).slots slot ≡ found → Lists
          of-found None none = no-frame Empty refl (sym (ap (λ (o : Option Entry). option_map_or (λ e. e.capability) o Empty) none) ∙ is)
          of-found (Some e) some =
              let there : e.capability ≡ Frame frame held (Some mapping) = sym (capability-shown image slot e some) ∙ is in
              elim (each-slot IsMapped image mapped-sections slot e some) [
                | inl nothing ↦ no-frame Empty refl (sym (ap (λ (x : Entry). x.capability) nothing) ∙ there)
                | inr maps ↦ maps there
              ]

    pub maps-listed : Maps (described image).slots root page frame allowed → ImageMaps image t page frame allowed
    maps-listed m = of-slot m.frame_rights m.slot m.capability

    pub listed-maps : ImageMaps image t page frame allowed → Maps (described image).slots root page frame allowed
    listed-maps maps =
        let f = maps.entry in
        let place = contained image.frames f maps.listed in
        let k = place.0 in
        let less : k < image.header.frames = subst (λ (n : ℕ). k < n) (IsFitting.frames fitting) (slice_get_within image.frames k f place.1) in
        let shown = from-loaded image (frame_copy_slot image k) _ fitting (ReadsBoot.frame (boot-holds image fits well) k f less place.1) in
        let same_page : f.address / page_size ≡ page = omega (arith, maps.address) in
        let same_root : offset_of image f.root ≡ root = ap (offset_of image) maps.root in
        record {
          slot = frame_copy_slot image k;
          frame_rights = frame_rights;
          capability = capability-shown image (frame_copy_slot image k) _ shown
              ∙ (λ i. Frame (sym maps.object i) frame_rights (Some (record { root = same_root i; page = same_page i; rights = sym maps.rights i })));
        }

    -- a slot of the image's is one of the described state's
    pub noted-maps : NotedMaps image t (image_slots image t.thread) page frame allowed → Maps (described image).slots root page frame allowed
    noted-maps maps =
        let of = given-listed image t.thread maps.slot maps.noted in
        let c = of.entry in
        record {
          slot = cnode_slot image c.cnode c.index;
          frame_rights = maps.held;
          capability = capability-shown image (cnode_slot image c.cnode c.index) _ (listed-shown image fits well of.place c of.at)
              ∙ ap (λ (x : NotedSlot). x.capability) (sym of.is) ∙ maps.capability;
        }

pub maps-given : (image : Image) (t : Numbered) → whole_image.fits image ≡ true → IsWellFormed image → IsListed image t.thread →
    MapsAreNoted image t (described image) (image_slots image t.thread)
maps-given image t fits well listed page frame allowed = (
  λ maps. inl (maps-listed image fits well t listed page frame allowed maps),
  λ either. elim either [
    | inl maps ↦ listed-maps image fits well t listed page frame allowed maps
    | inr maps ↦ noted-maps image fits well t listed page frame allowed maps
  ],
)
