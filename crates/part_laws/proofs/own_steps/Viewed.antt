-- Memory as a thread of the part sees it, in the whole and alone: the same places, which are the part's and hold the same bytes.
use Rattle.std.proofs.Common.{ℕ, ◌≡◌, ◌∙◌, ◌+◌, ◌/◌, ◌^◌, ◌<◌, ◌≤◌, ◌==◌, ◌&&◌, ◌||◌, inl, inr, Bool, true, false, Option, Some, None, List}
use Rattle.std.proofs.Common.{refl, sym, ap, ap₂, subst, arith}
use Rattle.std.specs.Prelude.{Contains, option_and_then}
use Rattle.std.specs.Option.{option_map_or}
use Rattle.std.proofs.lemmas.Bool.{eq-eqb, false≢true}
use Rattle.std.proofs.lemmas.List.Folds.{list_any_at}
use Rattle.std.proofs.lemmas.Option.{none-some, same_Some}
use Rattle.format_laws.specs.Fitting.{IsFitting}
use Rattle.format_laws.proofs.Laws.{is-fitting}
use Rattle.soundness.proofs.Laws.{are-formed}
use Rattle.model.specs.declared.capabilities.Cap.{Cap}
use Rattle.model.specs.declared.capabilities.Cap.TheVariants.{Empty, Untyped, Frame, InterruptHandler}
use Rattle.model.specs.declared.capabilities.FrameMapping.{FrameMapping}
use Rattle.model.specs.declared.entries.CapabilityEntry.{CapabilityEntry}
use Rattle.model.specs.declared.entries.FrameEntry.{FrameEntry}
use Rattle.model.specs.declared.instructions.Access.{Access}
use Rattle.model.specs.declared.rights.Rights.{Rights}
use Rattle.model.specs.declared.slot_entries.Entry.{Entry}
use Rattle.model.specs.Acceptance.Accepted.{IsAccepted}
use Rattle.model.specs.Acceptance.Authority.{IsOwnSlot, rights_of}
use Rattle.model.specs.Acceptance.NotedKernel.{noted_after, slot_of_key}
use Rattle.model.specs.Acceptance.NotedStates.{NotedSlot, PointState}
use Rattle.model.specs.Acceptance.ThreadInvariants.{ImageMaps, NotedMaps, StandsAt, root_table_of, tcb_of}
use Rattle.model.specs.Acceptance.ThreadRules.{is_member, reached}
use Rattle.model.specs.Acceptance.WellFormed.{is_endpoint_type, is_frame_type}
use Rattle.model.specs.Capabilities.CapabilityKinds.{root_of}
use Rattle.model.specs.Capabilities.Rights.{may_read, may_write, rights}
use Rattle.model.specs.Capabilities.Slots.{capability_at}
use Rattle.model.specs.Images.Described.{Numbered, listed_capability, source_capability}
use Rattle.model.specs.Images.Image.{Image, Thread}
use Rattle.model.specs.Images.Places.{offset_of, type_at}
use Rattle.model.specs.Kernel.AddressSpaces.{Maps, content_of, mapped, page_size, place_in, place_under, vspace_of}
use Rattle.model.specs.Kernel.Kinds.{object_named}
use Rattle.model.specs.Kernel.Retype.{NewObject, NewFrame, object_bits}
use Rattle.model.specs.Kernel.Soundness.{IsSound}
use Rattle.model.specs.Kernel.State.{State, ThreadState, vspace_slot}
use Rattle.headline.specs.parts.Agreeing.{IsMemberOf, is_block_slot, is_own_slot}
use Rattle.headline.specs.parts.Given.{AllHoldGiven, IsGivenTo, listed, made, pool, handler}
use Rattle.headline.specs.parts.Parts.{Part, alone, lists, maps, takes, takes_by}
use Rattle.headline.specs.parts.Views.{SameView}
use Rattle.headline.proofs.Laws.{page-mapped, page-maps}
use Rattle.part_laws.specs.Agreeing.{AgreeFor, IsByteOfPart, is_frame_byte, is_pool_byte}
use Rattle.part_laws.specs.own.Read.{AllMapAsRead}
use Rattle.part_laws.proofs.outside.Listed.{first-names, frame-rights, keeps-bit, kind-of, named-limited, named-mapped, source-of}
use Rattle.part_laws.proofs.outside.Noted.{is-noted, names-frame}
use Rattle.part_laws.proofs.outside.Places.{contained}
use Rattle.part_laws.proofs.own_steps.AloneImages.{alone-noted, alone-offset, same-noted}
use Rattle.part_laws.proofs.own_steps.Roots.{thread-root}

-- ---- what a thread takes

first-of : (a b c : Bool) → a ≡ true → (a || b || c) ≡ true
first-of true b c is = refl
first-of false b c is = absurd (false≢true is)

second-of : (a b c : Bool) → b ≡ true → (a || b || c) ≡ true
second-of true b c is = refl
second-of false true c is = refl
second-of false false c is = absurd (false≢true is)

-- a frame that is mapped for it
maps-take : (image : Image) (t : Thread) (f : FrameEntry) → Contains image.frames f → f.root ≡ t.header.root → takes image t f.frame ≡ true
unfolding takes
maps-take image t f there root =
    let object = f.frame in
    let test = λ (g : FrameEntry). (g.root == t.header.root) && (g.frame == object) in
    first-of (maps image t (λ g. g.frame == object)) (lists image t (λ c. (c.source == object) && takes_by image c)) (t.header.buffer == object)
    (list_any_at test image.frames there.0 f there.1
    (ap test there.2 ∙ ap₂ (λ (a b : Bool). a && b) (eq-eqb f.root t.header.root root) (eq-eqb f.frame object refl)))

-- what is listed for it with read
lists-take : (image : Image) (t : Thread) (entry : CapabilityEntry) → Contains image.capabilities entry → is_member entry.cnode (reached image t) ≡ true
    → may_read (rights entry.rights) ≡ true → takes image t entry.source ≡ true
unfolding takes
lists-take image t entry there member reads =
    let object = entry.source in
    let test = λ (c : CapabilityEntry). is_member c.cnode (reached image t) && ((c.source == object) && takes_by image c) in
    second-of (maps image t (λ f. f.frame == object)) (lists image t (λ c. (c.source == object) && takes_by image c)) (t.header.buffer == object)
    (list_any_at test image.capabilities there.0 entry there.1
    (ap test there.2
    ∙ ap₂ (λ (a b : Bool). a && (b && takes_by image entry)) member (eq-eqb entry.source object refl)
    ∙ ap (λ (b : Bool). b || (is_endpoint_type (type_at image entry.source) && may_write (rights entry.rights))) reads))

-- ---- the bytes of what it holds

module _ (image : Image) (part : Part) (u : Numbered) (member : IsMemberOf image part u) where
  frame-given : (offset : ℕ) (held : Rights) (m : Option FrameMapping) (place : ℕ) → IsGivenTo image u.thread (Frame offset held m)
      → may_read held ≡ true → offset ≤ place → place < offset + page_size → IsByteOfPart image part place
  frame-given offset held m place (listed entry is covers) reads low high =
      let full : object_named (listed_capability image entry) ≡ Some (NewFrame, offset) = covers.same ∙ sym covers.names in
      let of = source-of object_named named-limited named-mapped refl (λ n. refl) image entry (NewFrame, offset) full in
      let first = first-names of.kind NewFrame (offset_of image entry.source) offset of.is in
      let at = first.1 in
      let right : rights_of (listed_capability image entry) ≡ rights entry.rights =
      frame-rights (source_capability image entry.source) entry.rights entry.payload offset
      (sym (named-limited (source_capability image entry.source) entry.rights entry.payload) ∙ full) in
      let may : may_read (rights entry.rights) ≡ true =
      ap may_read (sym right) ∙ keeps-bit (rights_of (listed_capability image entry)).0 held.0 2 covers.rights reads in
      is_frame_byte entry.source
      (record { thread = u; member = member; inside = of.object; takes = lists-take image u.thread entry is.listed is.member may })
      (ap is_frame_type (of.type ∙ ap (λ (k : NewObject). Some k) first.0)) (omega (arith, at, low)) (omega (arith, at, high))
  frame-given offset held m place (made kind o names around) reads low high =
      let same : NewFrame ≡ kind = kind-of kind o NewFrame offset names in
      let at : offset ≡ o = ap (λ p. p.1) (same_Some (NewFrame, offset) (kind, o) names) in
      let size : 4096 ≡ 2 ^ object_bits kind = ap (λ (k : NewObject). 2 ^ object_bits k) same in
      let p = around.around in
      let begins = p.begins in
      let ends = p.ends in
      is_pool_byte u member (record {
        entry = around.entry;
        listed = around.listed;
        around = record {
          offset = p.offset;
          bits = p.bits;
          watermark = p.watermark;
          is = p.is;
          begins = omega (arith, begins, at, low);
          ends = omega (arith, ends, at, high, size);
        };
      })
  frame-given offset held m place (pool o bits watermark is around) reads low high = absurd (let e : Frame offset held m ≡ Untyped o bits watermark = is in cc)
  frame-given offset held m place (handler number entry is lists same) reads low high =
      absurd (let e : Frame offset held m ≡ InterruptHandler number = same in cc)

-- ---- both sides

module _ (image : Image) (part : Part) (bytes : List ℕ) (accepted : IsAccepted bytes image) (s t : State) (u v : Numbered) (member : IsMemberOf image part u)
    (same : v.thread ≡ u.thread) (agree : AgreeFor image part s t) (own other : ThreadState) (point q : ℕ) (state known : PointState)
    (stands : StandsAt image u s own point state) (alone_stands : StandsAt (alone image part) v t other q known) where
  abbrev single : Image
  single = alone image part

  abbrev x : ℕ
  x = tcb_of image u

  abbrev root : ℕ
  root = root_table_of image u

  own-same : (slot : ℕ) → IsOwnSlot image u.thread slot → t.slots slot ≡ s.slots slot
  own-same slot mine = sym (agree.slots slot (is_own_slot u member mine))

  -- the same is noted
  pub noted-same : noted_after image u.thread t.slots ≡ state.slots
  noted-same = same-noted image u.thread s.slots t.slots own-same ∙ stands.slots

  slots-same : known.slots ≡ state.slots
  slots-same =
      sym alone_stands.slots ∙ alone-noted image part v.thread t.slots ∙ ap (λ (w : Thread). noted_after image w t.slots) same ∙ noted-same

  root-same : root_table_of single v ≡ root
  root-same = alone-offset image part v.thread.header.root ∙ ap (λ (w : Thread). offset_of image w.header.root) same

  -- ---- the same is mapped

  image-maps : (page frame : ℕ) (allowed : Rights) → ImageMaps image u page frame allowed → ImageMaps single v page frame allowed
  unfolding alone
  image-maps page frame allowed m = record {
    entry = m.entry;
    listed = m.listed;
    root = m.root ∙ sym (ap (λ (w : Thread). w.header.root) same);
    address = m.address;
    object = m.object ∙ sym (alone-offset image part m.entry.frame);
    rights = m.rights;
  }

  maps-image : (page frame : ℕ) (allowed : Rights) → ImageMaps single v page frame allowed → ImageMaps image u page frame allowed
  unfolding alone
  maps-image page frame allowed m = record {
    entry = m.entry;
    listed = m.listed;
    root = m.root ∙ ap (λ (w : Thread). w.header.root) same;
    address = m.address;
    object = m.object ∙ alone-offset image part m.entry.frame;
    rights = m.rights;
  }

  under : (page frame : ℕ) (held allowed : Rights) (at : ℕ) → Cap
  under page frame held allowed at = Frame frame held (Some (record { root = at; page = page; rights = allowed }))

  noted-maps : (page frame : ℕ) (allowed : Rights) → NotedMaps image u state.slots page frame allowed → NotedMaps single v known.slots page frame allowed
  unfolding under
  noted-maps page frame allowed m = record {
    slot = m.slot;
    held = m.held;
    noted = subst (λ (l : List NotedSlot). Contains l m.slot) (sym slots-same) m.noted;
    capability = m.capability ∙ ap (under page frame m.held allowed) (sym root-same);
  }

  maps-noted : (page frame : ℕ) (allowed : Rights) → NotedMaps single v known.slots page frame allowed → NotedMaps image u state.slots page frame allowed
  unfolding under
  maps-noted page frame allowed m = record {
    slot = m.slot;
    held = m.held;
    noted = subst (λ (l : List NotedSlot). Contains l m.slot) slots-same m.noted;
    capability = m.capability ∙ ap (under page frame m.held allowed) root-same;
  }

  maps-there : (page frame : ℕ) (allowed : Rights) → Maps s.slots root page frame allowed → Maps t.slots root page frame allowed
  maps-there page frame allowed m =
      subst (λ (at : ℕ). Maps t.slots at page frame allowed) root-same
      ((alone_stands.maps page frame allowed).1 (elim ((stands.maps page frame allowed).0 m) [
        | inl listed_so ↦ inl (image-maps page frame allowed listed_so)
        | inr noted ↦ inr (noted-maps page frame allowed noted)
      ]))

  maps-back : (page frame : ℕ) (allowed : Rights) → Maps t.slots root page frame allowed → Maps s.slots root page frame allowed
  maps-back page frame allowed m =
      (stands.maps page frame allowed).1
      (elim ((alone_stands.maps page frame allowed).0 (subst (λ (at : ℕ). Maps t.slots at page frame allowed) (sym root-same) m)) [
        | inl listed_so ↦ inl (maps-image page frame allowed listed_so)
        | inr noted ↦ inr (maps-noted page frame allowed noted)
      ])

  module _ (sound : IsSound s) (alone_sound : IsSound t) where
    same-mapped : (page : ℕ) → mapped s root page ≡ mapped t root page
    same-mapped page = elim (mapped s root page) as (λ o. mapped s root page ≡ o → o ≡ mapped t root page) [
      | Some m ↦ λ is.
          sym (page-mapped t root page m.frame m.allowed alone_sound
          (maps-there page m.frame m.allowed (page-maps s root page m.frame m.allowed is)))
      | None ↦ λ none. elim (mapped t root page) as (λ o. mapped t root page ≡ o → None ≡ o) [
        | None ↦ λ _. refl
        | Some m ↦ λ is.
            absurd (none-some m (sym none ∙ page-mapped s root page m.frame m.allowed sound
            (maps-back page m.frame m.allowed (page-maps t root page m.frame m.allowed is))))
      ] refl
    ] refl

    vspace-is : vspace_of s x ≡ Some root
    vspace-is = ap root_of stands.vspace ∙ thread-root image u accepted.formed member.listed

    vspace-there : vspace_of t x ≡ Some root
    vspace-there =
        ap (λ (o : Option Entry). root_of (option_map_or (λ (e : Entry). e.capability) o Empty))
        (sym (agree.slots (vspace_slot x) (is_block_slot u 1 member refl (omega arith)))) ∙ vspace-is

    same-place : (access : Access) (address : ℕ) → (content_of s x).place access address ≡ (content_of t x).place access address
    same-place access address =
        ap (option_and_then (λ (r : ℕ). place_under s r access address)) vspace-is
        ∙ ap (option_and_then (place_in access address)) (same-mapped (address / page_size))
        ∙ sym (ap (option_and_then (λ (r : ℕ). place_under t r access address)) vspace-there)

    -- ---- what it sees is the part's

    module _ (held_given : AllHoldGiven image s) (reads : AllMapAsRead image s) where
      by-image : (page frame : ℕ) (allowed : Rights) (place : ℕ) → ImageMaps image u page frame allowed → frame ≤ place → place < frame + page_size
          → IsByteOfPart image part place
      by-image page frame allowed place m low high =
          let f = m.entry in
          let place_in = contained image.frames f m.listed in
          let kept = (are-formed image accepted.formed).frame place_in.0 f place_in.1 in
          let less = IsFitting.frame (is-fitting image accepted.spelled.fits) place_in.0 f place_in.1 in
          let here = m.object in
          is_frame_byte f.frame (record { thread = u; member = member; inside = less.frame; takes = maps-take image u.thread f m.listed m.root }) kept.frame
          (omega (arith, here, low)) (omega (arith, here, high))

      seen : (access : Access) (address place : ℕ) → (content_of s x).place access address ≡ Some place → IsByteOfPart image part place
      seen access address place is =
          let n = names-frame s x root access address place vspace-is is in
          let page = address / page_size in
          let at = n.place_is in
          let low : n.frame ≤ place = omega (arith, at) in
          let high : place < n.frame + page_size = omega (arith, at) in
          elim ((stands.maps page n.frame n.allowed).0 n.maps) [
            | inl mapped_so ↦ by-image page n.frame n.allowed place mapped_so low high
            | inr noted ↦
                let of = is-noted image u.thread s.slots noted.slot (subst (λ (l : List NotedSlot). Contains l noted.slot) (sym stands.slots) noted.noted) in
                let slot = slot_of_key image noted.slot.key in
                let mapping : FrameMapping = record { root = root; page = page; rights = n.allowed } in
                let holds : capability_at s.slots slot ≡ Frame n.frame noted.held (Some mapping) = sym of.capability ∙ noted.capability in
                let full : capability_at s.slots slot ≡ Empty → ⊥ =
                λ empty. let e : Frame n.frame noted.held (Some mapping) ≡ Empty = sym holds ∙ empty in cc in
                frame-given image part u member n.frame noted.held (Some mapping) place
                (subst (λ (c : Cap). IsGivenTo image u.thread c) holds (held_given u slot member.listed of.own full))
                (reads u slot n.frame noted.held mapping access member.listed of.own holds n.permits) low high
          ]

      pub same-view : SameView (IsByteOfPart image part) (content_of s x) (content_of t x)
      same-view = record {
        place = same-place;
        named = seen;
        byte = λ place of. ap (λ (o : Option ℕ). option_map_or (λ byte. byte) o 0) (agree.bytes place of);
      }
