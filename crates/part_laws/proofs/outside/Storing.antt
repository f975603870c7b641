-- Where a thread may store while all threads stand: in a frame of the image that it changes, or in a pool of its own. And its message buffer is the one
-- that the image gives it.
use Rattle.std.proofs.Common.{ℕ, ◌≡◌, ◌∙◌, ◌==◌, ◌+◌, ◌*◌, ◌/◌, ◌%◌, ◌^◌, ◌<◌, ◌≤◌, ◌&&◌, ◌||◌, inl, inr, Bool, true, false, not, bit_and, Some, List, refl}
use Rattle.std.proofs.Common.{Option, None, sym, ap, ap₂, subst, arith}
use Rattle.std.specs.Prelude.{Contains}
use Rattle.std.specs.Option.{option_map_or}
use Rattle.std.proofs.lemmas.Bool.{eq-eqb, false≢true}
use Rattle.std.proofs.lemmas.Bool.Decides.{eqb_tells}
use Rattle.std.proofs.lemmas.List.Folds.{list_any_at}
use Rattle.std.proofs.lemmas.Nat.{and_mask}
use Rattle.std.proofs.lemmas.Option.{none-some, same_Some}
use Rattle.format_laws.specs.Fitting.{IsFitting}
use Rattle.format_laws.proofs.Laws.{is-fitting}
use Rattle.soundness.proofs.Laws.{are-formed, buffer-kept, buffer-slot, first_of_type, frame-listed, frame-type}
use Rattle.thread_spaces.proofs.Laws.{buffer-shown, no_buffer-shown, original-plain}
use Rattle.model.specs.declared.capabilities.Cap.{Cap}
use Rattle.model.specs.declared.capabilities.Cap.TheVariants.{Empty, Untyped, Frame}
use Rattle.model.specs.declared.capabilities.Cap.TheVariants.{InterruptHandler}
use Rattle.model.specs.declared.capabilities.FrameMapping.{FrameMapping}
use Rattle.model.specs.declared.entries.CapabilityEntry.{CapabilityEntry}
use Rattle.model.specs.declared.entries.FrameEntry.{FrameEntry}
use Rattle.model.specs.declared.instructions.Access.TheVariants.{Store}
use Rattle.model.specs.declared.labels.Label.{Label}
use Rattle.model.specs.declared.rights.Rights.{Rights}
use Rattle.model.specs.declared.slot_entries.Entry.{Entry}
use Rattle.model.specs.Acceptance.Accepted.{IsAccepted}
use Rattle.model.specs.Acceptance.Authority.{rights_of}
use Rattle.model.specs.Acceptance.NotedKernel.{slot_of_key}
use Rattle.model.specs.Acceptance.NotedStates.{NotedSlot, PointState}
use Rattle.model.specs.Acceptance.ThreadInvariants.{ImageMaps, StandsAt, runs as runs_so, waits as waits_so, root_table_of, tcb_of}
use Rattle.model.specs.Acceptance.ThreadRules.{is_member, reached}
use Rattle.model.specs.Acceptance.WellFormed.{is_frame_type, is_root_type, is_table_type}
use Rattle.model.specs.Capabilities.CapabilityKinds.{frame_of, root_of}
use Rattle.model.specs.Capabilities.Rights.{frame_rights, mapping_rights, may_read, may_write, rights}
use Rattle.model.specs.Capabilities.Slots.{capability_at}
use Rattle.model.specs.Images.Described.{Numbered, described, listed_capability, numbered_threads, original, source_capability}
use Rattle.model.specs.Images.Image.{Image, Thread, no_buffer}
use Rattle.model.specs.Images.Places.{bits_of, object_at, offset_of, type_at}
use Rattle.model.specs.Kernel.AddressSpaces.{content_of, page_size, vspace_of}
use Rattle.model.specs.Kernel.Kinds.{object_named}
use Rattle.model.specs.Kernel.Messages.{buffer_of}
use Rattle.model.specs.Kernel.Retype.{NewObject, NewUntyped, NewThread, NewEndpoint, NewNotification, NewCNode, NewFrame, NewPageTable, NewRootTable}
use Rattle.model.specs.Kernel.Retype.{object_bits}
use Rattle.model.specs.Kernel.State.{State, ThreadState, buffer_slot}
use Rattle.headline.specs.facts.Standing.{AllStand}
use Rattle.headline.specs.integrity.Mapped.{AllMapAsHeld}
use Rattle.headline.specs.parts.Given.{AllHoldGiven, IsGivenTo, listed, made, pool, handler}
use Rattle.headline.specs.parts.Parts.{acknowledges, changes, changes_by, lists, maps}
use Rattle.headline.proofs.Laws.{is-listed}
use Rattle.part_laws.proofs.outside.Blocks.{block-apart, block-thread}
use Rattle.part_laws.proofs.outside.Listed.{first-names, frame-rights, keeps-bit, kind-of, named-limited, named-mapped, source-of}
use Rattle.part_laws.proofs.outside.Noted.{is-noted, names-frame}
use Rattle.part_laws.proofs.outside.Places.{CoveredBy, OwnPool, contained, own-pool}

-- ---- rights of mappings

low-bit : (n : ℕ) → bit_and n 1 ≡ n % 2
low-bit n = and_mask n 1

-- no mapping writes whose first part is 0
even : (w r e : ℕ) → w ≡ 0 → not (bit_and (w * r + 2 * r + 4 * e) 1 == 0) ≡ false
even w r e none =
    let zero_times : 0 * r ≡ 0 = omega arith in
    let gone : w * r ≡ 0 = ap (λ (n : ℕ). n * r) none ∙ zero_times in
    ap not (eq-eqb (bit_and (w * r + 2 * r + 4 * e) 1) 0 (low-bit (w * r + 2 * r + 4 * e) ∙ omega (arith, gone)))

-- a mapping writes only if the capability does
pub writes-held : (held : Rights) (word : ℕ) → may_write (mapping_rights held word) ≡ true → may_write held ≡ true
writes-held held word writes = elim (eqb_tells (bit_and held.0 1) 0) [
  | inr apart ↦ ap not apart.0
  | inl none ↦
      let zero_times : 0 * (word % 2) ≡ 0 = omega arith in
      absurd (false≢true
      (sym (even (bit_and held.0 1 * (word % 2)) (bit_and held.0 2 / 2 * (word / 2 % 2)) (bit_and held.0 2 / 2 * (word / 4 % 2))
      (ap (λ (n : ℕ). n * (word % 2)) none.1 ∙ zero_times)) ∙ writes))
]

-- and only if the image lists it so
writes-listed : (bits : ℕ) → may_write (mapping_rights frame_rights bits) ≡ true → may_write (rights bits) ≡ true
writes-listed bits writes = elim (eqb_tells (bit_and bits 1) 0) [
  | inr apart ↦ ap not apart.0
  | inl none ↦
      let low = low-bit bits in
      let no = none.1 in
      let half : bits % 2 ≡ 0 = omega (arith, low, no) in
      absurd (false≢true
      (sym (even (bit_and frame_rights.0 1 * (bits % 2)) (bit_and frame_rights.0 2 / 2 * (bits / 2 % 2)) (bit_and frame_rights.0 2 / 2 * (bits / 4 % 2))
      (ap (λ (n : ℕ). bit_and frame_rights.0 1 * n) half)) ∙ writes))
]

-- ---- what changes a frame

first-of : (a b c d : Bool) → a ≡ true → (a || b || c || d) ≡ true
first-of true b c d is = refl
first-of false b c d is = absurd (false≢true is)

third-of : (a b c d : Bool) → c ≡ true → (a || b || c || d) ≡ true
third-of true b c d is = refl
third-of false true c d is = refl
third-of false false true d is = refl
third-of false false false d is = absurd (false≢true is)

maps-change : (image : Image) (t : Thread) (f : FrameEntry) → Contains image.frames f → f.root ≡ t.header.root → may_write (rights f.rights) ≡ true
    → changes image t f.frame ≡ true
unfolding changes
maps-change image t f there root writes =
    let object = f.frame in
    let test = λ (g : FrameEntry). (g.root == t.header.root) && ((g.frame == object) && may_write (rights g.rights)) in
    first-of (maps image t (λ g. (g.frame == object) && may_write (rights g.rights))) (lists image t (λ c. (c.source == object) && changes_by image c))
    (t.header.buffer == object) (acknowledges image t object)
    (list_any_at test image.frames there.0 f there.1
    (ap test there.2
    ∙ ap₂ (λ (a b : Bool). a && (b && may_write (rights f.rights))) (eq-eqb f.root t.header.root root) (eq-eqb f.frame object refl)
    ∙ writes))

pub buffer-changes : (image : Image) (t : Thread) → changes image t t.header.buffer ≡ true
unfolding changes
buffer-changes image t =
    let object = t.header.buffer in
    third-of (maps image t (λ g. (g.frame == object) && may_write (rights g.rights))) (lists image t (λ c. (c.source == object) && changes_by image c))
    (t.header.buffer == object) (acknowledges image t object) (eq-eqb t.header.buffer object refl)

second-of : (a b c d : Bool) → b ≡ true → (a || b || c || d) ≡ true
second-of true b c d is = refl
second-of false true c d is = refl
second-of false false c d is = absurd (false≢true is)

-- a capability that is listed so changes what it is to
lists-change : (image : Image) (t : Thread) (entry : CapabilityEntry) → Contains image.capabilities entry → is_member entry.cnode (reached image t) ≡ true
    → may_write (rights entry.rights) ≡ true → changes image t entry.source ≡ true
unfolding changes
lists-change image t entry there member writes =
    let object = entry.source in
    let test = λ (c : CapabilityEntry). is_member c.cnode (reached image t) && ((c.source == object) && changes_by image c) in
    second-of (maps image t (λ f. (f.frame == object) && may_write (rights f.rights))) (lists image t (λ c. (c.source == object) && changes_by image c))
    (t.header.buffer == object) (acknowledges image t object)
    (list_any_at test image.capabilities there.0 entry there.1
    (ap test there.2
    ∙ ap₂ (λ (a b : Bool). a && (b && changes_by image entry)) member (eq-eqb entry.source object refl)
    ∙ ap (λ (b : Bool). b || (not (is_frame_type (type_at image entry.source)) && may_read (rights entry.rights))) writes))

-- ---- where a thread stores

-- a frame of the image around the place that the thread changes
pub record ChangesFrame (image : Image) (t : Thread) (place : ℕ) : Type 0 where
  pub object : ℕ
  pub frame : is_frame_type (type_at image object) ≡ true
  pub covers : CoveredBy image place object
  pub changes_it : changes image t object ≡ true

pub data StoresIn (image : Image) (t : Thread) (place : ℕ) : Type 0 where
  in_frame : ChangesFrame image t place → StoresIn image t place
  in_pool : OwnPool image t place → StoresIn image t place

-- a frame has the bytes of a page
pub frame-covers : (image : Image) (place object : ℕ) → object < image.header.objects → type_at image object ≡ Some NewFrame → offset_of image object ≤ place
    → place < offset_of image object + page_size → CoveredBy image place object
frame-covers image place object less type low high =
    let bits : 2 ^ bits_of (object_at image object) ≡ 4096 = ap (λ (o : Option NewObject). 2 ^ option_map_or object_bits o 0) type in
    record { inside = less; low = low; high = omega (arith, high, bits) }

frame-at : (image : Image) (t : Thread) (place object : ℕ) → object < image.header.objects → type_at image object ≡ Some NewFrame
    → changes image t object ≡ true → offset_of image object ≤ place → place < offset_of image object + page_size → StoresIn image t place
frame-at image t place object less type changing low high =
    in_frame (record {
      object = object;
      frame = ap is_frame_type type;
      covers = frame-covers image place object less type low high;
      changes_it = changing;
    })

-- by a capability that may write
frame-given : (image : Image) (t : Thread) (offset : ℕ) (held : Rights) (m : Option FrameMapping) (place : ℕ) → IsGivenTo image t (Frame offset held m)
    → may_write held ≡ true → offset ≤ place → place < offset + page_size → StoresIn image t place
frame-given image t offset held m place given writes low high = by given
  where
    by : IsGivenTo image t (Frame offset held m) → StoresIn image t place
    by (listed entry is covers) =
        let full : object_named (listed_capability image entry) ≡ Some (NewFrame, offset) = covers.same ∙ sym covers.names in
        let of = source-of object_named named-limited named-mapped refl (λ n. refl) image entry (NewFrame, offset) full in
        let first = first-names of.kind NewFrame (offset_of image entry.source) offset of.is in
        let at = first.1 in
        let right : rights_of (listed_capability image entry) ≡ rights entry.rights =
        frame-rights (source_capability image entry.source) entry.rights entry.payload offset
        (sym (named-limited (source_capability image entry.source) entry.rights entry.payload) ∙ full) in
        let may : may_write (rights entry.rights) ≡ true =
        ap may_write (sym right) ∙ keeps-bit (rights_of (listed_capability image entry)).0 held.0 1 covers.rights writes in
        frame-at image t place entry.source of.object (of.type ∙ ap (λ (k : NewObject). Some k) first.0) (lists-change image t entry is.listed is.member may)
        (omega (arith, at, low)) (omega (arith, at, high))
    by (made kind o names around) =
        let same : NewFrame ≡ kind = kind-of kind o NewFrame offset names in
        let at : offset ≡ o = ap (λ p. p.1) (same_Some (NewFrame, offset) (kind, o) names) in
        let size : 4096 ≡ 2 ^ object_bits kind = ap (λ (k : NewObject). 2 ^ object_bits k) same in
        in_pool (own-pool image t o (2 ^ object_bits kind) place around (omega (arith, at, low)) (omega (arith, at, high, size)))
    by (pool o bits watermark is around) = absurd (let e : Frame offset held m ≡ Untyped o bits watermark = is in cc)
    by (handler number entry is lists same) = absurd (let e : Frame offset held m ≡ InterruptHandler number = same in cc)

-- ---- buffers

original-frame : (image : Image) (number : ℕ) → is_frame_type (type_at image number) ≡ true → frame_of (original image number) ≡ Some (offset_of image number)
original-frame image number is =
    let kind = frame-type (type_at image number) is in
    ap frame_of (original-plain image number (ap is_table_type kind))
    ∙ ap (λ (k : Option NewObject). frame_of (first_of_type k (offset_of image number))) kind

root-kind : (o : Option NewObject) → is_root_type o ≡ true → o ≡ Some NewRootTable
root-kind (Some NewRootTable) is = refl
root-kind None is = absurd (false≢true is)
root-kind (Some (NewUntyped bits)) is = absurd (false≢true is)
root-kind (Some NewThread) is = absurd (false≢true is)
root-kind (Some NewEndpoint) is = absurd (false≢true is)
root-kind (Some NewNotification) is = absurd (false≢true is)
root-kind (Some (NewCNode radix)) is = absurd (false≢true is)
root-kind (Some NewFrame) is = absurd (false≢true is)
root-kind (Some NewPageTable) is = absurd (false≢true is)

original-root : (image : Image) (number : ℕ) → is_root_type (type_at image number) ≡ true → root_of (original image number) ≡ Some (offset_of image number)
original-root image number is =
    let kind = root-kind (type_at image number) is in
    ap root_of (original-plain image number (ap is_table_type kind))
    ∙ ap (λ (k : Option NewObject). root_of (first_of_type k (offset_of image number))) kind

-- the frame of a thread's buffer, as the image gives it
pub record OwnBuffer (image : Image) (t : Thread) (frame : ℕ) : Type 0 where
  pub is_frame : is_frame_type (type_at image t.header.buffer) ≡ true
  pub inside : t.header.buffer < image.header.objects
  pub place : frame ≡ offset_of image t.header.buffer

-- ---- while all threads stand

module _ (bytes : List ℕ) (image : Image) (s : State) (labels : List Label) (accepted : IsAccepted bytes image) (all : AllStand image s labels)
    (t : Numbered) (listed_so : Contains (numbered_threads image) t) where
  shown : (held : Entry) → (described image).slots (buffer_slot (tcb_of image t)) ≡ Some held → buffer_of s (tcb_of image t) ≡ frame_of held.capability
  shown held is =
      let slot = buffer_slot (tcb_of image t) in
      let there = buffer-slot image t.thread.header.tcb (block-thread image accepted.spelled.fits accepted.formed t listed_so) in
      ap (λ (o : Option Entry). frame_of (option_map_or (λ held. held.capability) o Empty))
      (all.apart slot (block-apart image accepted.spelled.fits accepted.formed t listed_so slot there) ∙ is)

  pub own-buffer : (frame : ℕ) → buffer_of s (tcb_of image t) ≡ Some frame → OwnBuffer image t.thread frame
  own-buffer frame has =
      let at = is-listed image t listed_so in
      elim (t.thread.header.buffer == no_buffer) as (λ b. (t.thread.header.buffer == no_buffer) ≡ b → OwnBuffer image t.thread frame) [
        | true ↦ λ none.
            absurd (none-some frame (sym (shown _ (no_buffer-shown image accepted.spelled.fits accepted.formed at.number t.thread at.listed none)) ∙ has))
        | false ↦ λ some.
            let kept = buffer-kept image at.number t.thread ((are-formed image accepted.formed).thread at.number t.thread at.listed) some in
            let is =
            shown _ (buffer-shown image accepted.spelled.fits accepted.formed at.number t.thread at.listed some)
            ∙ original-frame image t.thread.header.buffer kept.frame in
            record {
              is_frame = kept.frame;
              inside = frame-listed image t.thread.header.buffer (is-fitting image accepted.spelled.fits) kept.frame;
              place = same_Some frame (offset_of image t.thread.header.buffer) (sym has ∙ is);
            }
      ] refl

  module _ (held_given : AllHoldGiven image s) (mapped : AllMapAsHeld image s) where
    module _ (page frame : ℕ) (allowed : Rights) (writes : may_write allowed ≡ true) (place : ℕ) (low : frame ≤ place) (high : place < frame + page_size) where
      by-image : ImageMaps image t page frame allowed → StoresIn image t.thread place
      by-image m =
          let f = m.entry in
          let place_in = contained image.frames f m.listed in
          let kept = (are-formed image accepted.formed).frame place_in.0 f place_in.1 in
          let less = IsFitting.frame (is-fitting image accepted.spelled.fits) place_in.0 f place_in.1 in
          let right : may_write (rights f.rights) ≡ true = writes-listed f.rights (ap may_write (sym m.rights) ∙ writes) in
          let here = m.object in
          frame-at image t.thread place f.frame less.frame (frame-type (type_at image f.frame) kept.frame)
          (maps-change image t.thread f m.listed m.root right) (omega (arith, here, low)) (omega (arith, here, high))

    own-root : root_of (original image t.thread.header.root) ≡ Some (root_table_of image t)
    own-root =
        let at = is-listed image t listed_so in
        original-root image t.thread.header.root ((are-formed image accepted.formed).thread at.number t.thread at.listed).root

    stands-store : (own : ThreadState) (point : ℕ) (state : PointState) → StandsAt image t s own point state → (place address : ℕ)
        → (content_of s (tcb_of image t)).place Store address ≡ Some place → StoresIn image t.thread place
    stands-store own point state stands place address is =
        let root : vspace_of s (tcb_of image t) ≡ Some (root_table_of image t) = ap root_of stands.vspace ∙ own-root in
        let n = names-frame s (tcb_of image t) (root_table_of image t) Store address place root is in
        let page = address / page_size in
        let there = n.place_is in
        let low : n.frame ≤ place = omega (arith, there) in
        let high : place < n.frame + page_size = omega (arith, there) in
        elim ((stands.maps page n.frame n.allowed).0 n.maps) [
          | inl mapped_so ↦ by-image page n.frame n.allowed n.permits place low high mapped_so
          | inr noted ↦
              let of = is-noted image t.thread s.slots noted.slot (subst (λ (l : List NotedSlot). Contains l noted.slot) (sym stands.slots) noted.noted) in
              let slot = slot_of_key image noted.slot.key in
              let mapping : FrameMapping = record { root = root_table_of image t; page = page; rights = n.allowed } in
              let holds : capability_at s.slots slot ≡ Frame n.frame noted.held (Some mapping) = sym of.capability ∙ noted.capability in
              let full : capability_at s.slots slot ≡ Empty → ⊥ =
              λ empty. let e : Frame n.frame noted.held (Some mapping) ≡ Empty = sym holds ∙ empty in cc in
              frame-given image t.thread n.frame noted.held (Some mapping) place
              (subst (λ (c : Cap). IsGivenTo image t.thread c) holds (held_given t slot listed_so of.own full))
              (mapped t slot n.frame noted.held mapping listed_so of.own holds n.permits) low high
        ]

    -- whatever it does
    pub stores-at : (place address : ℕ) → (content_of s (tcb_of image t)).place Store address ≡ Some place → StoresIn image t.thread place
    stores-at = elim (all.stand t listed_so) [
      | runs_so own point state there status stands within ↦ stands-store own point state stands
      | waits_so own point state there waiting stands at none ↦ stands-store own point state stands
    ]
