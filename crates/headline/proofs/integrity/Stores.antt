-- Where a thread may store while all threads stand: in a frame that the image maps for it with write, or that it has mapped by a capability with
-- write. And its message buffer is the one that the image gives it.
use Rattle.std.proofs.Common.{ℕ, ◌≡◌, ◌∙◌, ◌==◌, ◌+◌, ◌*◌, ◌/◌, ◌%◌, ◌^◌, ◌<◌, ◌≤◌, ◌&&◌, ◌||◌, inl, inr, Bool, true, false, not, bit_and, Some, List, refl}
use Rattle.std.proofs.Common.{sym, ap, ap₂, subst, arith}
use Rattle.std.specs.Prelude.{Contains, slice_get}
use Rattle.std.proofs.lemmas.Bool.{eq-eqb, false≢true, or_left}
use Rattle.std.proofs.lemmas.Bool.Decides.{eqb_tells}
use Rattle.std.proofs.lemmas.List.Folds.{list_any_at}
use Rattle.std.proofs.lemmas.Nat.{and_mask}
use Rattle.std.proofs.lemmas.Option.{slice_get-get_or}
use Rattle.format_laws.specs.Fitting.{IsFitting}
use Rattle.format_laws.proofs.Laws.{is-fitting}
use Rattle.soundness.proofs.Laws.{are-formed, frame-type}
use Rattle.model.specs.declared.capabilities.Cap.{Cap}
use Rattle.model.specs.declared.capabilities.Cap.TheVariants.{Empty, Frame}
use Rattle.model.specs.declared.capabilities.FrameMapping.{FrameMapping}
use Rattle.model.specs.declared.entries.FrameEntry.{FrameEntry}
use Rattle.model.specs.declared.instructions.Access.TheVariants.{Store}
use Rattle.model.specs.declared.labels.Label.{Label}
use Rattle.model.specs.declared.rights.Rights.{Rights}
use Rattle.model.specs.Acceptance.Accepted.{IsAccepted}
use Rattle.model.specs.Acceptance.NotedKernel.{slot_of_key}
use Rattle.model.specs.Acceptance.NotedStates.{NotedSlot, PointState}
use Rattle.model.specs.Acceptance.ThreadInvariants.{ImageMaps, StandsAt, runs as runs_so, waits as waits_so, root_table_of, tcb_of}
use Rattle.model.specs.Capabilities.CapabilityKinds.{root_of}
use Rattle.model.specs.Capabilities.Rights.{frame_rights, mapping_rights, may_write, rights}
use Rattle.model.specs.Capabilities.Slots.{capability_at}
use Rattle.model.specs.Images.Described.{Numbered, numbered_threads}
use Rattle.model.specs.Images.Image.{Image, Thread}
use Rattle.model.specs.Images.Places.{type_at}
use Rattle.model.specs.Kernel.AddressSpaces.{content_of, page_size, vspace_of}
use Rattle.model.specs.Kernel.Messages.{buffer_of}
use Rattle.model.specs.Kernel.State.{State, ThreadState}
use Rattle.headline.specs.facts.Standing.{AllStand}
use Rattle.headline.specs.integrity.Mapped.{AllMapAsHeld}
use Rattle.headline.specs.integrity.Runs.{has_frame_at, has_memory_at, may_write_at}
use Rattle.headline.specs.parts.Given.{AllHoldGiven, IsGivenTo}
use Rattle.headline.specs.parts.Parts.{acknowledges, changes, changes_by, lists, maps}
use Rattle.headline.proofs.facts.Laws.{names-frame}
use Rattle.headline.proofs.integrity.Given.{frame-at, frame-given}
use Rattle.headline.proofs.invocations.NotedHere.{is-noted}
use Rattle.headline.proofs.kept.Laws.{given, own-buffer}

-- ---- rights of mappings

low-bit : (n : ℕ) → bit_and n 1 ≡ n % 2
low-bit n = and_mask n 1

-- no mapping writes whose first part is 0
even : (w r e : ℕ) → w ≡ 0 → not (bit_and (w * r + 2 * r + 4 * e) 1 == 0) ≡ false
even w r e none =
    let zero_times : 0 * r ≡ 0 = omega arith in
    let gone : w * r ≡ 0 = ap (λ (n : ℕ). n * r) none ∙ zero_times in
    ap not (eq-eqb (bit_and (w * r + 2 * r + 4 * e) 1) 0 (low-bit (w * r + 2 * r + 4 * e) ∙ omega (arith, gone)))

-- a mapping writes only if the capability does
pub writes-held : (held : Rights) (word : ℕ) → may_write (mapping_rights held word) ≡ true → may_write held ≡ true
writes-held held word writes = elim (eqb_tells (bit_and held.0 1) 0) [
  | inr apart ↦ ap not apart.0
  | inl none ↦
      let zero_times : 0 * (word % 2) ≡ 0 = omega arith in
      absurd (false≢true
      (sym (even (bit_and held.0 1 * (word % 2)) (bit_and held.0 2 / 2 * (word / 2 % 2)) (bit_and held.0 2 / 2 * (word / 4 % 2))
      (ap (λ (n : ℕ). n * (word % 2)) none.1 ∙ zero_times)) ∙ writes))
]

-- and only if the image lists it so
writes-listed : (bits : ℕ) → may_write (mapping_rights frame_rights bits) ≡ true → may_write (rights bits) ≡ true
writes-listed bits writes = elim (eqb_tells (bit_and bits 1) 0) [
  | inr apart ↦ ap not apart.0
  | inl none ↦
      let low = low-bit bits in
      let no = none.1 in
      let half : bits % 2 ≡ 0 = omega (arith, low, no) in
      absurd (false≢true
      (sym (even (bit_and frame_rights.0 1 * (bits % 2)) (bit_and frame_rights.0 2 / 2 * (bits / 2 % 2)) (bit_and frame_rights.0 2 / 2 * (bits / 4 % 2))
      (ap (λ (n : ℕ). bit_and frame_rights.0 1 * n) half)) ∙ writes))
]

-- ---- what the image maps for a thread

first-of : (a b c d : Bool) → a ≡ true → (a || b || c || d) ≡ true
first-of true b c d is = refl
first-of false b c d is = absurd (false≢true is)

third-of : (a b c d : Bool) → c ≡ true → (a || b || c || d) ≡ true
third-of true b c d is = refl
third-of false true c d is = refl
third-of false false true d is = refl
third-of false false false d is = absurd (false≢true is)

maps-change : (image : Image) (t : Thread) (f : FrameEntry) → Contains image.frames f → f.root ≡ t.header.root → may_write (rights f.rights) ≡ true
    → changes image t f.frame ≡ true
unfolding changes
maps-change image t f there root writes =
    let object = f.frame in
    let test = λ (g : FrameEntry). (g.root == t.header.root) && ((g.frame == object) && may_write (rights g.rights)) in
    first-of (maps image t (λ g. (g.frame == object) && may_write (rights g.rights))) (lists image t (λ c. (c.source == object) && changes_by image c))
    (t.header.buffer == object) (acknowledges image t object)
    (list_any_at test image.frames there.0 f there.1
    (ap test there.2
    ∙ ap₂ (λ (a b : Bool). a && (b && may_write (rights f.rights))) (eq-eqb f.root t.header.root root) (eq-eqb f.frame object refl)
    ∙ writes))

buffer-changes : (image : Image) (t : Thread) → changes image t t.header.buffer ≡ true
unfolding changes
buffer-changes image t =
    let object = t.header.buffer in
    third-of (maps image t (λ g. (g.frame == object) && may_write (rights g.rights))) (lists image t (λ c. (c.source == object) && changes_by image c))
    (t.header.buffer == object) (acknowledges image t object) (eq-eqb t.header.buffer object refl)

-- ---- while all threads stand

module _ (bytes : List ℕ) (image : Image) (s : State) (labels : List Label) (accepted : IsAccepted bytes image) (all : AllStand image s labels)
    (t : Numbered) (listed : Contains (numbered_threads image) t) where
  -- a byte of the thread's buffer
  pub buffer-at : (target index : ℕ) → buffer_of s (tcb_of image t) ≡ Some target → index < 2 ^ 12 → may_write_at image t.thread (target + index) ≡ true
  buffer-at target index is less =
      let own = own-buffer bytes image s labels accepted all t listed target is in
      let number = t.thread.header.buffer in
      let at = own.place in
      or_left (has_frame_at image t.thread (target + index)) (has_memory_at image t.thread (target + index))
      (frame-at image t.thread (target + index) number own.less (frame-type (type_at image number) own.kept.frame) (buffer-changes image t.thread)
      (omega (arith, at)) (omega (arith, at, less)))

  module _ (held_given : AllHoldGiven image s) (mapped : AllMapAsHeld image s) where
    module _ (page frame : ℕ) (allowed : Rights) (writes : may_write allowed ≡ true) (place : ℕ) (low : frame ≤ place) (high : place < frame + page_size) where
      by-image : ImageMaps image t page frame allowed → may_write_at image t.thread place ≡ true
      by-image m =
          let f = m.entry in
          let there = m.listed in
          let at : slice_get image.frames there.0 ≡ Some f =
          slice_get-get_or image.frames there.0 f there.1 ∙ ap (λ (x : FrameEntry). Some x) there.2 in
          let kept = (are-formed image accepted.formed).frame there.0 f at in
          let less = IsFitting.frame (is-fitting image accepted.spelled.fits) there.0 f at in
          let right : may_write (rights f.rights) ≡ true = writes-listed f.rights (ap may_write (sym m.rights) ∙ writes) in
          let here = m.object in
          or_left (has_frame_at image t.thread place) (has_memory_at image t.thread place)
          (frame-at image t.thread place f.frame less.frame (frame-type (type_at image f.frame) kept.frame) (maps-change image t.thread f there m.root right)
          (omega (arith, here, low)) (omega (arith, here, high)))

    stands-store : (own : ThreadState) (point : ℕ) (state : PointState) → StandsAt image t s own point state → (place address : ℕ)
        → (content_of s (tcb_of image t)).place Store address ≡ Some place → may_write_at image t.thread place ≡ true
    stands-store own point state stands place address is =
        let root : vspace_of s (tcb_of image t) ≡ Some (root_table_of image t) = ap root_of stands.vspace ∙ (given image t accepted.formed listed).root in
        let n = names-frame s (tcb_of image t) (root_table_of image t) Store address place root is in
        let page = address / page_size in
        let there = n.place_is in
        let low : n.frame ≤ place = omega (arith, there) in
        let high : place < n.frame + page_size = omega (arith, there) in
        elim ((stands.maps page n.frame n.allowed).0 n.maps) [
          | inl mapped_so ↦ by-image page n.frame n.allowed n.permits place low high mapped_so
          | inr noted ↦
              let of = is-noted image t.thread s.slots noted.slot (subst (λ (l : List NotedSlot). Contains l noted.slot) (sym stands.slots) noted.noted) in
              let slot = slot_of_key image noted.slot.key in
              let mapping : FrameMapping = record { root = root_table_of image t; page = page; rights = n.allowed } in
              let holds : capability_at s.slots slot ≡ Frame n.frame noted.held (Some mapping) = sym of.capability ∙ noted.capability in
              let full : capability_at s.slots slot ≡ Empty → ⊥ =
              λ empty. let e : Frame n.frame noted.held (Some mapping) ≡ Empty = sym holds ∙ empty in cc in
              frame-given image t.thread n.frame noted.held (Some mapping) place
              (subst (λ (c : Cap). IsGivenTo image t.thread c) holds (held_given t slot listed of.own full))
              (mapped t slot n.frame noted.held mapping listed of.own holds n.permits) low high
        ]

    -- whatever it does
    pub stores-at : (place address : ℕ) → (content_of s (tcb_of image t)).place Store address ≡ Some place → may_write_at image t.thread place ≡ true
    stores-at = elim (all.stand t listed) [
      | runs_so own point state there status stands within ↦ stands-store own point state stands
      | waits_so own point state there waiting stands at none ↦ stands-store own point state stands
    ]
