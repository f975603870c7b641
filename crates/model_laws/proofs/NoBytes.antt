-- A thread that the image gives no bytes to write changes none by any step: it maps no frame with write, holds no frame and no untyped memory, and has no
-- message buffer.
use Rattle.std.proofs.Common.{ℕ, ◌≡◌, ◌≢◌, ◌∙◌, ◌/◌, ◌+◌, ◌%◌, ◌&&◌, ◌||◌, inl, inr, Bool, true, false, not, if◌then◌else◌, Option, Some, None, List, [], ◌∷◌}
use Rattle.std.proofs.Common.{All, option_map, option_and_then, refl, sym, ap, subst}
use Rattle.std.specs.Prelude.{Contains, filter_map}
use Rattle.std.specs.List.{cons_option, list_any}
use Rattle.std.specs.Option.{option_map_or}
use Rattle.std.proofs.lemmas.Bool.{false≢true}
use Rattle.std.proofs.lemmas.List.Elements.{All-cons, All-contains, All-nil}
use Rattle.std.proofs.lemmas.List.Folds.{list_any_at}
use Rattle.std.proofs.lemmas.Option.{none-some, same_Some}
use Rattle.model.specs.declared.capabilities.Cap.{Cap}
use Rattle.model.specs.declared.capabilities.Cap.TheVariants.{Empty, Untyped, Frame, InterruptHandler}
use Rattle.model.specs.declared.capabilities.FrameMapping.{FrameMapping}
use Rattle.model.specs.declared.entries.CapabilityEntry.{CapabilityEntry}
use Rattle.model.specs.declared.entries.FrameEntry.{FrameEntry}
use Rattle.model.specs.declared.instructions.Access.TheVariants.{Store}
use Rattle.model.specs.declared.labels.Label.{Label}
use Rattle.model.specs.declared.rights.Rights.{Rights}
use Rattle.model.specs.declared.slot_entries.Entry.{Entry}
use Rattle.model.specs.Acceptance.Accepted.{IsAccepted}
use Rattle.model.specs.Acceptance.Authority.{ByteChange, written, comes_with_frame, goes_with_frame, delivered, Delivers, sends, receives, replies, Holds}
use Rattle.model.specs.Acceptance.Authority.{IsUntypedAround, ObjectChange, appears, ends, WithinAuthority}
use Rattle.model.specs.Acceptance.NotedKernel.{key_of, keys_of, noted_after, noted_of, slot_of_key}
use Rattle.model.specs.Acceptance.NotedStates.{NotedSlot, PointState, SlotKey}
use Rattle.model.specs.Acceptance.ThreadInvariants.{StandsAt, runs as runs_so, waits as waits_so, root_table_of, tcb_of}
use Rattle.model.specs.Acceptance.ThreadRules.{is_member, reached}
use Rattle.model.specs.Acceptance.WellFormed.{is_frame_type}
use Rattle.model.specs.Capabilities.CapabilityKinds.{frame_of, is_untyped, root_of}
use Rattle.model.specs.Capabilities.Rights.{frame_rights, mapping_rights, may_write}
use Rattle.model.specs.Capabilities.Slots.{Slots, capability_at, empty_entry, is_full, parent_at}
use Rattle.model.specs.Images.Described.{Numbered, described, listed_capability, numbered_threads, original}
use Rattle.model.specs.Images.Image.{Image}
use Rattle.model.specs.Kernel.AddressSpaces.{MappedFrame, allows, content_of, mapped, page_size, place_in, place_under, vspace_of}
use Rattle.model.specs.Kernel.Kinds.{frame_around, object_named}
use Rattle.model.specs.Kernel.Messages.{buffer_of}
use Rattle.model.specs.Kernel.State.{State, ThreadState, buffer_slot}
use Rattle.headline.specs.facts.Standing.{AllStand}
use Rattle.headline.specs.integrity.Runs.{owns_slot}
use Rattle.headline.specs.parts.Given.{AllHoldGiven, IsGivenTo, listed, made, pool, handler, IsListedFor, IsPoolAround}
use Rattle.headline.specs.parts.Parts.{lists}
use Rattle.headline.proofs.Laws.{page-maps}
use Rattle.model_laws.proofs.Vault.{bytes-same}

abbrev pub names_frame : Cap → Bool
names_frame c = is_frame_type (option_map (λ p. p.0) (object_named c))

abbrev pub gives_bytes : Cap → Bool
gives_bytes c = is_untyped c || names_frame c

pub record HasNoBytes (image : Image) (t : Numbered) : Type 0 where
  pub given : lists image t.thread (λ c. gives_bytes (listed_capability image c)) ≡ false
  pub maps : list_any (λ f. may_write (mapping_rights frame_rights f.rights)) image.frames ≡ false
  pub apart : list_any (λ u. owns_slot image u.thread (buffer_slot (tcb_of image t))) (numbered_threads image) ≡ false
  pub keys : list_any (λ key. not (owns_slot image t.thread (slot_of_key image key))) (keys_of image (reached image t.thread)) ≡ false
  pub root : root_of (original image t.thread.header.root) ≡ Some (root_table_of image t)
  pub unbuffered : (described image).slots (buffer_slot (tcb_of image t)) ≡ Some empty_entry

none-passes : {X : Type 0} (test : X → Bool) (xs : List X) (x : X) → list_any test xs ≡ false → Contains xs x → test x ≡ true → ⊥
none-passes test xs x none there passes = false≢true (sym none ∙ list_any_at test xs there.0 x there.1 (ap test there.2 ∙ passes))

-- ---- what it was given

untyped-first : (c : Cap) → is_untyped c ≡ true → gives_bytes c ≡ true
untyped-first c is = ap (λ (b : Bool). b || names_frame c) is

frame-second : (a b : Bool) → b ≡ true → (a || b) ≡ true
frame-second true b is = refl
frame-second false b is = is

no-entry : (image : Image) (t : Numbered) → HasNoBytes image t → (entry : CapabilityEntry) → IsListedFor image t.thread entry
    → gives_bytes (listed_capability image entry) ≡ true → ⊥
no-entry image t has entry l gives =
    none-passes (λ (c : CapabilityEntry). is_member c.cnode (reached image t.thread) && gives_bytes (listed_capability image c)) image.capabilities entry
    has.given l.listed (ap (λ (b : Bool). b && gives_bytes (listed_capability image entry)) l.member ∙ gives)

no-pool : (image : Image) (t : Numbered) (first size : ℕ) → HasNoBytes image t → IsPoolAround image t.thread first size → ⊥
no-pool image t first size has p =
    no-entry image t has p.entry p.listed (untyped-first (listed_capability image p.entry) (ap is_untyped p.around.is))

no-frame : (image : Image) (t : Numbered) (offset : ℕ) (r : Rights) (m : Option FrameMapping) → HasNoBytes image t
    → IsGivenTo image t.thread (Frame offset r m) → ⊥
no-frame image t offset r m has (listed entry is covers) =
    no-entry image t has entry is (frame-second (is_untyped (listed_capability image entry)) (names_frame (listed_capability image entry))
    (ap (λ o. is_frame_type (option_map (λ p. p.0) o)) (covers.same ∙ sym covers.names)))
no-frame image t offset r m has (made kind o names around) = no-pool image t _ _ has around
no-frame image t offset r m has (pool o bits watermark is around) = no-pool image t _ _ has around
no-frame image t offset r m has (handler number entry is lists same) = let e : Frame offset r m ≡ InterruptHandler number = same in cc

no-untyped : (image : Image) (t : Numbered) (offset bits watermark : ℕ) → HasNoBytes image t → IsGivenTo image t.thread (Untyped offset bits watermark) → ⊥
no-untyped image t offset bits watermark has (listed entry is covers) = none-some (covers.kind, covers.offset) covers.names
no-untyped image t offset bits watermark has (made kind o names around) = no-pool image t _ _ has around
no-untyped image t offset bits watermark has (pool o b w is around) = no-pool image t _ _ has around
no-untyped image t offset bits watermark has (handler number entry is lists same) =
    let e : Untyped offset bits watermark ≡ InterruptHandler number = same in cc

-- ---- what is noted of its slots

record IsHeld (image : Image) (t : Numbered) (slots : Slots) (n : NotedSlot) : Type 0 where
  pub slot : ℕ
  pub own : owns_slot image t.thread slot ≡ true
  pub is : n.capability ≡ capability_at slots slot

by-key : (image : Image) (t : Numbered) (cnodes : List ℕ) (slots : Slots) (key : SlotKey) (n : NotedSlot)
    → owns_slot image t.thread (slot_of_key image key) ≡ true → noted_of image cnodes slots key ≡ Some n → IsHeld image t slots n
by-key image t cnodes slots key n own is =
    let slot = slot_of_key image key in
    let above = option_and_then (key_of image cnodes) (parent_at slots slot) in
    let h : NotedSlot = record { key = key; capability = capability_at slots slot; parent = above } in
    elim (is_full slots slot) as (λ b. (if b then Some h else None) ≡ Some n → IsHeld image t slots n) [
      | true ↦ λ here. record { slot = slot; own = own; is = ap (λ (x : NotedSlot). x.capability) (sym (same_Some h n here)) }
      | false ↦ λ clash. absurd (none-some n clash)
    ] is

neither : (a b : Bool) → (a || b) ≡ false → (a ≡ false) × (b ≡ false)
neither true b is = absurd (false≢true (sym is))
neither false b is = (refl, is)

not-false : (b : Bool) → not b ≡ false → b ≡ true
not-false true is = refl
not-false false is = absurd (false≢true (sym is))

all-held : (image : Image) (t : Numbered) (cnodes : List ℕ) (slots : Slots) (keys : List SlotKey)
    → list_any (λ key. not (owns_slot image t.thread (slot_of_key image key))) keys ≡ false
    → All (IsHeld image t slots) (filter_map (noted_of image cnodes slots) keys)
all-held image t cnodes slots [] none = All-nil (IsHeld image t slots)
all-held image t cnodes slots (key ∷ keys) none =
    let own = owns_slot image t.thread (slot_of_key image key) in
    let both = neither (not own) (list_any (λ key. not (owns_slot image t.thread (slot_of_key image key))) keys) none in
    let rest = all-held image t cnodes slots keys both.1 in
    elim (noted_of image cnodes slots key) as
    (λ o. noted_of image cnodes slots key ≡ o → All (IsHeld image t slots) (cons_option o (filter_map (noted_of image cnodes slots) keys))) [
      | None ↦ λ _. rest
      | Some y ↦ λ is.
          All-cons (IsHeld image t slots) y (filter_map (noted_of image cnodes slots) keys)
          (by-key image t cnodes slots key y (not-false own both.0) is) rest
    ] refl

held-noted : (image : Image) (t : Numbered) (slots : Slots) (n : NotedSlot) → HasNoBytes image t → Contains (noted_after image t.thread slots) n
    → IsHeld image t slots n
unfolding noted_after
held-noted image t slots n has there =
    let cnodes = reached image t.thread in
    All-contains (IsHeld image t slots) (filter_map (noted_of image cnodes slots) (keys_of image cnodes)) n
    (all-held image t cnodes slots (keys_of image cnodes) has.keys) there

-- ---- a step

module _ (bytes : List ℕ) (image : Image) (accepted : IsAccepted bytes image) (s after : State) (labels : List Label) (all : AllStand image s labels)
    (held : AllHoldGiven image s) (t : Numbered) (among : Contains (numbered_threads image) t) (has : HasNoBytes image t)
    (within : WithinAuthority image t.thread s after) where
  unbuffered : (frame : ℕ) → buffer_of s (tcb_of image t) ≡ Some frame → ⊥
  unbuffered frame is =
      let slot = buffer_slot (tcb_of image t) in
      let empty : s.slots slot ≡ Some empty_entry =
      all.apart slot (λ u there own. none-passes (λ (u : Numbered). owns_slot image u.thread slot) (numbered_threads image) u has.apart there own)
      ∙ has.unbuffered in
      none-some frame (sym (ap (λ (o : Option Entry). frame_of (option_map_or (λ held. held.capability) o Empty)) empty) ∙ is)

  no-memory : (first size : ℕ) → Holds image t.thread s (IsUntypedAround first size) → ⊥
  no-memory first size h =
      no-untyped image t h.such.offset h.such.bits h.such.watermark has
      (subst (IsGivenTo image t.thread) h.such.is
      (held t h.slot among h.own (λ empty. let e : Empty ≡ Untyped h.such.offset h.such.bits h.such.watermark = sym empty ∙ h.such.is in cc)))

  no-object : (offset : ℕ) → ObjectChange image t.thread s after offset → ⊥
  no-object offset (appears kind none new holds) = no-memory _ _ holds
  no-object offset (ends kind was gone holds) = no-memory _ _ holds

  no-delivery : (from to source target : ℕ) → Delivers image t.thread s after from to → buffer_of s from ≡ Some source → buffer_of s to ≡ Some target → ⊥
  no-delivery from to source target (sends endpoint badge is named takes) one other = unbuffered source (ap (buffer_of s) (sym is) ∙ one)
  no-delivery from to source target (receives endpoint first is named takes who sent) one other = unbuffered target (ap (buffer_of s) (sym is) ∙ other)
  no-delivery from to source target (replies is right awaits runs) one other = unbuffered source (ap (buffer_of s) (sym is) ∙ one)

  module _ (own : ThreadState) (point : ℕ) (state : PointState) (stands : StandsAt image t s own point state) (place address : ℕ) where
    never-writes : (m : MappedFrame) → mapped s (root_table_of image t) (address / page_size) ≡ Some m → may_write m.allowed ≡ true → ⊥
    never-writes m there writes =
        let page = address / page_size in
        elim ((stands.maps page m.frame m.allowed).0 (page-maps s (root_table_of image t) page m.frame m.allowed there)) [
          | inl i ↦
              none-passes (λ (f : FrameEntry). may_write (mapping_rights frame_rights f.rights)) image.frames i.entry has.maps i.listed
              (ap may_write (sym i.rights) ∙ writes)
          | inr noted ↦
              let h = held-noted image t s.slots noted.slot has
              (subst (λ (l : List NotedSlot). Contains l noted.slot) (sym stands.slots) noted.noted) in
              let mapping : FrameMapping = record { root = root_table_of image t; page = page; rights = m.allowed } in
              let holds : capability_at s.slots h.slot ≡ Frame m.frame noted.held (Some mapping) = sym h.is ∙ noted.capability in
              no-frame image t m.frame noted.held (Some mapping) has
              (subst (IsGivenTo image t.thread) holds
              (held t h.slot among h.own (λ empty. let e : Frame m.frame noted.held (Some mapping) ≡ Empty = sym holds ∙ empty in cc)))
        ]

    by-test : (m : MappedFrame) → mapped s (root_table_of image t) (address / page_size) ≡ Some m → (b : Bool) → allows Store m.allowed ≡ b
        → (if b then Some (m.frame + address % page_size) else None) ≡ Some place → ⊥
    by-test m there true permits is = never-writes m there permits
    by-test m there false permits is = none-some place is

    by-page : (o : Option MappedFrame) → mapped s (root_table_of image t) (address / page_size) ≡ o
        → option_and_then (place_in Store address) o ≡ Some place → ⊥
    by-page None there is = none-some place is
    by-page (Some m) there is = by-test m there (allows Store m.allowed) refl is

    no-store : (content_of s (tcb_of image t)).place Store address ≡ Some place → ⊥
    no-store is =
        let vspace : vspace_of s (tcb_of image t) ≡ Some (root_table_of image t) = ap root_of stands.vspace ∙ has.root in
        by-page (mapped s (root_table_of image t) (address / page_size)) refl
        (sym (ap (option_and_then (λ r. place_under s r Store address)) vspace) ∙ is)

  stores-none : (place address : ℕ) → (content_of s (tcb_of image t)).place Store address ≡ Some place → ⊥
  stores-none = elim (all.stand t among) [
    | runs_so own point state there status stands budget ↦ no-store own point state stands
    | waits_so own point state there waiting stands at none ↦ no-store own point state stands
  ]

  no-change : (place : ℕ) → ByteChange image t.thread s after place → ⊥
  no-change place (written some still address is) = stores-none place address is
  no-change place (comes_with_frame was is new) =
      no-object (frame_around place) (within.objects (frame_around place) (λ same. was (same ∙ is)))
  no-change place (goes_with_frame was is none) =
      no-object (frame_around place) (within.objects (frame_around place) (λ same. is (sym same ∙ was)))
  no-change place (delivered some still from to index source target delivers one other low high at is) =
      no-delivery from to source target delivers one other

  pub leaves-bytes : (place : ℕ) → after.bytes place ≡ s.bytes place
  leaves-bytes place = sym (bytes-same (s.bytes place) (after.bytes place) (λ differs. no-change place (within.bytes place differs)))
