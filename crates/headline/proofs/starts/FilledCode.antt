-- The frames of code hold the programs, and nothing else is filled into them.
use Rattle.std.proofs.Common.{ℕ, zero, suc, ◌≡◌, ◌≢◌, ◌∙◌, ◌==◌, ◌+◌, ◌-◌, ◌*◌, ◌^◌, ◌<◌, ◌≤◌, ◌&&◌, inl, inr, Bool, true, false, not, take, drop, map}
use Rattle.std.proofs.Common.{if◌then◌else◌, length, Option, Some, None, option_map, refl, sym, ap, subst, arith}
use Rattle.std.specs.Prelude.{flat_map, slice_get, slice_index}
use Rattle.std.specs.Option.{option_map_or}
use Rattle.std.specs.List.{All, list_any, range_with_len}
use Rattle.std.proofs.lemmas.Bool.{and_parts, eq-eqb, eqb-true, cases_lt, false≢true, or_left, or_parts, or_right}
use Rattle.std.proofs.lemmas.Bool.Decides.{eqb_tells}
use Rattle.std.proofs.lemmas.List.{get_or-drop, get_or-take, get_or_past, length-drop, length-take}
use Rattle.std.proofs.lemmas.List.Elements.{All-append, All-map}
use Rattle.std.proofs.lemmas.Option.{none-some, same_Some}
use Rattle.format_laws.specs.Fitting.{CertificateFits, FrameFits, IsFitting}
use Rattle.format_laws.proofs.Laws.{certificates-fit, is-fitting}
use Rattle.soundness.proofs.Laws.{AreFormed, FrameKept, ThreadKept, any-taken, are-formed, bytes-long, contents-fit, each-all, filtered-all, flat-all}
use Rattle.soundness.proofs.Laws.{numbered-at, objects-apart}
use Rattle.model.specs.declared.entries.FrameEntry.{FrameEntry}
use Rattle.model.specs.declared.entries.ObjectEntry.{ObjectEntry}
use Rattle.model.specs.Acceptance.Accepted.{IsWellFormed}
use Rattle.model.specs.Acceptance.ThreadRules.{holds_other_root, shares_vspace}
use Rattle.model.specs.Acceptance.WellFormed.{is_frame_type}
use Rattle.model.specs.Capabilities.Slots.{is_within}
use Rattle.model.specs.Images.Described.{described, numbered}
use Rattle.model.specs.Images.Fills.{Fill, bytes_of, content_fill, described_bytes, filled_byte, fills, frame_at, is_filled, is_in_frame, page_bytes, page_fill}
use Rattle.model.specs.Images.Fills.{program_fills, program_pages}
use Rattle.model.specs.Images.Image.{Image, ImageContent, Thread, whole_image}
use Rattle.model.specs.Images.Places.{bits_of, object_at, offset_of, type_at}
use Rattle.model.specs.Kernel.AddressSpaces.{page_size}
use Rattle.model.specs.Kernel.Retype.{NewObject, NewUntyped, NewThread, NewEndpoint, NewNotification, NewCNode, NewFrame, NewPageTable, NewRootTable, is_frame}
use Rattle.model.specs.Kernel.Retype.{object_bits, type_of}
use Rattle.model.proofs.SlotChanges.{within-bounds, bounds-within}
use Rattle.thread_spaces.specs.Given.{IsListed}
use Rattle.thread_spaces.proofs.Laws.{find-passed}
use Rattle.headline.proofs.starts.LastFills.{Leaves, any-behind, any-filtered, any-flat, byte-left}
use Rattle.headline.proofs.starts.ListFacts.{none-at}
use Rattle.headline.proofs.starts.StartMaps.{IsOnlyCode, only-code}
use Rattle.headline.proofs.starts.StartPlaces.{IsPageOfCode}

-- ---- bytes of words

-- a frame is a page large
frame-kind : (kind : Option NewObject) → is_frame_type kind ≡ true → (option_map_or is_frame kind false ≡ true) × (option_map_or object_bits kind 0 ≡ 12)
frame-kind None is = absurd (false≢true is)
frame-kind (Some (NewUntyped bits)) is = absurd (false≢true is)
frame-kind (Some NewThread) is = absurd (false≢true is)
frame-kind (Some NewEndpoint) is = absurd (false≢true is)
frame-kind (Some NewNotification) is = absurd (false≢true is)
frame-kind (Some (NewCNode radix)) is = absurd (false≢true is)
frame-kind (Some NewFrame) is = (refl, refl)
frame-kind (Some NewPageTable) is = absurd (false≢true is)
frame-kind (Some NewRootTable) is = absurd (false≢true is)

any-range : (test : ℕ → Bool) (from count n : ℕ) → n < count → test (from + n) ≡ true → list_any test (range_with_len from count) ≡ true
any-range test from zero n less is = absurd (omega (arith, less))
any-range test from (suc count) zero less is = let here : from + 0 ≡ from = omega arith in
    or_left (test from) (list_any test (range_with_len (from + 1) count)) (ap test (sym here) ∙ is)
any-range test from (suc count) (suc n) less is =
    let there : from + suc n ≡ from + 1 + n = omega arith in
    or_right (test from) (list_any test (range_with_len (from + 1) count)) (any-range test (from + 1) count n (omega (arith, less)) (ap test (sym there) ∙ is))

module _ (image : Image) (fits : whole_image.fits image ≡ true) (well : IsWellFormed image) (t : Thread) (listed : IsListed image t) (page : ℕ)
    (code : IsPageOfCode image t page) where
  fitting : IsFitting image
  fitting = is-fitting image fits

  formed : AreFormed image
  formed = are-formed image well

  abbrev f : FrameEntry
  f = code.entry

  abbrev offset : ℕ
  offset = offset_of image f.frame

  kept : FrameKept image code.place f
  kept = AreFormed.frame formed code.place f code.at

  only : IsOnlyCode image code.place f
  only = only-code image code.place f (FrameKept.code kept) code.executes

  less : f.frame < image.header.objects
  less = FrameFits.frame (IsFitting.frame fitting code.place f code.at)

  size : 2 ^ bits_of (object_at image f.frame) ≡ page_size
  size = ap (λ n. 2 ^ n) (frame-kind (type_at image f.frame) (FrameKept.frame kept)).1

  -- other frames are elsewhere
  elsewhere : (number place : ℕ) → number < image.header.objects → is_frame_type (type_at image number) ≡ true → number ≢ f.frame → offset ≤ place →
      place < offset + page_size
      → offset_of image number ≤ place → place < offset_of image number + page_size → ⊥
  elsewhere number place there frame other low high first last =
      let wide : 2 ^ bits_of (object_at image number) ≡ page_size = ap (λ n. 2 ^ n) (frame-kind (type_at image number) frame).1 in
      let own = size in
      elim (objects-apart image number f.frame fitting formed there less other) [
        | inl before ↦ omega (arith, before, wide, low, last)
        | inr behind ↦ omega (arith, behind, own, high, first)
      ]

  -- ---- the thread's own fill

  abbrev address : ℕ
  address = page * page_size

  abbrev own : Fill
  own = record { offset = offset; bytes = page_bytes t address }

  own-fill : page_fill image t address ≡ Some own
  own-fill = ap (option_map (λ (e : FrameEntry). let g : Fill = record { offset = offset_of image e.frame; bytes = page_bytes t address } in g)) code.found

  module _ (o : ℕ) (inside : o < page_size) where
    abbrev place : ℕ
    place = offset + o

    abbrev wanted : ℕ
    wanted = slice_index (page_bytes t address) o

    back : place - offset ≡ o
    back = omega arith

    -- contents fill other frames
    content-leaves : (k : ℕ) (c : ImageContent) → slice_get image.contents k ≡ Some c → Leaves place wanted (content_fill image c)
    content-leaves k c at reaches =
        let bounds = within-bounds (offset_of image c.header.frame) (length (bytes_of c.words)) place reaches in
        let short = contents-fit image fits k c at in
        absurd (elim (eqb_tells c.header.frame f.frame) [
          | inl same ↦ false≢true (sym (none-at (λ (d : ImageContent). d.header.frame == f.frame) image.contents k c only.unfilled at) ∙ same.0)
          | inr other ↦ elsewhere c.header.frame place (content-inside k c at) (AreFormed.content formed k c at) other.1 (omega arith) (omega (arith, inside))
              bounds.0 (omega (arith, bounds.1, short))
        ])
      where
        content-inside : (k : ℕ) (c : ImageContent) → slice_get image.contents k ≡ Some c → c.header.frame < image.header.objects
        content-inside k c at = elim (cases_lt c.header.frame image.header.objects) [
          | inl below ↦ below
          | inr most ↦
              let many = fitting.objects in
              let none : object_at image c.header.frame ≡ record { untyped = 0; kind = 0; size = 0 } =
              get_or_past image.objects c.header.frame _ (omega (arith, most, many)) in
              absurd (false≢true (ap (λ (x : ObjectEntry). is_frame_type (type_of x.kind x.size)) (sym none) ∙ AreFormed.content formed k c at))
        ]

    -- the frame of code is mapped by one entry
    one-mapping : (k : ℕ) (g : FrameEntry) → slice_get image.frames k ≡ Some g → g.frame ≡ f.frame → g ≡ f
    one-mapping k g at same =
        let test : (not (k == code.place) && g.frame == f.frame) ≡ false =
        none-at (λ (e : ℕ × FrameEntry). not (e.0 == code.place) && (e.1).frame == f.frame) (numbered image.frames) k (k, g) only.once
        (numbered-at image.frames k g at) in
        elim (eqb_tells k code.place) [
          | inl here ↦ same_Some g f (sym at ∙ ap (slice_get image.frames) here.1 ∙ code.at)
          | inr other ↦
              absurd (false≢true (sym (ap (λ b. not b && g.frame == f.frame) (sym other.0) ∙ test) ∙ eq-eqb g.frame f.frame same))
        ]

    apart-by : (j k : ℕ) (u v : Thread) → j < k → slice_get image.threads j ≡ Some u → slice_get image.threads k ≡ Some v → u.header.root ≡ v.header.root → ⊥
    unfolding shares_vspace
    apart-by j k u v before one two same =
        let shares = ThreadKept.vspace (AreFormed.thread formed k v two) in
        let parts = or_parts (list_any (λ (w : Thread). w.header.root == v.header.root) (take k image.threads)) (holds_other_root image v) shares in
        false≢true (sym parts.0 ∙ any-taken (λ (w : Thread). w.header.root == v.header.root) image.threads k j u before one
        (eq-eqb u.header.root v.header.root same))

    -- a root table has one thread
    one-thread : (j : ℕ) (u : Thread) → slice_get image.threads j ≡ Some u → u.header.root ≡ t.header.root → u ≡ t
    one-thread j u at same = elim (cases_lt j listed.number) [
      | inl before ↦ absurd (apart-by j listed.number u t before at listed.listed same)
      | inr most ↦ elim (eqb_tells j listed.number) [
        | inl here ↦ same_Some u t (sym at ∙ ap (slice_get image.threads) here.1 ∙ listed.listed)
        | inr other ↦ absurd (apart-by listed.number j t u (let differ = other.1 in omega (arith, most, differ)) listed.listed at (sym same))
      ]
    ]

    short-page : (u : Thread) (a : ℕ) → length (page_bytes u a) ≤ page_size
    short-page u a = omega (arith, length-take page_size (drop (a - u.header.base) (bytes_of u.words)))

    -- a program's page that reaches the place is the thread's own
    by-frame : (j : ℕ) (u : Thread) (a : ℕ) (g : FrameEntry) → slice_get image.threads j ≡ Some u → frame_at image u.header.root a ≡ Some g
        → Leaves place wanted (record { offset = offset_of image g.frame; bytes = page_bytes u a })
    by-frame j u a g at found reaches =
        let passed = find-passed (λ (e : FrameEntry). e.root == u.header.root && e.address == a) image.frames g found in
        let parts = and_parts (g.root == u.header.root) (g.address == a) passed.passes in
        let bounds = within-bounds (offset_of image g.frame) (length (page_bytes u a)) place reaches in
        let short = short-page u a in
        let there = FrameFits.frame (IsFitting.frame fitting passed.place g passed.at) in
        elim (eqb_tells g.frame f.frame) [
          | inr other ↦
              absurd (elsewhere g.frame place there (FrameKept.frame (AreFormed.frame formed passed.place g passed.at)) other.1 (omega arith)
              (omega (arith, inside)) bounds.0 (omega (arith, bounds.1, short)))
          | inl same ↦
              let entry : g ≡ f = one-mapping passed.place g passed.at same.1 in
              let root : u.header.root ≡ t.header.root = sym (eqb-true g.root u.header.root parts.0) ∙ ap (λ (e : FrameEntry). e.root) entry ∙ code.root in
              let thread : u ≡ t = one-thread j u at root in
              let address_is : a ≡ address = sym (eqb-true g.address a parts.1) ∙ ap (λ (e : FrameEntry). e.address) entry ∙ code.address in
              let index : place - offset_of image g.frame ≡ o = ap (λ (n : ℕ). place - offset_of image n) same.1 ∙ back in
              λ i. slice_index (page_bytes (thread i) (address_is i)) (index i)
        ]

    page-leaves : (j : ℕ) (u : Thread) (a : ℕ) (h : Fill) → slice_get image.threads j ≡ Some u → page_fill image u a ≡ Some h → Leaves place wanted h
    page-leaves j u a h at is =
        elim (frame_at image u.header.root a) as (λ found. frame_at image u.header.root a ≡ found
        → option_map (λ (e : FrameEntry). let g : Fill = record { offset = offset_of image e.frame; bytes = page_bytes u a } in g) found ≡ Some h →
        Leaves place wanted h) [
          | None ↦ λ _ clash. absurd (none-some h clash)
          | Some g ↦ λ found same. subst (λ (x : Fill). Leaves place wanted x) (same_Some _ h same) (by-frame j u a g at found)
        ] refl is

    all-leave : All (Leaves place wanted) (fills image)
    unfolding fills
    all-leave =
        All-append (Leaves place wanted) (map (content_fill image) image.contents) (flat_map (program_fills image) image.threads)
        (All-map (Leaves place wanted) (content_fill image) image.contents
        (each-all (λ c. Leaves place wanted (content_fill image c)) image.contents content-leaves))
        (flat-all (Leaves place wanted) (program_fills image) image.threads
        (λ j u at. filtered-all (Leaves place wanted) (page_fill image u) (program_pages u) (λ a h is. page-leaves j u a h at is)))

    module _ (reach : address - t.header.base + o < 4 * t.header.words) where
      own-length : o < length (page_bytes t address)
      own-length =
          let words : length t.words ≡ t.header.words = CertificateFits.words (certificates-fit image listed.number t fits listed.listed) in
          let bytes = bytes-long t.words in
          let taken = length-take page_size (drop (address - t.header.base) (bytes_of t.words)) in
          let dropped = length-drop (address - t.header.base) (bytes_of t.words) in
          omega (arith, words, bytes, taken, dropped, reach, inside)

      own-reached : is_filled place own ≡ true
      own-reached = let long = own-length in bounds-within offset (length (page_bytes t address)) place (omega arith) (omega (arith, long))

      some-fill : list_any (is_filled place) (fills image) ≡ true
      unfolding fills
      some-fill =
          any-behind (is_filled place) (map (content_fill image) image.contents) (flat_map (program_fills image) image.threads)
          (any-flat (is_filled place) (program_fills image) image.threads listed.number t listed.listed
          (any-filtered (is_filled place) (page_fill image t) (program_pages t) code.number address own code.listed own-fill own-reached))

      in-frame : list_any (is_in_frame image place) (range_with_len 0 image.header.objects) ≡ true
      in-frame =
          any-range (is_in_frame image place) 0 image.header.objects f.frame less
          (ap (λ (n : ℕ). is_in_frame image place n) here
          ∙ ap (λ b. b && is_within offset page_size place) (frame-kind (type_at image f.frame) (FrameKept.frame kept)).0
          ∙ bounds-within offset page_size place (omega arith) (omega (arith, inside)))
        where
          here : 0 + f.frame ≡ f.frame
          here = omega arith

      pub byte-there : (described image).bytes place ≡ Some (slice_index (bytes_of t.words) (address - t.header.base + o))
      unfolding described described_bytes
      byte-there =
          ap (λ b. if b then Some (filled_byte (fills image) place) else None) in-frame
          ∙ ap (λ (n : ℕ). Some n)
          (byte-left place wanted (fills image) all-leave some-fill
          ∙ get_or-take page_size (drop (address - t.header.base) (bytes_of t.words)) o 0 inside
          ∙ get_or-drop (address - t.header.base) (bytes_of t.words) o 0)
