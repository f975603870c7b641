-- The bytes of a part are the same at the start: no program of another thread lies in a frame that the part takes, since such a frame is mapped once.
use Rattle.std.proofs.Common.{ℕ, zero, suc, ◌≡◌, ◌∙◌, ◌==◌, ◌+◌, ◌-◌, ◌<◌, ◌≤◌, ◌++◌, ◌&&◌, ◌||◌, inl, inr, Bool, true, false, not, cond, if◌then◌else◌}
use Rattle.std.proofs.Common.{List, [], ◌∷◌}
use Rattle.std.proofs.Common.{map, filter, find, take, drop, length, Option, Some, None, option_map, refl, sym, ap, ap₂, arith}
use Rattle.std.specs.Prelude.{Contains, filter_map, flat_map, reverse, slice_get, slice_index}
use Rattle.std.specs.Option.{option_map_or, option_or}
use Rattle.std.specs.List.{cons_option, list_all, list_any, range_with_len}
use Rattle.std.proofs.lemmas.Bool.{and_parts, cases_order, eq-eqb, eqb-true, false≢true, ne_eqb, or_parts}
use Rattle.std.proofs.lemmas.Bool.Decides.{eqb_tells}
use Rattle.std.proofs.lemmas.List.{length-take}
use Rattle.std.proofs.lemmas.Option.{none-some, same_Some}
use Rattle.format_laws.proofs.Laws.{is-fitting}
use Rattle.soundness.proofs.Laws.{are-formed, buffer-kept, frame-type, numbered-at, stand-apart}
use Rattle.model.proofs.SlotChanges.{within-bounds}
use Rattle.model.specs.declared.entries.CapabilityEntry.{CapabilityEntry}
use Rattle.model.specs.declared.entries.FrameEntry.{FrameEntry}
use Rattle.model.specs.Acceptance.Accepted.{IsAccepted}
use Rattle.model.specs.Acceptance.ThreadRules.{holds_other_root, is_code, is_member, reached, shares_vspace}
use Rattle.model.specs.Acceptance.WellFormed.{executes, has_writable_code, is_frame_type, is_mapped_twice, is_named_otherwise, is_untyped_type}
use Rattle.model.specs.Images.Described.{Numbered, described, numbered, numbered_threads}
use Rattle.model.specs.Images.Fills.{Fill, bytes_of, content_fill, described_bytes, fills, filled_byte, frame_at, is_filled, is_in_frame, page_bytes}
use Rattle.model.specs.Images.Fills.{page_fill}
use Rattle.model.specs.Images.Fills.{program_fills, program_pages}
use Rattle.model.specs.Images.Image.{Image, Thread, no_buffer}
use Rattle.model.specs.Images.Places.{offset_of, type_at}
use Rattle.model.specs.Kernel.AddressSpaces.{page_size}
use Rattle.headline.specs.parts.Parts.{Part, alone, is_in, lists, maps, takes, takes_by}
use Rattle.headline.proofs.Laws.{is-listed}
use Rattle.part_laws.specs.Agreeing.{IsByteOfPart, is_frame_byte, is_pool_byte}
use Rattle.part_laws.proofs.changes.Members.{any-at, listed-from, some-passes}
use Rattle.part_laws.proofs.outside.Places.{before-fails, either-true, one-object, own-pool}
use Rattle.part_laws.proofs.outside.Storing.{frame-covers}
use Rattle.part_laws.proofs.starts.Kept.{append-kept-back, find-back, flat-kept-back}

-- ---- lists

-- what is picked was picked from something
record PickedFrom {A B : Type 0} (f : A → Option B) (xs : List A) (y : B) : Type 0 where
  pub place : ℕ
  pub from : A
  pub at : slice_get xs place ≡ Some from
  pub gives : f from ≡ Some y

module _ {A B : Type 0} (f : A → Option B) where
  picked-later : (x : A) (xs : List A) (y : B) → PickedFrom f xs y → PickedFrom f (x ∷ xs) y
  picked-later x xs y p = record { place = suc p.place; from = p.from; at = p.at; gives = p.gives }

  picked-by : (x : A) (xs : List A) (k : ℕ) (y : B) → ((j : ℕ) → slice_get (filter_map f xs) j ≡ Some y → PickedFrom f xs y) → (o : Option B) → f x ≡ o
      → slice_get (cons_option o (filter_map f xs)) k ≡ Some y → PickedFrom f (x ∷ xs) y
  picked-by x xs k y later None is at = picked-later x xs y (later k at)
  picked-by x xs zero y later (Some z) is at = record { place = 0; from = x; at = refl; gives = is ∙ at }
  picked-by x xs (suc k) y later (Some z) is at = picked-later x xs y (later k at)

  picked-from : (xs : List A) (k : ℕ) (y : B) → slice_get (filter_map f xs) k ≡ Some y → PickedFrom f xs y
  picked-from [] k y at = absurd (none-some y at)
  picked-from (x ∷ xs) k y at = picked-by x xs k y (λ j there. picked-from xs j y there) (f x) refl at

all-at : {A : Type 0} (test : A → Bool) (xs : List A) (k : ℕ) (x : A) → slice_get xs k ≡ Some x → list_all test xs ≡ true → test x ≡ true
all-at test [] k x at all = absurd (none-some x at)
all-at test (y ∷ ys) zero x at all = ap test (sym (same_Some y x at)) ∙ (and_parts (test y) (list_all test ys) all).0
all-at test (y ∷ ys) (suc k) x at all = all-at test ys k x at (and_parts (test y) (list_all test ys) all).1

module _ {B : Type 0} (test : B → Bool) where
  one-back : (x : B) → test x ≡ false → find test (reverse (x ∷ [])) ≡ None
  one-back x isnt = ap (λ b. cond b (Some x) None) isnt

  none-back : (xs : List B) → ((k : ℕ) (x : B) → slice_get xs k ≡ Some x → test x ≡ false) → find test (reverse xs) ≡ None
  none-back [] fails = refl
  none-back (x ∷ xs) fails =
      find-back test (x ∷ []) xs ∙ ap (λ o. option_or o (find test (reverse (x ∷ [])))) (none-back xs (λ k y at. fails (suc k) y at))
      ∙ one-back x (fails 0 x refl)

record FoundAt {A : Type 0} (test : A → Bool) (xs : List A) (x : A) : Type 0 where
  pub place : ℕ
  pub at : slice_get xs place ≡ Some x
  pub is : test x ≡ true

module _ {A : Type 0} (test : A → Bool) where
  found-by : (y : A) (ys : List A) (x : A) → (find test ys ≡ Some x → FoundAt test ys x) → (b : Bool) → test y ≡ b
      → cond (test y) (Some y) (find test ys) ≡ Some x → FoundAt test (y ∷ ys) x
  found-by y ys x later true is found =
      let same : y ≡ x = same_Some y x (sym (ap (λ b. cond b (Some y) (find test ys)) is) ∙ found) in
      record { place = 0; at = ap (λ z. Some z) same; is = ap test (sym same) ∙ is }
  found-by y ys x later false isnt found =
      let f = later (sym (ap (λ b. cond b (Some y) (find test ys)) isnt) ∙ found) in record { place = suc f.place; at = f.at; is = f.is }

  found-at : (xs : List A) (x : A) → find test xs ≡ Some x → FoundAt test xs x
  found-at [] x found = absurd (none-some x found)
  found-at (y ∷ ys) x found = found-by y ys x (found-at ys x) (test y) refl found

-- ---- code

module _ (bytes : List ℕ) (image : Image) (accepted : IsAccepted bytes image) (part : Part) where
  module _ (v : Numbered) (among : Contains (numbered_threads image) v) (outside : is_in part v.thread ≡ false) (k : ℕ) (f : FrameEntry)
      (at : slice_get image.frames k ≡ Some f) (root : f.root ≡ v.thread.header.root) (runs : executes f ≡ true) where
    otherwise : is_named_otherwise image k f.frame ≡ false
    unfolding has_writable_code
    otherwise =
        let kept = (are-formed image accepted.formed).frame k f at in
        let rule = or_parts (f.rights == 7) (executes f && is_named_otherwise image k f.frame) kept.code in
        sym (ap (λ b. b && is_named_otherwise image k f.frame) runs) ∙ rule.1

    twice-none : is_mapped_twice image k f.frame ≡ false
    twice-none = (or_parts _ _ (or_parts _ _ (or_parts _ _ otherwise).0).0).0

    source-none : list_any (λ c. c.source == f.frame) image.capabilities ≡ false
    source-none = (or_parts _ _ (or_parts _ _ (or_parts _ _ otherwise).0).0).1

    -- two threads have two root tables
    roots-apart : (u : Numbered) → Contains (numbered_threads image) u → is_in part u.thread ≡ true → v.thread.header.root ≡ u.thread.header.root → ⊥
    unfolding shares_vspace
    roots-apart u there inside same =
        let a = is-listed image v among in
        let b = is-listed image u there in
        let formed = are-formed image accepted.formed in
        elim (cases_order a.number b.number) [
          | inl here ↦
              let one : v.thread ≡ u.thread = same_Some v.thread u.thread (sym a.listed ∙ ap (slice_get image.threads) here ∙ b.listed) in
              false≢true (sym outside ∙ ap (is_in part) one ∙ inside)
          | inr (inl below) ↦
              let rule = (formed.thread b.number u.thread b.listed).vspace in
              let none =
              (or_parts (list_any (λ w. w.header.root == u.thread.header.root) (take b.number image.threads)) (holds_other_root image u.thread) rule).0 in
              false≢true (sym (before-fails (λ (w : Thread). w.header.root == u.thread.header.root) image.threads b.number a.number v.thread none below
              a.listed)
              ∙ eq-eqb v.thread.header.root u.thread.header.root same)
          | inr (inr above) ↦
              let rule = (formed.thread a.number v.thread a.listed).vspace in
              let none =
              (or_parts (list_any (λ w. w.header.root == v.thread.header.root) (take a.number image.threads)) (holds_other_root image v.thread) rule).0 in
              false≢true (sym (before-fails (λ (w : Thread). w.header.root == v.thread.header.root) image.threads a.number b.number u.thread none above
              b.listed)
              ∙ eq-eqb u.thread.header.root v.thread.header.root (sym same))
        ]

    module _ (u : Numbered) (there : Contains (numbered_threads image) u) (inside : is_in part u.thread ≡ true) where
      not-mapped : maps image u.thread (λ g. g.frame == f.frame) ≡ true → ⊥
      not-mapped is =
          let p = some-passes (λ (g : FrameEntry). g.root == u.thread.header.root && g.frame == f.frame) image.frames is in
          let g = p.entry in
          let parts = and_parts (g.root == u.thread.header.root) (g.frame == f.frame) p.is in
          elim (eqb_tells p.place k) [
            | inl here ↦
                let same : g ≡ f = same_Some g f (sym p.at ∙ ap (slice_get image.frames) here.1 ∙ at) in
                roots-apart u there inside
                (sym root ∙ ap (λ (x : FrameEntry). x.root) (sym same) ∙ eqb-true g.root u.thread.header.root parts.0)
            | inr other ↦
                false≢true (sym twice-none
                ∙ any-at (λ (h : ℕ × FrameEntry). not (h.0 == k) && (h.1).frame == f.frame) (numbered image.frames) p.place (p.place, g)
                (numbered-at image.frames p.place g p.at) (ap₂ (λ (x y : Bool). not x && y) other.0 parts.1))
          ]

      not-held : lists image u.thread (λ c. c.source == f.frame && takes_by image c) ≡ true → ⊥
      not-held is =
          let p = some-passes (λ (c : CapabilityEntry). is_member c.cnode (reached image u.thread) && (c.source == f.frame && takes_by image c))
          image.capabilities is in
          let c = p.entry in
          let rest = (and_parts (is_member c.cnode (reached image u.thread)) (c.source == f.frame && takes_by image c) p.is).1 in
          false≢true (sym source-none ∙ any-at (λ (e : CapabilityEntry). e.source == f.frame) image.capabilities p.place c p.at
          (and_parts (c.source == f.frame) (takes_by image c) rest).0)

      not-buffer : f.frame < image.header.objects → (u.thread.header.buffer == f.frame) ≡ true → ⊥
      not-buffer less is =
          let same : u.thread.header.buffer ≡ f.frame = eqb-true u.thread.header.buffer f.frame is in
          let few = (is-fitting image accepted.spelled.fits).header.objects in
          let b = is-listed image u there in
          let kept = buffer-kept image b.number u.thread ((are-formed image accepted.formed).thread b.number u.thread b.listed)
          (ne_eqb u.thread.header.buffer no_buffer (λ none. omega (arith, none, same, few, less))) in
          false≢true (sym kept.no_code ∙ any-at (λ (g : FrameEntry). g.frame == u.thread.header.buffer && executes g) image.frames k f at
          (ap₂ (λ (x y : Bool). x && y) (eq-eqb f.frame u.thread.header.buffer (sym same)) runs))

      code-untaken : f.frame < image.header.objects → takes image u.thread f.frame ≡ true → ⊥
      unfolding takes
      code-untaken less is =
          elim (either-true (maps image u.thread (λ g. g.frame == f.frame) || lists image u.thread (λ c. c.source == f.frame && takes_by image c))
          (u.thread.header.buffer == f.frame) is) [
            | inr buffer ↦ not-buffer less buffer
            | inl rest ↦ elim (either-true (maps image u.thread (λ g. g.frame == f.frame)) (lists image u.thread (λ c. c.source == f.frame && takes_by image c))
                rest) [
                  | inl mapped ↦ not-mapped mapped
                  | inr held ↦ not-held held
                ]
          ]

  -- ---- fills

  module _ (place : ℕ) (of : IsByteOfPart image part place) where
    fill-elsewhere : (v : Numbered) → Contains (numbered_threads image) v → is_in part v.thread ≡ false → (address : ℕ) (f : FrameEntry)
        → frame_at image v.thread.header.root address ≡ Some f → executes f ≡ true
        → is_filled place (record { offset = offset_of image f.frame; bytes = page_bytes v.thread address }) ≡ true → ⊥
    fill-elsewhere v among outside address f found runs filled = by of
      where
        p : FoundAt (λ (g : FrameEntry). g.root == v.thread.header.root && g.address == address) image.frames f
        p = found-at (λ (g : FrameEntry). g.root == v.thread.header.root && g.address == address) image.frames f found

        root : f.root ≡ v.thread.header.root
        root = eqb-true f.root v.thread.header.root (and_parts (f.root == v.thread.header.root) (f.address == address) p.is).0

        type : is_frame_type (type_at image f.frame) ≡ true
        type = ((are-formed image accepted.formed).frame p.place f p.at).frame

        less : f.frame < image.header.objects
        less = ((is-fitting image accepted.spelled.fits).frame p.place f p.at).frame

        bounds : (offset_of image f.frame ≤ place) × (place < offset_of image f.frame + page_size)
        bounds =
            let b = within-bounds (offset_of image f.frame) (length (page_bytes v.thread address)) place filled in
            let low = b.0 in
            let high = b.1 in
            let long : length (page_bytes v.thread address) ≤ page_size = page-long v.thread address in
            (low, omega (arith, high, long))
          where
            page-long : (t : Thread) (address : ℕ) → length (page_bytes t address) ≤ page_size
            page-long t address = let long = length-take page_size (drop (address - t.header.base) (bytes_of t.words)) in omega (arith, long)

        by : IsByteOfPart image part place → ⊥
        by (is_frame_byte object taken kind low high) =
            let same : object ≡ f.frame = one-object image (stand-apart image accepted.spelled.fits accepted.formed) place object f.frame
            (frame-covers image place object taken.inside (frame-type (type_at image object) kind) low high)
            (frame-covers image place f.frame less (frame-type (type_at image f.frame) type) bounds.0 bounds.1) in
            code-untaken v among outside p.place f p.at root runs taken.thread taken.member.listed taken.member.inside less
            (ap (takes image taken.thread.thread) (sym same) ∙ taken.takes)
        by (is_pool_byte u member q) =
            let own = own-pool image u.thread place 1 place q (omega arith) (omega arith) in
            let same = one-object image (stand-apart image accepted.spelled.fits accepted.formed) place f.frame own.entry.source
            (frame-covers image place f.frame less (frame-type (type_at image f.frame) type) bounds.0 bounds.1) own.covers in
            false≢true (sym (ap is_untyped_type (frame-type (type_at image f.frame) type)) ∙ ap (λ (n : ℕ). is_untyped_type (type_at image n)) same
            ∙ own.untyped)

    -- no fill of another thread's program reaches the place
    none-filled : (v : Numbered) → Contains (numbered_threads image) v → is_in part v.thread ≡ false
        → find (is_filled place) (reverse (program_fills image v.thread)) ≡ None
    none-filled v among outside = none-back (is_filled place) (program_fills image v.thread) (λ k fill at.
        let p = picked-from (page_fill image v.thread) (program_pages v.thread) k fill at in
        let u = is-listed image v among in
        by-frame p.from fill (all-at (is_code image v.thread) (program_pages v.thread) p.place p.from p.at
        ((are-formed image accepted.formed).thread u.number v.thread u.listed).code)
        (frame_at image v.thread.header.root p.from) refl p.gives)
      where
        decide-not : (b : Bool) → (b ≡ true → ⊥) → b ≡ false
        decide-not false never = refl
        decide-not true never = absurd (never refl)

        by-frame : (address : ℕ) (fill : Fill) → is_code image v.thread address ≡ true → (o : Option FrameEntry)
            → frame_at image v.thread.header.root address ≡ o
            → option_map (λ f. record { offset = offset_of image f.frame; bytes = page_bytes v.thread address }) o ≡ Some fill
            → is_filled place fill ≡ false
        by-frame address fill code None found gives = absurd (none-some fill gives)
        by-frame address fill code (Some f) found gives =
            let whole : Fill = record { offset = offset_of image f.frame; bytes = page_bytes v.thread address } in
            let same : whole ≡ fill = same_Some whole fill gives in
            let runs : executes f ≡ true = ap (λ (o : Option FrameEntry). option_map_or executes o false) (sym found) ∙ code in
            ap (is_filled place) (sym same) ∙ decide-not (is_filled place whole) (fill-elsewhere v among outside address f found runs)

    same-contents : map (content_fill (alone image part)) (alone image part).contents ≡ map (content_fill image) image.contents
    unfolding alone offset_of
    same-contents = refl

    same-program : (t : Thread) → program_fills (alone image part) t ≡ program_fills image t
    unfolding alone offset_of
    same-program t = refl

    alone-threads : (alone image part).threads ≡ filter (is_in part) image.threads
    unfolding alone
    alone-threads = refl

    same-frames : list_any (is_in_frame (alone image part) place) (range_with_len 0 (alone image part).header.objects)
        ≡ list_any (is_in_frame image place) (range_with_len 0 image.header.objects)
    unfolding alone offset_of
    same-frames = refl

    alone-fills : find (is_filled place) (reverse (fills (alone image part)))
        ≡ find (is_filled place)
        (reverse (map (content_fill image) image.contents ++ flat_map (program_fills image) (filter (is_in part) image.threads)))
    unfolding fills
    alone-fills = λ i. find (is_filled place) (reverse (same-contents i ++ flat_map (λ (t : Thread). same-program t i) (alone-threads i)))

    same-fills : find (is_filled place) (reverse (fills image)) ≡ find (is_filled place) (reverse (fills (alone image part)))
    unfolding fills
    same-fills =
        append-kept-back (is_filled place) (map (content_fill image) image.contents) (flat_map (program_fills image) image.threads)
        (flat_map (program_fills image) (filter (is_in part) image.threads))
        (sym (flat-kept-back (is_filled place) (program_fills image) (is_in part) image.threads
        (λ k t at isnt. let u = listed-from 0 image.threads k t at in none-filled (record { number = u.0; thread = t }) u.1 isnt)))
        ∙ sym alone-fills

    pub start-byte : (described image).bytes place ≡ (described (alone image part)).bytes place
    unfolding described described_bytes
    start-byte =
        ap (λ b. if b then Some (filled_byte (fills image) place) else None) (sym same-frames)
        ∙ ap (λ o. if list_any (is_in_frame (alone image part) place) (range_with_len 0 (alone image part).header.objects)
        then Some (option_map_or (λ (f : Fill). slice_index f.bytes (place - f.offset)) o 0) else None) same-fills
