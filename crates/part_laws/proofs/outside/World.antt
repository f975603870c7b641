-- What the world writes and sees, in the whole and in the part alone: words of device pages, which are the part's own if a thread of it takes the page.
use Rattle.std.proofs.Common.{ℕ, ◌≡◌, ◌∙◌, ◌==◌, ◌+◌, ◌-◌, ◌<◌, ◌≤◌, ◌&&◌, ◌||◌, inl, inr, Bool, true, false, nat_le, if◌then◌else◌, List, [], ◌∷◌}
use Rattle.std.proofs.Common.{Option, Some, filter, option_map, refl, sym, ap, ap₂, subst, arith}
use Rattle.std.specs.Prelude.{slice_get, slice_index}
use Rattle.std.specs.Option.{option_map_or}
use Rattle.std.specs.Int.{from_le_bytes, w32}
use Rattle.std.specs.List.{list_any, range_with_len}
use Rattle.std.proofs.lemmas.Bool.{and_parts, eqb-true, false≢true, leb-true, or_parts}
use Rattle.std.proofs.lemmas.List.Folds.{Any-from_list_any}
use Rattle.std.proofs.lemmas.Option.{slice_get-get_or}
use Rattle.format_laws.proofs.Laws.{is-fitting}
use Rattle.soundness.proofs.Laws.{AreFormed, FrameKept, are-formed, frame-listed, frame-type, range-from, stand-apart, written-beside, written-byte}
use Rattle.model.specs.declared.entries.FrameEntry.{FrameEntry}
use Rattle.model.specs.Acceptance.Accepted.{IsAccepted}
use Rattle.model.specs.Acceptance.Devices.{IsOfData, holds_word, is_device_word}
use Rattle.model.specs.Acceptance.WellFormed.{executes, has_writable_code, is_device, is_frame_type, is_mapped_twice, is_named_otherwise, is_untyped_type}
use Rattle.model.specs.Capabilities.Slots.{Slots, is_within}
use Rattle.model.specs.Images.Image.{Image}
use Rattle.model.specs.Images.Places.{object_at, offset_of, type_at}
use Rattle.model.specs.Kernel.AddressSpaces.{page_size}
use Rattle.model.specs.Kernel.Retype.{type_of}
use Rattle.model.specs.Kernel.Setup.{with_first_bytes}
use Rattle.model.specs.Kernel.State.{Object, State}
use Rattle.model.specs.Kernel.World.{byte_seen, is_word_of_frame, word_seen, world_writes}
use Rattle.model.specs.Shared.Bytes.{word_bytes}
use Rattle.headline.specs.parts.Parts.{Part, is_in, is_thread_in, is_word_of, takes}
use Rattle.part_laws.specs.Agreeing.{AgreeFor, IsByteOfPart, is_frame_byte, is_pool_byte}
use Rattle.part_laws.proofs.changes.Members.{any-at, listed-from, some-passes}
use Rattle.part_laws.proofs.outside.Places.{CoveredBy, one-object, own-pool}
use Rattle.part_laws.proofs.outside.Storing.{frame-covers}
use Rattle.headline.proofs.Laws.{is-listed}

-- ---- device pages: copies of lemmas of `headline` that it does not export

implied : (a b : Bool) → (a && b) ≡ false → a ≡ true → b ≡ false
implied true b none is = none
implied false b none is = absurd (false≢true is)

module _ (bytes : List ℕ) (image : Image) (accepted : IsAccepted bytes image) (number : ℕ) (device : is_device image number ≡ true) where
  kind-is : (object_at image number).kind ≡ 6
  kind-is = eqb-true (object_at image number).kind 6 (and_parts ((object_at image number).kind == 6) ((object_at image number).size == 1) device).0

  pub device-frame : is_frame_type (type_at image number) ≡ true
  device-frame = ap (λ (kind : ℕ). is_frame_type (type_of kind (object_at image number).size)) kind-is

  -- a line that maps it with execute would be of code that something else reaches
  not-executed : (k : ℕ) (f : FrameEntry) → slice_get image.frames k ≡ Some f → (f.frame == number && executes f) ≡ true → ⊥
  unfolding has_writable_code
  not-executed k f at runs =
      let parts = and_parts (f.frame == number) (executes f) runs in
      let rule = or_parts (f.rights == 7) (executes f && is_named_otherwise image k f.frame)
      (FrameKept.code (AreFormed.frame (are-formed image accepted.formed) k f at)) in
      let alone = implied (executes f) (is_named_otherwise image k f.frame) rule.1 parts.1 in
      let others = is_mapped_twice image k f.frame || list_any (λ c. c.source == f.frame) image.capabilities
      || list_any (λ c. c.header.frame == f.frame) image.contents in
      let last = or_parts others (is_device image f.frame) alone in
      false≢true (sym last.1 ∙ ap (is_device image) (eqb-true f.frame number parts.0) ∙ device)

  pub device-unexecuted : list_any (λ f. f.frame == number && executes f) image.frames ≡ false
  device-unexecuted =
      let test : FrameEntry → Bool = λ f. f.frame == number && executes f in
      elim (list_any test image.frames) as (λ b. list_any test image.frames ≡ b → b ≡ false) [
        | true ↦ λ some.
            let place = Any-from_list_any test image.frames some in
            absurd (not-executed place.0 place.1
            (slice_get-get_or image.frames place.0 place.1 place.2 ∙ ap (λ (f : FrameEntry). Some f) place.3) place.4)
        | false ↦ λ _. refl
      ] refl

pub device-word : (bytes : List ℕ) (image : Image) (place : ℕ) → IsAccepted bytes image → is_device_word image place ≡ true → IsOfData image place
device-word bytes image place accepted some =
    let found = Any-from_list_any (holds_word image place) (range_with_len 0 image.header.objects) some in
    let number = found.1 in
    let first = and_parts (is_device image number) (nat_le (offset_of image number) place && nat_le (place + 4) (offset_of image number + page_size)) found.4 in
    let bounds = and_parts (nat_le (offset_of image number) place) (nat_le (place + 4) (offset_of image number + page_size)) first.1 in
    record {
      frame = number;
      listed = frame-listed image number (is-fitting image accepted.spelled.fits) (device-frame bytes image accepted number first.0);
      kind = device-frame bytes image accepted number first.0;
      unexecuted = device-unexecuted bytes image accepted number first.0;
      begins = leb-true (offset_of image number) place bounds.0;
      ends = leb-true (place + 4) (offset_of image number + page_size) bounds.1;
    }

-- ---- words

-- an object of the image with the word, and that it is a frame
record HoldsWord (image : Image) (place : ℕ) : Type 0 where
  pub object : ℕ
  pub inside : object < image.header.objects
  pub frame : is_frame_type (type_at image object) ≡ true
  pub begins : offset_of image object ≤ place
  pub ends : place + 4 ≤ offset_of image object + page_size

module _ (bytes : List ℕ) (image : Image) (accepted : IsAccepted bytes image) (place object : ℕ) (holds : holds_word image place object ≡ true) where
  word-held : HoldsWord image place
  word-held =
      let first = and_parts (is_device image object) (nat_le (offset_of image object) place && nat_le (place + 4) (offset_of image object + page_size)) holds in
      let bounds = and_parts (nat_le (offset_of image object) place) (nat_le (place + 4) (offset_of image object + page_size)) first.1 in
      let frame = device-frame bytes image accepted object first.0 in
      record {
        object = object;
        inside = frame-listed image object (is-fitting image accepted.spelled.fits) frame;
        frame = frame;
        begins = leb-true (offset_of image object) place bounds.0;
        ends = leb-true (place + 4) (offset_of image object + page_size) bounds.1;
      }

-- a byte of the word
covers-byte : (image : Image) (place : ℕ) (h : HoldsWord image place) (other : ℕ) → place ≤ other → other < place + 4 → CoveredBy image other h.object
covers-byte image place h other low high =
    let from = h.begins in
    let end = h.ends in
    frame-covers image other h.object h.inside (frame-type (type_at image h.object) h.frame) (omega (arith, from, low)) (omega (arith, end, high))

module _ (bytes : List ℕ) (image : Image) (accepted : IsAccepted bytes image) (part : Part) (place : ℕ) where
  abbrev takes_page : ℕ → Bool
  takes_page object = list_any (λ t. is_in part t && takes image t object) image.threads

  -- a word with a byte of the part's is the part's
  word-of : (device : is_device_word image place ≡ true) (other : ℕ) → place ≤ other → other < place + 4 → IsByteOfPart image part other
      → is_word_of image part place ≡ true
  unfolding word-held
  word-of device other low high of = by of
    where
      found : (k : ℕ) × (n : ℕ) × (holds_word image place n ≡ true)
      found = let any = Any-from_list_any (holds_word image place) (range_with_len 0 image.header.objects) device in (any.0, any.1, any.4)

      h : HoldsWord image place
      h = word-held bytes image accepted place found.1 found.2

      by : IsByteOfPart image part other → is_word_of image part place ≡ true
      by (is_frame_byte object taken kind from end) =
          let same : found.1 ≡ object = one-object image (stand-apart image accepted.spelled.fits accepted.formed) other found.1 object
          (covers-byte image place h other low high) (frame-covers image other object taken.inside (frame-type (type_at image object) kind) from end) in
          let among = is-listed image taken.thread taken.member.listed in
          any-at (λ o. holds_word image place o && takes_page o) (range_with_len 0 image.header.objects) object object
          (range-from 0 image.header.objects object taken.inside ∙ ap (λ (n : ℕ). Some n) (let e : 0 + object ≡ object = omega arith in e))
          (ap₂ (λ (a b : Bool). a && b) (ap (holds_word image place) (sym same) ∙ found.2)
          (any-at (λ t. is_in part t && takes image t object) image.threads among.number taken.thread.thread among.listed
          (ap₂ (λ (a b : Bool). a && b) taken.member.inside taken.takes)))
      by (is_pool_byte u member p) =
          let own = own-pool image u.thread other 1 other p (omega arith) (omega arith) in
          let same = one-object image (stand-apart image accepted.spelled.fits accepted.formed) other found.1 own.entry.source
          (covers-byte image place h other low high) own.covers in
          absurd (false≢true (sym (ap is_untyped_type (frame-type (type_at image found.1) h.frame))
          ∙ ap (λ (n : ℕ). is_untyped_type (type_at image n)) same ∙ own.untyped))

  -- a word that is the part's has bytes of the part's alone
  bytes-of : is_word_of image part place ≡ true → (other : ℕ) → place ≤ other → other < place + 4 → IsByteOfPart image part other
  unfolding word-held
  bytes-of own other low high =
      let any = Any-from_list_any (λ o. holds_word image place o && takes_page o) (range_with_len 0 image.header.objects) own in
      let object = any.1 in
      let parts = and_parts (holds_word image place object) (takes_page object) any.4 in
      let h = word-held bytes image accepted place object parts.0 in
      let t = some-passes (λ t. is_in part t && takes image t object) image.threads parts.1 in
      let both = and_parts (is_in part t.entry) (takes image t.entry object) t.is in
      let u = listed-from 0 image.threads t.place t.entry t.at in
      let from = h.begins in
      let end = h.ends in
      is_frame_byte object (record {
        thread = record { number = u.0; thread = t.entry };
        member = record { listed = u.1; inside = both.0 };
        inside = h.inside;
        takes = both.1;
      }) h.frame (omega (arith, from, low)) (omega (arith, end, high))

  module _ (s t : State) (agree : AgreeFor image part s t) where
    -- what is written elsewhere
    pub other-write : is_device_word image place ≡ true → is_word_of image part place ≡ false → (word : ℕ)
        → AgreeFor image part (world_writes s place word) t
    other-write device outside word =
        let b = written-beside s place word in
        record {
          objects = λ offset of. ap (λ (o : ℕ → Option Object). o offset) b.objects ∙ agree.objects offset of;
          bytes = λ other of. same-byte other of ∙ agree.bytes other of;
          slots = λ slot of. ap (λ (m : Slots). m slot) b.base.slots ∙ agree.slots slot of;
          masked = λ line of. ap (λ (m : ℕ → Bool). m line) b.masked ∙ agree.masked line of;
          pending = λ line of. ap (λ (m : ℕ → Bool). m line) b.pending ∙ agree.pending line of;
          ready = λ priority. agree.ready priority ∙ ap (λ (r : ℕ → List ℕ). filter (is_thread_in image part) (r priority)) (sym b.ready);
        }
      where
        same-byte : (other : ℕ) → IsByteOfPart image part other → (world_writes s place word).bytes other ≡ s.bytes other
        same-byte other of = elim (written-byte s place word other) [
          | inl same ↦ same
          | inr change ↦ absurd (false≢true (sym outside ∙ word-of device other change.0 change.1 of))
        ]

    -- what is written to a page that the part takes, on both sides
    pub own-write : is_word_of_frame s place ≡ true → is_word_of_frame t place ≡ true → (word : ℕ)
        → AgreeFor image part (world_writes s place word) (world_writes t place word)
    unfolding world_writes
    own-write here there word =
        subst (λ (b : Bool). AgreeFor image part (if b then with_first_bytes s place (word_bytes word) else s) (world_writes t place word)) (sym here)
        (subst (λ (b : Bool). AgreeFor image part (with_first_bytes s place (word_bytes word))
        (if b then with_first_bytes t place (word_bytes word) else t)) (sym there) both)
      where
        both : AgreeFor image part (with_first_bytes s place (word_bytes word)) (with_first_bytes t place (word_bytes word))
        both = record {
          objects = λ offset of. agree.objects offset of;
          bytes = λ other of.
              ap (λ (o : Option ℕ). if is_within place 4 other then option_map (λ _. slice_index (word_bytes word) (other - place)) o else o)
              (agree.bytes other of);
          slots = λ slot of. agree.slots slot of;
          masked = λ line of. agree.masked line of;
          pending = λ line of. agree.pending line of;
          ready = λ priority. agree.ready priority;
        }

    -- and what is seen of such a page
    pub same-seen : is_word_of image part place ≡ true → word_seen s place ≡ word_seen t place
    unfolding word_seen
    same-seen own =
        let byte : (other : ℕ) → place ≤ other → other < place + 4 → byte_seen s other ≡ byte_seen t other =
        λ other low high. ap (λ (o : Option ℕ). option_map_or (λ byte. byte) o 0) (agree.bytes other (bytes-of own other low high)) in
        let a = byte place (omega arith) (omega arith) in
        let b = byte (place + 1) (omega arith) (omega arith) in
        let c = byte (place + 2) (omega arith) (omega arith) in
        let d = byte (place + 3) (omega arith) (omega arith) in
        λ i. from_le_bytes w32 (a i ∷ b i ∷ c i ∷ d i ∷ [])
