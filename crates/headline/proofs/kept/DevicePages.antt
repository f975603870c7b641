-- A device page of a well-formed image is a frame that no line maps with execute.
use Rattle.std.proofs.Common.{ℕ, ◌≡◌, ◌∙◌, ◌==◌, ◌+◌, ◌&&◌, ◌||◌, Bool, true, false, nat_le, List, Some, refl, sym, ap}
use Rattle.std.specs.Prelude.{slice_get}
use Rattle.std.specs.List.{list_any, range_with_len}
use Rattle.std.proofs.lemmas.Bool.{and_parts, eqb-true, false≢true, leb-true, or_parts}
use Rattle.std.proofs.lemmas.List.Folds.{Any-from_list_any}
use Rattle.std.proofs.lemmas.Option.{slice_get-get_or}
use Rattle.format_laws.proofs.Laws.{is-fitting}
use Rattle.soundness.proofs.Laws.{AreFormed, FrameKept, are-formed, frame-listed}
use Rattle.model.specs.declared.entries.FrameEntry.{FrameEntry}
use Rattle.model.specs.Acceptance.Accepted.{IsAccepted}
use Rattle.model.specs.Acceptance.Devices.{IsOfData, holds_word, is_device_word}
use Rattle.model.specs.Acceptance.WellFormed.{executes, has_writable_code, is_device, is_frame_type, is_mapped_twice, is_named_otherwise}
use Rattle.model.specs.Images.Image.{Image}
use Rattle.model.specs.Images.Places.{object_at, offset_of, type_at}
use Rattle.model.specs.Kernel.AddressSpaces.{page_size}
use Rattle.model.specs.Kernel.Retype.{type_of}
use Rattle.headline.proofs.facts.Laws.{implied}

module _ (bytes : List ℕ) (image : Image) (accepted : IsAccepted bytes image) (number : ℕ) (device : is_device image number ≡ true) where
  kind-is : (object_at image number).kind ≡ 6
  kind-is = eqb-true (object_at image number).kind 6 (and_parts ((object_at image number).kind == 6) ((object_at image number).size == 1) device).0

  pub device-frame : is_frame_type (type_at image number) ≡ true
  device-frame = ap (λ (kind : ℕ). is_frame_type (type_of kind (object_at image number).size)) kind-is

  -- a line that maps it with execute would be of code that something else reaches
  not-executed : (k : ℕ) (f : FrameEntry) → slice_get image.frames k ≡ Some f → (f.frame == number && executes f) ≡ true → ⊥
  unfolding has_writable_code
  not-executed k f at runs =
      let parts = and_parts (f.frame == number) (executes f) runs in
      let rule = or_parts (f.rights == 7) (executes f && is_named_otherwise image k f.frame)
      (FrameKept.code (AreFormed.frame (are-formed image accepted.formed) k f at)) in
      let alone = implied (executes f) (is_named_otherwise image k f.frame) rule.1 parts.1 in
      let others = is_mapped_twice image k f.frame || list_any (λ c. c.source == f.frame) image.capabilities
      || list_any (λ c. c.header.frame == f.frame) image.contents in
      let last = or_parts others (is_device image f.frame) alone in
      false≢true (sym last.1 ∙ ap (is_device image) (eqb-true f.frame number parts.0) ∙ device)

  pub device-unexecuted : list_any (λ f. f.frame == number && executes f) image.frames ≡ false
  device-unexecuted =
      let test : FrameEntry → Bool = λ f. f.frame == number && executes f in
      elim (list_any test image.frames) as (λ b. list_any test image.frames ≡ b → b ≡ false) [
        | true ↦ λ some.
            let place = Any-from_list_any test image.frames some in
            absurd (not-executed place.0 place.1
            (slice_get-get_or image.frames place.0 place.1 place.2 ∙ ap (λ (f : FrameEntry). Some f) place.3) place.4)
        | false ↦ λ _. refl
      ] refl

pub device-word : (bytes : List ℕ) (image : Image) (place : ℕ) → IsAccepted bytes image → is_device_word image place ≡ true → IsOfData image place
device-word bytes image place accepted some =
    let found = Any-from_list_any (holds_word image place) (range_with_len 0 image.header.objects) some in
    let number = found.1 in
    let first = and_parts (is_device image number) (nat_le (offset_of image number) place && nat_le (place + 4) (offset_of image number + page_size)) found.4 in
    let bounds = and_parts (nat_le (offset_of image number) place) (nat_le (place + 4) (offset_of image number + page_size)) first.1 in
    record {
      frame = number;
      listed = frame-listed image number (is-fitting image accepted.spelled.fits) (device-frame bytes image accepted number first.0);
      kind = device-frame bytes image accepted number first.0;
      unexecuted = device-unexecuted bytes image accepted number first.0;
      begins = leb-true (offset_of image number) place bounds.0;
      ends = leb-true (place + 4) (offset_of image number + page_size) bounds.1;
    }
