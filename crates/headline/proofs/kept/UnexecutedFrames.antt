-- A frame of the image that no line maps with execute lies apart from each frame of code.
use Rattle.std.proofs.Common.{ℕ, ◌≡◌, ◌∙◌, ◌==◌, ◌&&◌, ◌+◌, ◌^◌, ◌<◌, ◌≤◌, ◌⊎◌, inl, inr, Bool, true, false, Some, List, sym, ap, arith}
use Rattle.std.specs.Prelude.{slice_get}
use Rattle.std.specs.List.{list_any}
use Rattle.std.proofs.lemmas.Bool.{eq-eqb}
use Rattle.std.proofs.lemmas.List.Folds.{list_any_at}
use Rattle.std.proofs.lemmas.Option.{slice_get-get_or}
use Rattle.format_laws.specs.Fitting.{FrameFits, IsFitting}
use Rattle.format_laws.proofs.Laws.{is-fitting}
use Rattle.soundness.specs.boot_laws.Standing.{StandApart}
use Rattle.soundness.proofs.Laws.{AreFormed, FrameKept, are-formed, stand-apart}
use Rattle.model.specs.declared.entries.FrameEntry.{FrameEntry}
use Rattle.model.specs.Acceptance.Accepted.{IsAccepted}
use Rattle.model.specs.Acceptance.ThreadInvariants.{IsCode}
use Rattle.model.specs.Acceptance.WellFormed.{executes, is_frame_type}
use Rattle.model.specs.Images.Image.{Image}
use Rattle.model.specs.Images.Places.{bits_of, object_at, offset_of, type_at}
use Rattle.headline.proofs.kept.FramePlaces.{frame-bits}

module _ (bytes : List ℕ) (image : Image) (accepted : IsAccepted bytes image) (number : ℕ) (less : number < image.header.objects)
    (kind : is_frame_type (type_at image number) ≡ true) (unexecuted : list_any (λ f. f.frame == number && executes f) image.frames ≡ false) (code : ℕ)
    (is : IsCode image code) where
  listed-at : slice_get image.frames is.listed.0 ≡ Some is.entry
  listed-at = slice_get-get_or image.frames is.listed.0 is.entry is.listed.1 ∙ ap (λ (f : FrameEntry). Some f) is.listed.2

  executed-frame : is_frame_type (type_at image is.entry.frame) ≡ true
  executed-frame = FrameKept.frame (AreFormed.frame (are-formed image accepted.formed) is.listed.0 is.entry listed-at)

  executed-less : is.entry.frame < image.header.objects
  executed-less = FrameFits.frame (IsFitting.frame (is-fitting image accepted.spelled.fits) is.listed.0 is.entry listed-at)

  not-executed : number ≡ is.entry.frame → ⊥
  not-executed same =
      let passes : (is.entry.frame == number && executes is.entry) ≡ true =
      ap (λ (b : Bool). b && executes is.entry) (eq-eqb is.entry.frame number (sym same)) ∙ is.executes in
      let some = list_any_at (λ f. f.frame == number && executes f) image.frames is.listed.0 is.entry is.listed.1
      (ap (λ (f : FrameEntry). f.frame == number && executes f) is.listed.2 ∙ passes) in
      let clash : false ≡ true = sym unexecuted ∙ some in cc

  pub unexecuted-apart : (offset_of image number + 2 ^ 12 ≤ code) ⊎ (code + 2 ^ 12 ≤ offset_of image number)
  unexecuted-apart =
      let one : bits_of (object_at image number) ≡ 12 = frame-bits (type_at image number) kind in
      let two : bits_of (object_at image is.entry.frame) ≡ 12 = frame-bits (type_at image is.entry.frame) executed-frame in
      let size : 2 ^ bits_of (object_at image number) ≡ 4096 = ap (λ (k : ℕ). 2 ^ k) one in
      let other_size : 2 ^ bits_of (object_at image is.entry.frame) ≡ 4096 = ap (λ (k : ℕ). 2 ^ k) two in
      let code_place = is.place in
      elim (StandApart.apart (stand-apart image accepted.spelled.fits accepted.formed) number is.entry.frame less executed-less not-executed) [
        | inl before ↦ inl (omega (arith, before, size, code_place))
        | inr behind ↦ inr (omega (arith, behind, other_size, code_place))
      ]
