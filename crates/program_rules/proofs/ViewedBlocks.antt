-- The control block of a thread of an image is one of its objects.
use Rattle.std.proofs.Common.{ℕ, ◌≡◌, ◌∙◌, ◌<◌, true, List, sym, ap, subst}
use Rattle.std.specs.Prelude.{slice_index}
use Rattle.format_laws.specs.Fitting.{IsFitting, ThreadFits}
use Rattle.format_laws.proofs.Laws.{is-fitting}
use Rattle.model.specs.declared.entries.ThreadHeader.{ThreadHeader}
use Rattle.model.specs.Images.Image.{Image, Thread, whole_image}
use Rattle.model.specs.Images.Places.{offset_of}
use Rattle.thread_spaces.specs.Given.{AreOffsets, IsListed}

module _ (image : Image) (t : Thread) (fits : whole_image.fits image ≡ true) (listed : IsListed image t) (h : ThreadHeader) (here : h ≡ t.header) where
  pub block-listed : h.tcb < image.header.objects
  block-listed = subst (λ (g : ThreadHeader). g.tcb < image.header.objects) (sym here)
      (ThreadFits.tcb (IsFitting.thread (is-fitting image fits) listed.number t listed.listed))

  pub block-place : (offsets : List ℕ) → AreOffsets image image.header.objects offsets → slice_index offsets h.tcb ≡ offset_of image t.header.tcb
  block-place offsets are = are.place h.tcb block-listed ∙ ap (λ (g : ThreadHeader). offset_of image g.tcb) here
