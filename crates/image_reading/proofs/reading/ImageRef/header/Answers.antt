use Rattle.std.proofs.Common.{subst, ◌∙◌, ap, sym}
use Rattle.model.specs.Images.Image.{Image, whole_image}
use Rattle.image_reading.specs.Sections.{HasCounts}
use Rattle.image_reading.proofs.WholeReading.{counted}
use Rattle.image_reading.proofs.reading.ImageRef.header.Goals as goal

pub returns-clause-fits : goal.returns-clause-fits
returns-clause-fits c = ap (λ (i : Image). whole_image.fits i) (sym c.self.view_is) ∙ c.self.invariant.fits

pub returns-clause-counts : goal.returns-clause-counts
returns-clause-counts c =
    let i = c.self.inside in
    subst (λ (image : Image). HasCounts image) c.self.view_is
    (counted i.bytes.now i.header i.untypeds_at i.objects_at i.capabilities_at i.interrupts_at i.tables_at i.frames_at i.contents_at i.promises_at
    i.threads_at
    c.self.invariant)
