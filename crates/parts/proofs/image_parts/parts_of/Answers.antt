-- The image is accepted, by its own bytes.
use Rattle.model.specs.Images.Image.{whole_image}
use Rattle.parts.proofs.AloneImages.{by-its-bytes}
use Rattle.parts.proofs.image_parts.parts_of.Goals as goal

pub returns-clause-held : goal.returns-clause-held
returns-clause-held c = λ events keeps.
    let image = c.args.accepted.now in
    let kept = c.image-image.ensures in
    c.threads_never_hold_more.ensures (whole_image.spelling image) image events (by-its-bytes image kept.fits kept.formed kept.programs) keeps
