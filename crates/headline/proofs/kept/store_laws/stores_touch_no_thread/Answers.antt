-- Bytes of code lie where no store reaches; all else stays as it is.
use Rattle.std.proofs.Common.{◌∙◌, ap}
use Rattle.model.specs.Capabilities.CapabilityKinds.{root_of}
use Rattle.headline.proofs.kept.FramePlaces.{frame-aligned}
use Rattle.headline.proofs.kept.FrameRules.{frames-kept}
use Rattle.headline.proofs.kept.StoredPlaces.{untouched}
use Rattle.headline.proofs.kept.ThreadsGiven.{given}
use Rattle.headline.proofs.kept.store_laws.stores_touch_no_thread.Goals as goal

pub returns : goal.returns
returns c = λ bytes image t u s own point state accepted listed other sound stands registers left writes.
    let fits = accepted.spelled.fits in
    let formed = accepted.formed in
    let fitting = c.images_that_fit_keep_their_limits.ensures image fits in
    let apart = c.objects_stand_inside_their_untypeds.ensures image fits formed in
    let facts = given image t formed listed in
    untouched image t s state.slots (frames-kept image fitting apart formed) (λ number. frame-aligned image number fitting apart formed) sound
    stands.maps stands.code (ap root_of stands.vspace ∙ facts.root) u registers left writes
