-- By the format's own tests.
use Rattle.format_laws.proofs.ImageFits.{is-fitting}
use Rattle.format_laws.proofs.fitting_laws.images_that_fit_keep_their_limits.Goals as goal

pub returns : goal.returns
returns c = is-fitting
