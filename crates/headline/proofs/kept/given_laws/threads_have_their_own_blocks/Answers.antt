-- By the threads' numbers.
use Rattle.headline.proofs.kept.OwnBlocks.{own-blocks}
use Rattle.headline.proofs.kept.given_laws.threads_have_their_own_blocks.Goals as goal

pub returns : goal.returns
returns c = λ bytes image t u accepted.
    let fits = accepted.spelled.fits in
    own-blocks image t u (c.images_that_fit_keep_their_limits.ensures image fits) (c.objects_stand_inside_their_untypeds.ensures image fits accepted.formed)
    accepted.formed
