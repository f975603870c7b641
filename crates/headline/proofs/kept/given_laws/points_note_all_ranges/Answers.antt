-- The form of what is noted says it.
use Rattle.headline.proofs.kept.OwnBlocks.{thread-entry}
use Rattle.headline.proofs.kept.given_laws.points_note_all_ranges.Goals as goal

pub returns : goal.returns
returns c = λ bytes image t point state accepted listed known.
    let fits = accepted.spelled.fits in
    let fitting = c.images_that_fit_keep_their_limits.ensures image fits in
    let form = c.noted_points_have_their_form.ensures image t fits fitting t.number (thread-entry image t listed) point state known in
    form.long
