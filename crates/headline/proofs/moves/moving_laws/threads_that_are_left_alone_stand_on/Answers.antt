-- A thread that is left alone.
use Rattle.headline.proofs.moves.LeftAlone.{stands-alone}
use Rattle.headline.proofs.moves.moving_laws.threads_that_are_left_alone_stand_on.Goals as goal

pub returns : goal.returns
returns c = stands-alone c.laws_below.ensures.stand_on
