-- A thread that begins to wait.
use Rattle.headline.proofs.moves.Passing.{begins}
use Rattle.headline.proofs.moves.moving_laws.threads_begin_to_wait.Goals as goal

pub returns : goal.returns
returns c = λ image t s after own next point state later alone stands waits is status registers none.
    begins c.laws_below.ensures.stand_on image t s after own point state alone stands next later waits is status registers none
