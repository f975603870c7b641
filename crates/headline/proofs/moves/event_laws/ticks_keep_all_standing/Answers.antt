-- The slice of a thread is all that a tick takes.
use Rattle.headline.proofs.moves.Ticks.{all-over-tick}
use Rattle.headline.proofs.moves.event_laws.ticks_keep_all_standing.Goals as goal

pub returns : goal.returns
returns c = λ bytes image s labels accepted all. all-over-tick c.laws_below.ensures.stand_on c.laws_below.ensures.keeps bytes image s labels accepted all
