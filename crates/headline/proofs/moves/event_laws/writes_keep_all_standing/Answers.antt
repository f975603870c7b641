-- What the world writes is no thread's program.
use Rattle.headline.proofs.moves.WorldWrites.{all-over-write}
use Rattle.headline.proofs.moves.event_laws.writes_keep_all_standing.Goals as goal

pub returns : goal.returns
returns c = all-over-write c.laws_below.ensures
