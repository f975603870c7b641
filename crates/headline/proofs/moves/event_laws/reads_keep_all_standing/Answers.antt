-- A look changes nothing.
use Rattle.headline.proofs.moves.WorldWrites.{all-over-read}
use Rattle.headline.proofs.moves.event_laws.reads_keep_all_standing.Goals as goal

pub returns : goal.returns
returns c = all-over-read c.laws_below.ensures
