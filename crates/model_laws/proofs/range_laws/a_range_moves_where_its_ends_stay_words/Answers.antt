-- By the sign.
use Rattle.model_laws.proofs.MovedRanges.{moves}
use Rattle.model_laws.proofs.range_laws.a_range_moves_where_its_ends_stay_words.Goals as goal

pub returns : goal.returns
returns c = moves
