-- What both sides keep, their intersection keeps.
use Rattle.ranges.proofs.Laws.{joined_kept}
use Rattle.model_laws.proofs.branch_laws.joined_sides_keep_their_value.Goals as goal

pub returns : goal.returns
returns c = joined_kept
