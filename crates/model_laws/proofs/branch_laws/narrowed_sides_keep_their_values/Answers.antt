-- Each operation, both ways.
use Rattle.ranges.proofs.Laws.{narrowed_kept}
use Rattle.model_laws.proofs.branch_laws.narrowed_sides_keep_their_values.Goals as goal

pub returns : goal.returns
returns c = narrowed_kept
