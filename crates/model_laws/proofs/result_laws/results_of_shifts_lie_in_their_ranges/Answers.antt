-- By the cases of the operation.
use Rattle.ranges.proofs.Laws.{shifts-in}
use Rattle.model_laws.proofs.result_laws.results_of_shifts_lie_in_their_ranges.Goals as goal

pub returns : goal.returns
returns c = shifts-in
