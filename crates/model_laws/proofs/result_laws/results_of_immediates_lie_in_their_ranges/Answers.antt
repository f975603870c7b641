-- By the cases of the operation.
use Rattle.ranges.proofs.Laws.{immediates-in}
use Rattle.model_laws.proofs.result_laws.results_of_immediates_lie_in_their_ranges.Goals as goal

pub returns : goal.returns
returns c = immediates-in
