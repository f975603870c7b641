-- Both sides keep their values, and the other registers stay.
use Rattle.ranges.proofs.Laws.{branch_kept}
use Rattle.model_laws.proofs.branch_laws.a_branch_keeps_the_registers_in_its_ranges.Goals as goal

pub returns : goal.returns
returns c = branch_kept
