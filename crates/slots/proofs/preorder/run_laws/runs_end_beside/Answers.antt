-- By the lemmas on runs.
use Rattle.slots.proofs.preorder.Runs.{runs-end}
use Rattle.slots.proofs.preorder.run_laws.runs_end_beside.Goals as goal

pub returns : goal.returns
returns c =
    runs-end
