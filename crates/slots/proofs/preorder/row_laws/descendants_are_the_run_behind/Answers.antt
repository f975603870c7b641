-- By the lemma on the rows, or the slots, one after another.
use Rattle.slots.proofs.preorder.Descents.{descendants-run}
use Rattle.slots.proofs.preorder.row_laws.descendants_are_the_run_behind.Goals as goal

pub returns : goal.returns
returns c =
    descendants-run
