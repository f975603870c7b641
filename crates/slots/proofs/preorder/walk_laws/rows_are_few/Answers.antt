-- By the lemma on the rows, or the slots, one after another.
use Rattle.slots.proofs.preorder.Counting.{few-rows}
use Rattle.slots.proofs.preorder.walk_laws.rows_are_few.Goals as goal

pub returns : goal.returns
returns c =
    few-rows
