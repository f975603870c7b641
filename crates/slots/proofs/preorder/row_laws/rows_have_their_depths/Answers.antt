-- By the lemma on the rows, or the slots, one after another.
use Rattle.slots.proofs.preorder.RowDepths.{depth-rows}
use Rattle.slots.proofs.preorder.row_laws.rows_have_their_depths.Goals as goal

pub returns : goal.returns
returns c =
    depth-rows 256
