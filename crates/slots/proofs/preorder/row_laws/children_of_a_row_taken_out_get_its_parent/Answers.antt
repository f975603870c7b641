-- By the lemma on the rows, or the slots, one after another.
use Rattle.slots.proofs.preorder.Splices.{taken-out}
use Rattle.slots.proofs.preorder.row_laws.children_of_a_row_taken_out_get_its_parent.Goals as goal

pub returns : goal.returns
returns c =
    taken-out
