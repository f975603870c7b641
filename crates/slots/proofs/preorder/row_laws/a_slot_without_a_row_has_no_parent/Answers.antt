-- By the lemma on the rows, or the slots, one after another.
use Rattle.slots.specs.preorder.Preorder.{no_path}
use Rattle.slots.proofs.preorder.Changes.{none-without}
use Rattle.slots.proofs.preorder.row_laws.a_slot_without_a_row_has_no_parent.Goals as goal

pub returns : goal.returns
returns c =
    λ rows s. none-without rows no_path s
