-- By the lemma on the rows, or the slots, one after another.
use Rattle.slots.proofs.preorder.Changes.{first-others, first-own}
use Rattle.slots.proofs.preorder.row_laws.a_first_row_has_no_parent.Goals as goal

pub returns : goal.returns
returns c =
    record { own = first-own; others = first-others }
