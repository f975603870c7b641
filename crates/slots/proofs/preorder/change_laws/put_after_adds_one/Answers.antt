-- By the lemma on the rows, or the slots, one after another.
use Rattle.slots.proofs.preorder.Changes.{times-put_after, times-put_after_own}
use Rattle.slots.proofs.preorder.change_laws.put_after_adds_one.Goals as goal

pub returns : goal.returns
returns c =
    record { own = times-put_after_own; others = times-put_after }
