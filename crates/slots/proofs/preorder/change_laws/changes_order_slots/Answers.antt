-- By the lemma on the rows, or the slots, one after another.
use Rattle.slots.proofs.preorder.Changes.{slots-put_behind, slots-renamed, slots-taken_out}
use Rattle.slots.proofs.preorder.change_laws.changes_order_slots.Goals as goal

pub returns : goal.returns
returns c =
    record { put = slots-put_behind; taken = slots-taken_out; moved = slots-renamed }
