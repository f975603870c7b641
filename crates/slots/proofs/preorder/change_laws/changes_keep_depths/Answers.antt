-- By the lemma on the rows, or the slots, one after another.
use Rattle.slots.proofs.preorder.DepthChanges.{deep-first, deep-put_behind, deep-renamed}
use Rattle.slots.proofs.preorder.change_laws.changes_keep_depths.Goals as goal

pub returns : goal.returns
returns c =
    record { put = deep-put_behind; first = deep-first; moved = deep-renamed }
