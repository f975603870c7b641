-- Place by place.
use Rattle.packed_slots.proofs.cached_slots.LeavesKept.{kept-more}
use Rattle.packed_slots.proofs.cached_slots.leaves.one_leaf_more_is_kept.Goals as goal

pub returns : goal.returns
returns c = kept-more
