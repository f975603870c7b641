-- Entry by entry.
use Rattle.packed_slots.proofs.cached_slots.LeafWalks.{leaf_same}
use Rattle.packed_slots.proofs.cached_slots.leaves.leaves_stay_where_entries_do.Goals as goal

pub returns : goal.returns
returns c = leaf_same
