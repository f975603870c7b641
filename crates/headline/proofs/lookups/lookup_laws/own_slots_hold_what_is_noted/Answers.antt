-- By the key of the slot, among what is noted.
use Rattle.headline.proofs.lookups.NotedSlots.{holds-noted}
use Rattle.headline.proofs.lookups.lookup_laws.own_slots_hold_what_is_noted.Goals as goal

pub returns : goal.returns
returns c = holds-noted
