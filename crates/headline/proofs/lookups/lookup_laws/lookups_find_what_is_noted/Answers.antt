-- The root is one of the thread's CNodes, and what their slots hold leads to no others.
use Rattle.headline.proofs.lookups.NotedSlots.{looks-up-noted}
use Rattle.headline.proofs.lookups.lookup_laws.lookups_find_what_is_noted.Goals as goal

pub returns : goal.returns
returns c = looks-up-noted
