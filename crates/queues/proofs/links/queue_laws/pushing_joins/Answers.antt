-- By the lemma on the links.
use Rattle.queues.proofs.links.Laws.{pushing}
use Rattle.queues.proofs.links.queue_laws.pushing_joins.Goals as goal

pub returns : goal.returns
returns c = pushing
