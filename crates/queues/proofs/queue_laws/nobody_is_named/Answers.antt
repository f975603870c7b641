-- By the lemma on the links.
use Rattle.queues.proofs.Laws.{nobody_named}
use Rattle.queues.proofs.queue_laws.nobody_is_named.Goals as goal

pub returns : goal.returns
returns c = nobody_named
