-- By the lemma on the links.
use Rattle.queues.proofs.links.Laws.{first_dropped}
use Rattle.queues.proofs.links.queue_laws.a_first_thread_is_dropped.Goals as goal

pub returns : goal.returns
returns c = first_dropped
