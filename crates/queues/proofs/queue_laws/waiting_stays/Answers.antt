-- By the lemma on the links.
use Rattle.queues.proofs.Laws.{waiting_stays}
use Rattle.queues.proofs.queue_laws.waiting_stays.Goals as goal

pub returns : goal.returns
returns c = waiting_stays
