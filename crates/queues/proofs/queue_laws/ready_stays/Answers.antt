-- By the lemma on the links.
use Rattle.queues.proofs.Laws.{ready_stays}
use Rattle.queues.proofs.queue_laws.ready_stays.Goals as goal

pub returns : goal.returns
returns c = ready_stays
