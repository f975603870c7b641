-- By the lemma on the links.
use Rattle.queues.proofs.Laws.{kinds_apart}
use Rattle.queues.proofs.queue_laws.kinds_stand_apart.Goals as goal

pub returns : goal.returns
returns c = kinds_apart
