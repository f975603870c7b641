-- By the lemma on the links.
use Rattle.queues.proofs.links.Laws.{leaving}
use Rattle.queues.proofs.links.queue_laws.leaving_takes_out.Goals as goal

pub returns : goal.returns
returns c = leaving
