-- By the lemma on the links.
use Rattle.queues.proofs.links.Laws.{named_stand}
use Rattle.queues.proofs.links.queue_laws.whoever_is_named_stands_there.Goals as goal

pub returns : goal.returns
returns c = named_stand
