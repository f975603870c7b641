-- By the lemma on the links.
use Rattle.queues.proofs.Laws.{begins_empty}
use Rattle.queues.proofs.queue_laws.objects_begin_empty.Goals as goal

pub returns : goal.returns
returns c = begins_empty
