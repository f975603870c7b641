-- By the lemma on the links.
use Rattle.queues.proofs.links.Laws.{unowned}
use Rattle.queues.proofs.links.queue_laws.without_an_owner_is_in_no_queue.Goals as goal

pub returns : goal.returns
returns c = unowned
