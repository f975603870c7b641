-- By the lemma on the links.
use Rattle.queues.proofs.links.Laws.{only_owned}
use Rattle.queues.proofs.links.queue_laws.only_links_of_queues_count.Goals as goal

pub returns : goal.returns
returns c = only_owned
