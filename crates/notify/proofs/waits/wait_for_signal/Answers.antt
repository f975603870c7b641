-- What two calls leave of bytes, one after the other.
use Rattle.notify.proofs.waits.wait_for_signal.Goals as goal
use Rattle.objects.proofs.Laws.{beside-then}

pub returns-clause-beside : goal.returns-clause-beside
returns-clause-beside g c = beside-then c.push_waiter.ensures.beside c.block.ensures.beside
