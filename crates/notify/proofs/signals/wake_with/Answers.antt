-- What two calls leave of bytes, one after the other.
use Rattle.notify.proofs.signals.wake_with.Goals as goal
use Rattle.objects.proofs.Laws.{beside-then}

pub returns-clause-beside : goal.returns-clause-beside
returns-clause-beside g c = beside-then c.deliver_word.ensures.beside c.wake.ensures.beside
