-- What two calls leave of bytes, one after the other.
use Rattle.sched.proofs.turns.yield_now.Goals as goal
use Rattle.objects.proofs.Laws.{beside-then}

pub returns-clause-beside : goal.returns-clause-beside
returns-clause-beside g c = beside-then c.set_slice.ensures.beside c.to_tail.ensures.beside
