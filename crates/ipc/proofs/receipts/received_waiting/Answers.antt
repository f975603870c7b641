-- What two calls leave of bytes, one after the other.
use Rattle.ipc.proofs.receipts.received_waiting.Goals as goal
use Rattle.objects.proofs.Laws.{beside-then}

pub returns-in-Send-clause-beside : goal.returns-in-Send-clause-beside
returns-in-Send-clause-beside g c = beside-then c.pass.ensures.beside c.wake.ensures.beside
