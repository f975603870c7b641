-- The receiver gets the message, and the sender does what it does.
use Rattle.objects.proofs.Laws.{beside-then}
use Rattle.ipc.proofs.receives.receive_from.Goals as goal

pub returns-clause-beside : goal.returns-clause-beside
returns-clause-beside g c = beside-then c.deliver_sent.ensures.beside c.received_waiting.ensures.beside
