-- What two calls leave of bytes, one after the other.
use Rattle.ipc.proofs.replies.reply_to_call.Goals as goal
use Rattle.objects.proofs.Laws.{beside-then}

pub returns-clause-beside : goal.returns-clause-beside
returns-clause-beside g c = beside-then c.hand_over.ensures.beside c.wake.ensures.beside
