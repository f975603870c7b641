-- What two calls leave of bytes, one after the other.
use Rattle.ipc.proofs.replies.reply_to_fault.Goals as goal
use Rattle.objects.proofs.Laws.{beside-then}

pub returns-then-resumes-clause-beside : goal.returns-then-resumes-clause-beside
returns-then-resumes-clause-beside g c = beside-then c.set_pc.ensures.beside c.wake.ensures.beside
