-- By the places of objects and by what single slots hold.
use Rattle.thread_spaces.proofs.StandingApart.{stands-apart}
use Rattle.thread_spaces.proofs.space_laws.threads_stand_apart.Goals as goal

pub returns : goal.returns
returns c = stands-apart
