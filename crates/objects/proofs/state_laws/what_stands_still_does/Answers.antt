-- Only bytes of open slots changed.
use Rattle.objects.proofs.StateLaws.{stands-still}
use Rattle.objects.proofs.state_laws.what_stands_still_does.Goals as goal

pub returns : goal.returns
returns c = stands-still
