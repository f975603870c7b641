-- Only bytes of open slots changed.
use Rattle.objects.proofs.StateLaws.{follows}
use Rattle.objects.proofs.state_laws.a_state_follows_its_slots.Goals as goal

pub returns : goal.returns
returns c = follows
