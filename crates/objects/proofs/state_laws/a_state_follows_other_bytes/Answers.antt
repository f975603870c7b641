-- No byte of a frame changed.
use Rattle.objects.proofs.StateLaws.{follows-kept}
use Rattle.objects.proofs.state_laws.a_state_follows_other_bytes.Goals as goal

pub returns : goal.returns
returns c = follows-kept
