-- Only bytes of frames changed.
use Rattle.objects.proofs.StateLaws.{follows-frames}
use Rattle.objects.proofs.state_laws.a_state_follows_its_frames.Goals as goal

pub returns : goal.returns
returns c = follows-frames
