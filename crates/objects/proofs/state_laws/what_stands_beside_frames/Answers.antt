-- Only bytes of frames changed.
use Rattle.objects.proofs.StateLaws.{stands-frames}
use Rattle.objects.proofs.state_laws.what_stands_beside_frames.Goals as goal

pub returns : goal.returns
returns c = stands-frames
