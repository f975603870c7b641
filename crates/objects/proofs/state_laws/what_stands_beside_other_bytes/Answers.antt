-- No byte of a frame or of a record changed.
use Rattle.objects.proofs.StateLaws.{stands-kept}
use Rattle.objects.proofs.state_laws.what_stands_beside_other_bytes.Goals as goal

pub returns : goal.returns
returns c = stands-kept
