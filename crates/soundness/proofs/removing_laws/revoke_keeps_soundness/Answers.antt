-- Descendants are full, so their slots are open.
use Rattle.soundness.proofs.Removed.{revoked-sound}
use Rattle.soundness.proofs.removing_laws.revoke_keeps_soundness.Goals as goal

pub returns : goal.returns
returns c = revoked-sound
