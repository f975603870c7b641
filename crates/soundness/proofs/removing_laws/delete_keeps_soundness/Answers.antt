-- Where the slot is empty, nothing changes.
use Rattle.soundness.proofs.Removed.{deleted-sound}
use Rattle.soundness.proofs.removing_laws.delete_keeps_soundness.Goals as goal

pub returns : goal.returns
returns c = deleted-sound
