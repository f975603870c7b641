-- The same places have bytes.
use Rattle.soundness.proofs.Setups.{fill-whole}
use Rattle.soundness.proofs.setup_laws.filling_keeps_soundness.Goals as goal

pub returns : goal.returns
returns c = fill-whole
