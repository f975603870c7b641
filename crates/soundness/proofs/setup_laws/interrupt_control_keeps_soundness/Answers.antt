-- It names no memory.
use Rattle.soundness.proofs.Setups.{control-whole}
use Rattle.soundness.proofs.setup_laws.interrupt_control_keeps_soundness.Goals as goal

pub returns : goal.returns
returns c = control-whole
