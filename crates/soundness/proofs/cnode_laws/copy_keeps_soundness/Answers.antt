-- The copy names what its source names.
use Rattle.soundness.proofs.CNodeCalls.{copy-sound}
use Rattle.soundness.proofs.cnode_laws.copy_keeps_soundness.Goals as goal

pub returns : goal.returns
returns c s t call to from word sound is_call is = copy-sound s t call to from word sound is_call is
