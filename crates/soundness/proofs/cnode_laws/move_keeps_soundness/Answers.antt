-- Two slots change places, one of which is empty.
use Rattle.soundness.proofs.CNodeCalls.{move-sound}
use Rattle.soundness.proofs.cnode_laws.move_keeps_soundness.Goals as goal

pub returns : goal.returns
returns c s t call to from sound is_call is = move-sound s t call to from sound is_call is
