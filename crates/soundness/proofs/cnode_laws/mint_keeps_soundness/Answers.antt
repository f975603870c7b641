-- So does a copy with another badge or guard.
use Rattle.soundness.proofs.CNodeCalls.{mint-sound}
use Rattle.soundness.proofs.cnode_laws.mint_keeps_soundness.Goals as goal

pub returns : goal.returns
returns c s t call to from word payload sound is_call is = mint-sound s t call to from word payload sound is_call is
