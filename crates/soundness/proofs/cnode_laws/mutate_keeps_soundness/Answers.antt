-- The same, and then a guard word is changed.
use Rattle.soundness.proofs.CNodeCalls.{mutate-sound}
use Rattle.soundness.proofs.cnode_laws.mutate_keeps_soundness.Goals as goal

pub returns : goal.returns
returns c s t call to from payload sound is_call is = mutate-sound s t call to from payload sound is_call is
