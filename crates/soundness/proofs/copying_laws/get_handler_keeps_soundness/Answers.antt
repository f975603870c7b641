-- A handler names no memory, as interrupt control does not.
use Rattle.soundness.proofs.CopyingCalls.{get-sound}
use Rattle.soundness.proofs.copying_laws.get_handler_keeps_soundness.Goals as goal

pub returns : goal.returns
returns c s t call number name sound is_call control is = get-sound s t call number name sound is_call control is
