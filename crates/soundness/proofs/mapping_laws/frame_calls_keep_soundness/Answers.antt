-- The page is free, and its region has a table.
use Rattle.soundness.proofs.MappingCalls.{frame-sound}
use Rattle.soundness.proofs.mapping_laws.frame_calls_keep_soundness.Goals as goal

pub returns : goal.returns
returns c s t call offset allowed before asked sound is_call is done = frame-sound s t call offset allowed before asked sound is_call is done
