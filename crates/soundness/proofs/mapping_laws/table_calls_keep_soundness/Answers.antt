-- The region is free; frames in it go with their table.
use Rattle.soundness.proofs.MappingCalls.{table-sound}
use Rattle.soundness.proofs.mapping_laws.table_calls_keep_soundness.Goals as goal

pub returns : goal.returns
returns c s t call offset before asked sound is_call is done = table-sound s t call offset before asked sound is_call is done
