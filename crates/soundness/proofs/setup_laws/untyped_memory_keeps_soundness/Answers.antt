-- It lies after all memory that a capability names.
use Rattle.soundness.proofs.Setups.{put_untyped-whole}
use Rattle.soundness.proofs.setup_laws.untyped_memory_keeps_soundness.Goals as goal

pub returns : goal.returns
returns c = put_untyped-whole
