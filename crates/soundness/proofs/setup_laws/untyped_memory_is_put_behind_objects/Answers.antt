-- Each object has a capability, and the memory that capabilities name ends before.
use Rattle.soundness.proofs.Setups.{behind-objects}
use Rattle.soundness.proofs.setup_laws.untyped_memory_is_put_behind_objects.Goals as goal

pub returns : goal.returns
returns c = behind-objects
