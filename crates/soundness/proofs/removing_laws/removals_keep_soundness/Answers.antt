-- What is left of slots, memory, mappings and threads, and then all who waited at what ended wake.
use Rattle.soundness.proofs.Removed.{removed-sound}
use Rattle.soundness.proofs.removing_laws.removals_keep_soundness.Goals as goal

pub returns : goal.returns
returns c = removed-sound
