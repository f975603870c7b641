-- The empty machine is sound, each operation of the loader keeps it so, and this is what they lead to.
use Rattle.soundness.proofs.boot_laws.SoundBooted.{described-sound}
use Rattle.soundness.proofs.boot_laws.booting_laws.described_states_are_sound.Goals as goal

pub returns : goal.returns
returns c = described-sound
