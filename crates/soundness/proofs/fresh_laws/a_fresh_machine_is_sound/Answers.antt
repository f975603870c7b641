-- Nothing is in its slots, and nothing else is there.
use Rattle.soundness.proofs.FreshMachines.{fresh-sound}
use Rattle.soundness.proofs.fresh_laws.a_fresh_machine_is_sound.Goals as goal

pub returns : goal.returns
returns c = fresh-sound
