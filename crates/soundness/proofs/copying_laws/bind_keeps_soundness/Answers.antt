-- What the line had goes; then it gets a copy of a notification's capability, which is what its slot may hold.
use Rattle.soundness.proofs.Rebound.{bind-sound}
use Rattle.soundness.proofs.copying_laws.bind_keeps_soundness.Goals as goal

pub returns : goal.returns
returns c = bind-sound
