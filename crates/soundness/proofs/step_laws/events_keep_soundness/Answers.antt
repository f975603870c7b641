-- A step of the current thread, a tick or an interrupt, and then the others.
use Rattle.soundness.proofs.Stepped.{events-whole}
use Rattle.soundness.proofs.Sizes.{instructions-keep}
use Rattle.soundness.proofs.step_laws.events_keep_soundness.Goals as goal

pub returns : goal.returns
returns c = events-whole instructions-keep
