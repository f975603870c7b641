-- A mask less, and a signal where one is pending.
use Rattle.soundness.proofs.Events.{acknowledge-whole}
use Rattle.soundness.proofs.message_laws.an_acknowledgement_keeps_soundness.Goals as goal

pub returns : goal.returns
returns c = acknowledge-whole
