-- The first receiver gets the message, or the sender waits.
use Rattle.soundness.proofs.Messages.{send-whole}
use Rattle.soundness.proofs.message_laws.send_keeps_soundness.Goals as goal

pub returns : goal.returns
returns c s endpoint sender whole is runs sound = send-whole s endpoint sender whole is runs sound
