-- The first receiver gets the message, or the sender passes.
use Rattle.soundness.proofs.Messages.{try_to_send-whole}
use Rattle.soundness.proofs.message_laws.try_to_send_keeps_soundness.Goals as goal

pub returns : goal.returns
returns c s endpoint sender whole is runs sound = try_to_send-whole s endpoint sender whole is runs sound
