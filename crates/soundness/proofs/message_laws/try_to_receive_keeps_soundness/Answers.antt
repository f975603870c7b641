-- The right to reply is dropped; then the first sender's message comes, or nothing.
use Rattle.soundness.proofs.Messages.{try_to_receive-whole}
use Rattle.soundness.proofs.message_laws.try_to_receive_keeps_soundness.Goals as goal

pub returns : goal.returns
returns c s endpoint receiver whole is runs = try_to_receive-whole s endpoint receiver whole is runs
