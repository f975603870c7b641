-- The right to reply is dropped; then the first sender's message comes, or the receiver waits.
use Rattle.soundness.proofs.Messages.{receive-whole}
use Rattle.soundness.proofs.message_laws.receive_keeps_soundness.Goals as goal

pub returns : goal.returns
returns c s endpoint receiver whole is runs = receive-whole s endpoint receiver whole is runs
