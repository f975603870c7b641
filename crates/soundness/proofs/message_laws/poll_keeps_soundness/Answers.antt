-- The word is taken, or 0.
use Rattle.soundness.proofs.Messages.{poll-whole}
use Rattle.soundness.proofs.message_laws.poll_keeps_soundness.Goals as goal

pub returns : goal.returns
returns c s notification thread whole is = poll-whole s notification whole is thread
