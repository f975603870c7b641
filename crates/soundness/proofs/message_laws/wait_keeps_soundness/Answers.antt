-- The word is taken, or the thread joins the waiters.
use Rattle.soundness.proofs.Messages.{wait-whole}
use Rattle.soundness.proofs.message_laws.wait_keeps_soundness.Goals as goal

pub returns : goal.returns
returns c s notification thread whole is = wait-whole s notification whole is thread
