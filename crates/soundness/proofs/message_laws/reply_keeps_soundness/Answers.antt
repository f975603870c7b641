-- Once the right is gone, nobody holds one for the caller.
use Rattle.soundness.proofs.Messages.{reply-whole}
use Rattle.soundness.proofs.message_laws.reply_keeps_soundness.Goals as goal

pub returns : goal.returns
returns c s thread whole is_thread = reply-whole s thread whole is_thread
