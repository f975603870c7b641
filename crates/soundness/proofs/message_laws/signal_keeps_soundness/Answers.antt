-- The first waiter wakes with the badge, or the badge joins the word.
use Rattle.soundness.proofs.Messages.{signal-whole}
use Rattle.soundness.proofs.message_laws.signal_keeps_soundness.Goals as goal

pub returns : goal.returns
returns c s notification badge whole is = signal-whole s notification whole is badge
