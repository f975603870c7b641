-- Nothing, a pending bit, or a signal.
use Rattle.soundness.proofs.Events.{raise-whole}
use Rattle.soundness.proofs.message_laws.an_interrupt_keeps_soundness.Goals as goal

pub returns : goal.returns
returns c s line whole = raise-whole s whole line
