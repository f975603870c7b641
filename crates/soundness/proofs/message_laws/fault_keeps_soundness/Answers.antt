-- The handler's capability is valid, so its endpoint is there.
use Rattle.soundness.proofs.Events.{fault-whole}
use Rattle.soundness.proofs.message_laws.fault_keeps_soundness.Goals as goal

pub returns : goal.returns
returns c s thread message whole = fault-whole s whole thread message
