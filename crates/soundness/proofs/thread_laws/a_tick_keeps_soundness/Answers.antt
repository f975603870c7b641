-- The current thread loses a tick, or goes to the tail.
use Rattle.soundness.proofs.ThreadCalls.{tick-whole}
use Rattle.soundness.proofs.thread_laws.a_tick_keeps_soundness.Goals as goal

pub returns : goal.returns
returns c = tick-whole
