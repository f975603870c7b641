-- Registers alone change.
use Rattle.soundness.proofs.ThreadCalls.{set_register-whole}
use Rattle.soundness.proofs.thread_laws.set_register_keeps_soundness.Goals as goal

pub returns : goal.returns
returns c s t caller thread index value whole is_thread = set_register-whole s whole thread is_thread t caller index value
