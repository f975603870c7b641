-- The thread leaves what it waits for, and is in no list.
use Rattle.soundness.proofs.ThreadCalls.{suspend-whole}
use Rattle.soundness.proofs.thread_laws.suspend_keeps_soundness.Goals as goal

pub returns : goal.returns
returns c s thread whole is_thread = suspend-whole s whole thread is_thread
