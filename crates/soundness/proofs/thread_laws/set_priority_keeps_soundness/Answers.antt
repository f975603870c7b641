-- A runnable thread goes to the tail of its new priority.
use Rattle.soundness.proofs.ThreadCalls.{set_priority-whole}
use Rattle.soundness.proofs.thread_laws.set_priority_keeps_soundness.Goals as goal

pub returns : goal.returns
returns c s t thread priority whole is_thread = set_priority-whole s whole thread is_thread t priority
