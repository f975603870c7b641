-- The thread leaves what it waits for, and goes to the tail of its priority.
use Rattle.soundness.proofs.ThreadCalls.{resume-whole}
use Rattle.soundness.proofs.thread_laws.resume_keeps_soundness.Goals as goal

pub returns : goal.returns
returns c s thread whole is_thread = resume-whole s whole thread is_thread
