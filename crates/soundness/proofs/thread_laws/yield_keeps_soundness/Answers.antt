-- It goes to the tail of its priority.
use Rattle.soundness.proofs.ThreadCalls.{yielded-whole}
use Rattle.soundness.proofs.thread_laws.yield_keeps_soundness.Goals as goal

pub returns : goal.returns
returns c s thread whole runs = yielded-whole s whole thread runs.kind runs.runs
