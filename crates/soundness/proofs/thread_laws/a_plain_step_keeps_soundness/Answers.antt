-- Registers change, and then bytes at the same places.
use Rattle.soundness.proofs.ThreadCalls.{registers-whole}
use Rattle.model.specs.Kernel.Messages.{with_registers}
use Rattle.soundness.proofs.Bytes.{content-whole}
use Rattle.soundness.proofs.thread_laws.a_plain_step_keeps_soundness.Goals as goal

pub returns : goal.returns
returns c s thread registers content whole is_thread sound =
    content-whole (with_registers s thread registers) content (registers-whole s whole thread is_thread registers sound)
