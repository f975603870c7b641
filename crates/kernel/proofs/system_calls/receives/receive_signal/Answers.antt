-- What is left is sound.
use Rattle.soundness.proofs.Laws.{poll-machine, poll-whole, wait-machine, wait-whole}
use Rattle.std.proofs.Common.{rules}
use Rattle.cnode_ops.proofs.Laws.{kept}
use Rattle.kernel.proofs.system_calls.receives.receive_signal.Goals as goal

pub invariant_of-kernel : goal.invariant_of-kernel
invariant_of-kernel g c =
    kept _ c.kernel.invariant c.wait.ensures.beside c.wait.ensures.state
    (wait-whole _ c.args.notification c.kernel.invariant.sound (search rules) c.args.thread (search rules))
    (wait-machine _ c.args.notification c.args.thread)

pub invariant_of-kernel-in-Polling : goal.invariant_of-kernel-in-Polling
invariant_of-kernel-in-Polling g c =
    kept _ c.kernel.invariant c.poll.ensures.beside c.poll.ensures.state
    (poll-whole _ c.args.notification c.kernel.invariant.sound (search rules) c.args.thread (search rules))
    (poll-machine _ c.args.notification c.args.thread)
