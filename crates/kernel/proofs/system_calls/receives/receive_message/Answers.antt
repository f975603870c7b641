-- What is left is sound.
use Rattle.soundness.proofs.Laws.{receive-machine, receive-whole, try_to_receive-machine, try_to_receive-whole}
use Rattle.std.proofs.Common.{rules}
use Rattle.cnode_ops.proofs.Laws.{kept}
use Rattle.kernel.proofs.system_calls.receives.receive_message.Goals as goal

pub invariant_of-kernel : goal.invariant_of-kernel
invariant_of-kernel g c =
    kept _ c.kernel.invariant c.receive.ensures.beside c.receive.ensures.state
    (receive-whole _ c.args.endpoint c.args.thread c.kernel.invariant.sound (search rules) (search rules))
    (receive-machine _ c.args.endpoint c.args.thread)

pub invariant_of-kernel-in-Polling : goal.invariant_of-kernel-in-Polling
invariant_of-kernel-in-Polling g c =
    kept _ c.kernel.invariant c.try_to_receive.ensures.beside c.try_to_receive.ensures.state
    (try_to_receive-whole _ c.args.endpoint c.args.thread c.kernel.invariant.sound (search rules) (search rules))
    (try_to_receive-machine _ c.args.endpoint c.args.thread)
