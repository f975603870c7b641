-- What is left is sound.
use Rattle.objects.specs.Lives.{state_in}
use Rattle.model.specs.Kernel.Steps.{calls_known}
use Rattle.soundness.proofs.Laws.{fault-machine, unknown-whole}
use Rattle.std.proofs.Common.{None, rules}
use Rattle.cnode_ops.proofs.Laws.{kept}
use Rattle.kernel.proofs.system_calls.answers.unknown_call.Goals as goal

pub invariant_of-kernel : goal.invariant_of-kernel
invariant_of-kernel g c =
    let s = state_in g.S.SlotMap.slots g.S.SlotStore.memory c.kernel.inside.live in
    kept (calls_known s c.args.thread c.args.number None).0 c.kernel.invariant c.raise_fault.ensures.beside (search rules)
    (unknown-whole s c.args.thread c.kernel.invariant.sound (search rules) c.args.number c.ranges.number.fits)
    (fault-machine s c.args.thread _)
