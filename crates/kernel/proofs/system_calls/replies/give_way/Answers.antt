-- What is left is sound.
use Rattle.objects.specs.Lives.{state_in}
use Rattle.model.specs.Kernel.Messages.{passes}
use Rattle.model.specs.Kernel.Scheduling.{yielded}
use Rattle.model.specs.declared.system_calls.SystemCall.TheVariants.{Yields}
use Rattle.objects.proofs.Laws.{beside-then}
use Rattle.soundness.proofs.Laws.{called-whole, passes-machine, then-machine, yielded-machine}
use Rattle.std.proofs.Common.{rules}
use Rattle.cnode_ops.proofs.Laws.{kept}
use Rattle.kernel.proofs.system_calls.replies.give_way.Goals as goal

pub invariant_of-kernel : goal.invariant_of-kernel
invariant_of-kernel g c =
    let s = state_in g.S.SlotMap.slots g.S.SlotStore.memory c.kernel.inside.live in
    kept (yielded (passes s c.args.thread) c.args.thread) c.kernel.invariant (beside-then c.pass.ensures.beside c.yield_now.ensures.beside) (search rules)
    (called-whole s c.args.thread Yields c.kernel.invariant.sound (search rules))
    (then-machine s (passes s c.args.thread) _ (passes-machine s c.args.thread) (yielded-machine (passes s c.args.thread) c.args.thread))
