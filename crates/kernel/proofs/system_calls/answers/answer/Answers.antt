-- What is left is sound.
use Rattle.objects.specs.Lives.{state_in}
use Rattle.model.specs.Kernel.Steps.{answered}
use Rattle.model.specs.declared.system_calls.SendCall.TheVariants.{Calling}
use Rattle.soundness.proofs.Laws.{answered-machine, answered-whole}
use Rattle.std.proofs.Common.{rules}
use Rattle.cnode_ops.proofs.Laws.{kept}
use Rattle.kernel.proofs.system_calls.answers.answer.Goals as goal

pub invariant_of-kernel : goal.invariant_of-kernel
invariant_of-kernel g c =
    let s = state_in g.S.SlotMap.slots g.S.SlotStore.memory c.kernel.inside.live in
    kept (answered s c.args.thread Calling c.args.number) c.kernel.invariant c.deliver_info.ensures.beside (search rules)
    (answered-whole s c.args.thread Calling c.args.number c.kernel.invariant.sound (search rules) c.requires.small)
    (answered-machine s c.args.thread Calling c.args.number)
