-- What is left is sound.
use Rattle.objects.specs.Lives.{state_in}
use Rattle.model.specs.Kernel.Steps.{lacks_capability}
use Rattle.soundness.proofs.Laws.{fault-machine, lacks-whole}
use Rattle.std.proofs.Common.{◌<◌, ◌^◌, if◌then◌else◌, Bool, true, false, arith, rules}
use Rattle.cnode_ops.proofs.Laws.{kept}
use Rattle.kernel.proofs.system_calls.answers.lacks_capability.Goals as goal

small : (b : Bool) → (if b then 1 else 0) < 2 ^ 32
small true = omega arith
small false = omega arith

pub invariant_of-kernel : goal.invariant_of-kernel
invariant_of-kernel g c =
    let s = state_in g.S.SlotMap.slots g.S.SlotStore.memory c.kernel.inside.live in
    kept (lacks_capability s c.args.thread (if c.args.in_receive then 1 else 0) c.args.failure).0 c.kernel.invariant c.raise_fault.ensures.beside (search rules)
    (lacks-whole s c.args.thread c.kernel.invariant.sound (search rules) _ c.args.failure (small c.args.in_receive) c.requires.few)
    (fault-machine s c.args.thread _)
