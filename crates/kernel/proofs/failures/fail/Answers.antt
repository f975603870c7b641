-- What is left is sound.
use Rattle.soundness.proofs.Laws.{fault-machine, fault-whole}
use Rattle.std.proofs.Common.{rules}
use Rattle.kernel.proofs.failures.fail.Goals as goal
use Rattle.cnode_ops.proofs.Laws.{kept}

pub invariant_of-kernel : goal.invariant_of-kernel
invariant_of-kernel g c =
    kept _ c.kernel.invariant c.raise_fault.ensures.beside c.raise_fault.ensures.state
    (fault-whole _ c.kernel.invariant.sound c.args.thread _ (search rules) c.requires.told)
    (fault-machine _ c.args.thread _)
