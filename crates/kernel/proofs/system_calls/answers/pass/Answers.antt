-- What is left is sound.
use Rattle.soundness.proofs.Laws.{passes-machine, passes-whole}
use Rattle.std.proofs.Common.{rules}
use Rattle.cnode_ops.proofs.Laws.{kept}
use Rattle.kernel.proofs.system_calls.answers.pass.Goals as goal

pub invariant_of-kernel : goal.invariant_of-kernel
invariant_of-kernel g c =
    kept _ c.kernel.invariant c.pass.ensures.beside c.pass.ensures.state (passes-whole _ c.kernel.invariant.sound c.args.thread (search rules))
    (passes-machine _ c.args.thread)
