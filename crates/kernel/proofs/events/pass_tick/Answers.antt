-- What is left is sound.
use Rattle.soundness.proofs.Laws.{tick-machine, tick-whole}
use Rattle.kernel.proofs.events.pass_tick.Goals as goal
use Rattle.cnode_ops.proofs.Laws.{kept}

pub invariant_of-kernel : goal.invariant_of-kernel
invariant_of-kernel g c =
    kept _ c.kernel.invariant c.tick.ensures.beside c.tick.ensures.state (tick-whole _ c.kernel.invariant.sound) (tick-machine _)
