-- A thread that replies runs on, and what is left is sound.
use Rattle.model.specs.Kernel.State.{State}
use Rattle.soundness.proofs.Laws.{reply-machine, reply-runs, reply-whole}
use Rattle.soundness.specs.Running.{IsRunning}
use Rattle.std.proofs.Common.{refl, sym, subst, rules}
use Rattle.cnode_ops.proofs.Laws.{kept}
use Rattle.kernel.proofs.system_calls.replies.reply.Goals as goal

pub invariant_of-kernel : goal.invariant_of-kernel
invariant_of-kernel g c =
    kept _ c.kernel.invariant c.reply.ensures.beside c.reply.ensures.state (reply-whole _ c.args.thread c.kernel.invariant.sound (search rules))
    (reply-machine _ c.args.thread)

pub returns-clause-runs : goal.returns-clause-runs
returns-clause-runs g c =
    subst (λ (s : State). IsRunning s c.args.thread) (sym c.reply.ensures.state) (reply-runs _ c.args.thread _ c.kernel.invariant.sound (search rules) refl)
