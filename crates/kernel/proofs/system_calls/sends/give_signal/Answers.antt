-- A thread that signals runs on, and what is left is sound.
use Rattle.objects.specs.Lives.{state_in}
use Rattle.model.specs.Kernel.Messages.{signal}
use Rattle.model.specs.Kernel.State.{State, notification_at}
use Rattle.soundness.proofs.Laws.{running-object, signal-machine, signal-whole, signaled-object}
use Rattle.soundness.specs.Running.{IsRunning}
use Rattle.std.proofs.Common.{refl, sym, subst, rules}
use Rattle.cnode_ops.proofs.Laws.{kept}
use Rattle.kernel.proofs.system_calls.sends.give_signal.Goals as goal

pub invariant_of-kernel : goal.invariant_of-kernel
invariant_of-kernel g c =
    kept _ c.kernel.invariant c.signal.ensures.beside c.signal.ensures.state
    (signal-whole _ c.args.notification c.kernel.invariant.sound (search rules) c.args.badge c.requires.small)
    (signal-machine _ c.args.notification c.args.badge)

pub returns-clause-runs : goal.returns-clause-runs
returns-clause-runs g c =
    let s = state_in g.S.SlotMap.slots g.S.SlotStore.memory c.kernel.inside.live in
    let runs : IsRunning s c.args.thread = search rules in
    let object = signaled-object s c.args.notification c.args.badge c.args.thread (notification_at s c.args.notification).waiters c.kernel.invariant.sound
    (search rules) runs refl in
    subst (λ (t : State). IsRunning t c.args.thread) (sym c.signal.ensures.state)
    (running-object s (signal s c.args.notification c.args.badge) c.args.thread object runs)
