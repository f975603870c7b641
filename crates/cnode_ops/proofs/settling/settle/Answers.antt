-- Only what threads are of changes where some wait, and where nobody waited nobody is woken.
use Rattle.std.proofs.Common.{◌∙◌, sym, ap, subst}
use Rattle.kernel_invariant.proofs.Laws.{woken-agrees}
use Rattle.kernel_invariant.specs.Agreement.{Agrees}
use Rattle.removal_laws.specs.Finishing.{woken}
use Rattle.objects.specs.Tables.{state_of}
use Rattle.cnode_ops.specs.Unsettled.{WaitersAreNoted}
use Rattle.cnode_ops.proofs.Waiters.{settled-awake}
use Rattle.model.specs.Kernel.State.{State}
use Rattle.cnode_ops.proofs.settling.settle.Goals as goal

pub returns-then-left-clause-state : goal.returns-then-left-clause-state
returns-then-left-clause-state g c = c.wake_stranded.ensures.state ∙ ap woken c.close_strays.ensures.state

pub returns-then-left-clause-agree : goal.returns-then-left-clause-agree
returns-then-left-clause-agree g c = (
  subst (λ (t : State). Agrees t (g.S.SlotStore.memory c.wake_stranded.new.store)) (sym c.wake_stranded.ensures.state)
      (woken-agrees _ _ _ c.close_strays.ensures.agree.0 c.wake_stranded.ensures.bytes),
  c.wake_stranded.ensures.stands,
)

pub returns-else-left-clause-state : goal.returns-else-left-clause-state
returns-else-left-clause-state g c =
    let before : State = state_of c.args.objects.now (g.S.SlotMap.slots c.args.store.now) (g.S.SlotStore.memory c.args.store.now) in
    c.close_strays.ensures.state ∙ settled-awake before (subst (λ b. WaitersAreNoted before b) c.if-left.false c.requires.covered.waiters)
