-- All below a slot is done.
use Rattle.std.proofs.Common.{◌-◌}
use Rattle.kernel_invariant.specs.Wholeness.{Agreed}
use Rattle.objects.specs.Tables.{state_of}
use Rattle.model.specs.Kernel.State.{State}
use Rattle.removal_laws.proofs.Laws.{IsPassed}
use Rattle.cnode_ops.proofs.settling.close_strays.Given as goal

abbrev pub invariant-slots : goal.invariant-slots
invariant-slots g l =
    let before : State = state_of l.objects (g.S.SlotMap.slots l.fn.store) (g.S.SlotStore.memory l.fn.store) in
    let now : State = state_of l.objects (g.S.SlotMap.slots l.store) (g.S.SlotStore.memory l.store) in
    record {
      passed : IsPassed before now l.at;
      agree : Agreed l.objects (g.S.SlotMap.slots l.store) (g.S.SlotStore.memory l.store);
    }

abbrev pub decreases-slots : goal.decreases-slots
decreases-slots g l = l.left.end - l.at
