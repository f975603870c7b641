-- The bindings of the lines from this one on are left.
use Rattle.kernel_invariant.specs.Wholeness.{Agreed}
use Rattle.objects.specs.Tables.{state_of}
use Rattle.model.specs.Kernel.State.{State}
use Rattle.cnode_ops.specs.Lines.{has_line}
use Rattle.cnode_ops.specs.Unsettled.{Notes}
use Rattle.cnode_ops.proofs.EmptiedSets.{LinesLeft}
use Rattle.cnode_ops.proofs.removal.empty_bindings.Given as goal

abbrev pub invariant-lines : goal.invariant-lines
invariant-lines g l =
    let before : State = state_of l.fn.objects (g.S.SlotMap.slots l.fn.store) (g.S.SlotStore.memory l.fn.store) in
    let now : State = state_of l.objects (g.S.SlotMap.slots l.store) (g.S.SlotStore.memory l.store) in
    record {
      left : LinesLeft before now (λ line. has_line l.lines line) l.line;
      noted : Notes before l.fn.left now l.left;
      agree : Agreed l.objects (g.S.SlotMap.slots l.store) (g.S.SlotStore.memory l.store);
    }
