-- What is left of the set, and fewer full slots each time. Where the next one is found is one of the set, if it is full.
use Rattle.std.proofs.Common.{◌≡◌, true}
use Rattle.kernel_invariant.specs.Wholeness.{Agreed}
use Rattle.objects.specs.Tables.{state_of}
use Rattle.model.specs.Capabilities.Slots.{IsFull}
use Rattle.model.specs.Kernel.State.{State}
use Rattle.cnode_ops.specs.Lines.{LinesGone}
use Rattle.cnode_ops.specs.Sets.{set_of}
use Rattle.cnode_ops.specs.Unsettled.{Notes}
use Rattle.cnode_ops.proofs.EmptiedSets.{IsLeftOf, full_count}
use Rattle.cnode_ops.proofs.removal.empty_all.Given as goal

abbrev pub invariant-slots : goal.invariant-slots
invariant-slots g l =
    let before : State = state_of l.fn.objects (g.S.SlotMap.slots l.fn.store) (g.S.SlotStore.memory l.fn.store) in
    let now : State = state_of l.objects (g.S.SlotMap.slots l.store) (g.S.SlotStore.memory l.store) in
    record {
      left : IsLeftOf before now l.set;
      lines : LinesGone before now l.gone;
      noted : Notes before l.fn.left now l.left;
      agree : Agreed l.objects (g.S.SlotMap.slots l.store) (g.S.SlotStore.memory l.store);
      near : IsFull (g.S.SlotMap.slots l.store) l.near → set_of (g.S.SlotMap.slots l.store) l.set l.near ≡ true;
    }

abbrev pub decreases-slots : goal.decreases-slots
decreases-slots g l =
    let before : State = state_of l.fn.objects (g.S.SlotMap.slots l.fn.store) (g.S.SlotStore.memory l.fn.store) in
    full_count before.memory_bits (g.S.SlotMap.slots l.store)
