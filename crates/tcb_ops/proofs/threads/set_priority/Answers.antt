-- The thread is there, and what is left is consistent.
use Rattle.std.proofs.Common.{arith}
use Rattle.cnode_ops.proofs.Laws.{kept}
use Rattle.tcb_ops.proofs.Passed.{priority-keeps}
use Rattle.tcb_ops.proofs.ThreadsNear.{held-inside, thread-there}
use Rattle.tcb_ops.proofs.threads.set_priority.Goals as goal

pub set_priority-requires : goal.set_priority-requires
set_priority-requires g c = record {
  there = thread-there _ _ _ c.args.thread c.kernel.invariant.sound (held-inside g.S.SlotMap.slots c.args.thread c.kernel.view_is c.requires.held);
}

pub invariant_of-kernel : goal.invariant_of-kernel
invariant_of-kernel g c =
    let there = thread-there _ _ _ c.args.thread c.kernel.invariant.sound (held-inside g.S.SlotMap.slots c.args.thread c.kernel.view_is c.requires.held) in
    let keeps = priority-keeps _ c.args.thread c.args.priority c.kernel.invariant.sound there (omega (arith, c.if-priority-gt255.false)) in
    kept _ c.kernel.invariant c.set_priority.ensures.beside c.set_priority.ensures.state keeps.sound keeps.base
