-- The thread is there, and what is left is consistent.
use Rattle.std.proofs.Common.{◌∙◌, rules, subst}
use Rattle.cnode_ops.proofs.Laws.{kept}
use Rattle.objects.proofs.Laws.{beside-then}
use Rattle.objects.specs.Lives.{Parts, SameBeside}
use Rattle.soundness.proofs.Laws.{suspend-machine, suspend-whole}
use Rattle.tcb_ops.proofs.ThreadsNear.{held-inside, thread-there}
use Rattle.tcb_ops.proofs.threads.suspend.Goals as goal

pub leave-requires : goal.leave-requires
leave-requires g c = record {
  there = thread-there _ _ _ c.args.thread c.kernel.invariant.sound (held-inside g.S.SlotMap.slots c.args.thread c.kernel.view_is c.requires.held);
}

pub block-requires : goal.block-requires
block-requires g c = record {
  there = c.leave.ensures.beside.bytes.kinds c.args.thread
      ∙ thread-there _ _ _ c.args.thread c.kernel.invariant.sound (held-inside g.S.SlotMap.slots c.args.thread c.kernel.view_is c.requires.held);
}

pub invariant_of-kernel : goal.invariant_of-kernel
invariant_of-kernel g c =
    let there = thread-there _ _ _ c.args.thread c.kernel.invariant.sound (held-inside g.S.SlotMap.slots c.args.thread c.kernel.view_is c.requires.held) in
    kept _ c.kernel.invariant (beside-then c.leave.ensures.beside c.block.ensures.beside) (search rules)
    (suspend-whole _ c.kernel.invariant.sound c.args.thread there)
    (suspend-machine _ c.args.thread)

pub returns-clause-beside : goal.returns-clause-beside
returns-clause-beside g c =
    subst (λ (k : Parts _). SameBeside g.S.SlotMap.slots g.S.SlotStore.memory g.S.SlotStore.order k c.block.new.self) c.kernel.view_is
    (beside-then c.leave.ensures.beside c.block.ensures.beside)
