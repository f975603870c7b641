-- The thread is there, and what is left is consistent.
use Rattle.std.proofs.Common.{◌∙◌, rules, subst}
use Rattle.cnode_ops.proofs.Laws.{kept}
use Rattle.objects.proofs.Laws.{beside-then}
use Rattle.objects.specs.Lives.{Parts, SameBeside}
use Rattle.soundness.proofs.Laws.{resume-machine, resume-whole}
use Rattle.tcb_ops.proofs.ThreadsNear.{held-inside, thread-there}
use Rattle.tcb_ops.proofs.threads.resume.Goals as goal

pub leave-requires : goal.leave-requires
leave-requires g c = record {
  there = thread-there _ _ _ c.args.thread c.kernel.invariant.sound (held-inside g.S.SlotMap.slots c.args.thread c.kernel.view_is c.requires.held);
}

pub wake-requires : goal.wake-requires
wake-requires g c = record {
  there = c.leave.ensures.beside.bytes.kinds c.args.thread
      ∙ thread-there _ _ _ c.args.thread c.kernel.invariant.sound (held-inside g.S.SlotMap.slots c.args.thread c.kernel.view_is c.requires.held);
}

pub invariant_of-kernel : goal.invariant_of-kernel
invariant_of-kernel g c =
    let there = thread-there _ _ _ c.args.thread c.kernel.invariant.sound (held-inside g.S.SlotMap.slots c.args.thread c.kernel.view_is c.requires.held) in
    kept _ c.kernel.invariant (beside-then c.leave.ensures.beside c.wake.ensures.beside) (search rules)
    (resume-whole _ c.kernel.invariant.sound c.args.thread there)
    (resume-machine _ c.args.thread)

pub returns-in-Inactive : goal.returns-in-Inactive
returns-in-Inactive g c = record {
  state = search rules;
  beside = subst (λ (k : Parts _). SameBeside g.S.SlotMap.slots g.S.SlotStore.memory g.S.SlotStore.order k c.wake.new.self) c.kernel.view_is
      (beside-then c.leave.ensures.beside c.wake.ensures.beside);
}
