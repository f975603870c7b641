-- The thread is there, and what is left is consistent.
use Rattle.std.proofs.Common.{arith, refl, rules}
use Rattle.cnode_ops.proofs.Laws.{kept}
use Rattle.model.specs.Kernel.State.{State}
use Rattle.objects.specs.Lives.{state_in}
use Rattle.tcb_ops.proofs.Passed.{register-keeps}
use Rattle.tcb_ops.proofs.ThreadsNear.{held-inside, thread-there}
use Rattle.tcb_ops.proofs.threads.set_register.Goals as goal

pub set_registers-requires : goal.set_registers-requires
set_registers-requires g c = record {
  there = thread-there _ _ _ c.args.thread c.kernel.invariant.sound (held-inside g.S.SlotMap.slots c.args.thread c.kernel.view_is c.requires.held);
}

pub invariant_of-kernel : goal.invariant_of-kernel
invariant_of-kernel g c =
    let there = thread-there _ _ _ c.args.thread c.kernel.invariant.sound (held-inside g.S.SlotMap.slots c.args.thread c.kernel.view_is c.requires.held) in
    let t : State = state_in g.S.SlotMap.slots g.S.SlotStore.memory c.set_registers.new.self in
    let keeps = register-keeps _ t c.args.caller c.args.thread c.args.index c.args.value c.kernel.invariant.sound there (omega (arith, c.ranges.value.fits))
    (search rules) in
    kept t c.kernel.invariant c.set_registers.ensures.beside refl keeps.sound keeps.base
