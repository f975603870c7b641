-- The state is as sound with another program counter, and the rest of it is as it was.
use Rattle.std.proofs.Common.{◌≡◌, Some, arith, subst, sym}
use Rattle.model.specs.Kernel.Kinds.{kind_at}
use Rattle.model.specs.Kernel.Retype.{NewThread}
use Rattle.model.specs.Kernel.Steps.{registers_of}
use Rattle.objects.specs.Lives.{state_in}
use Rattle.soundness.proofs.Laws.{with-pc}
use Rattle.user_memory.proofs.OwnRegisters.{own-sound, still-consistent}
use Rattle.user_memory.proofs.thread_registers.ThreadRegistersRegisters.set_pc.Goals as goal

pub invariant_of-kernel : goal.invariant_of-kernel
invariant_of-kernel g c =
    let own = c.args.self.now in
    let s = state_in g.S.SlotMap.slots g.S.SlotStore.memory c.kernel.inside.live in
    let there : kind_at s own.thread ≡ Some NewThread =
    subst (λ k. kind_at (state_in g.S.SlotMap.slots g.S.SlotStore.memory k) own.thread ≡ Some NewThread) (sym c.kernel.view_is) own.there in
    let fits = with-pc (registers_of s own.thread) c.args.pc (own-sound s own.thread c.kernel.invariant.sound there) (omega (arith, c.ranges.pc.fits)) in
    still-consistent own.thread _ c.kernel.invariant there fits
    c.set_pc.ensures.beside c.set_pc.ensures.state
