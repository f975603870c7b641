-- The current thread runs.
use Rattle.objects.specs.Lives.{state_in}
use Rattle.model.specs.Kernel.Soundness.{IsSound}
use Rattle.soundness.proofs.Laws.{current-runs}
use Rattle.std.proofs.Common.{rules, subst}
use Rattle.kernel.proofs.events.run_current.Goals as goal

pub run_thread-requires : goal.run_thread-requires
run_thread-requires g c =
    let sound = subst (λ k. IsSound (state_in g.S.SlotMap.slots g.S.SlotStore.memory k)) c.kernel.view_is c.kernel.invariant.sound in
    record { runs = current-runs _ sound.threads c.in-Some.thread (search rules) }
