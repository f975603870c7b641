-- What is left makes the whole.
use Rattle.std.proofs.Common.{◌≡◌, replicate}
use Rattle.kernel_machine.specs.Setups.{state_in}
use Rattle.model.specs.declared.events.Event.TheVariants.{Step}
use Rattle.model.specs.Kernel.Steps.{state_after}
use Rattle.debugging.proofs.replays.make_steps.Given as goal

abbrev pub invariant-loop-left : goal.invariant-loop-left
invariant-loop-left l =
    state_after (state_in l.system) (replicate l.left Step) ≡ state_after (state_in l.fn.system) (replicate l.fn.count Step)

abbrev pub decreases-loop-left : goal.decreases-loop-left
decreases-loop-left l = l.left
