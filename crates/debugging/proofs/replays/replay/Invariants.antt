-- So many events are done.
use Rattle.std.proofs.Common.{◌≡◌}
use Rattle.kernel_machine.specs.Setups.{state_in}
use Rattle.model.specs.Kernel.Steps.{state_after}
use Rattle.debugging.specs.Runs.{timeline}
use Rattle.debugging.proofs.replays.replay.Given as goal

abbrev pub invariant-events : goal.invariant-events
invariant-events l = state_in l.system ≡ state_after (state_in l.fn.system) (timeline l.fn.events l.done)
