-- No event is done.
use Rattle.kernel_machine.specs.Setups.{state_in}
use Rattle.model.specs.Images.Boot.{booted}
use Rattle.debugging.proofs.Timelines.{shown-first}
use Rattle.debugging.proofs.runs.Run.start.Goals as goal

pub invariant_of-result : goal.invariant_of-result
invariant_of-result c =
    shown-first (booted c.args.image.now) c.args.events.items (state_in c.in_ok-system.system) c.in_ok-system.ensures.booted
