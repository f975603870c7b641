-- The events that are done are the same.
use Rattle.kernel_machine.specs.Setups.{state_in}
use Rattle.model.specs.Images.Boot.{booted}
use Rattle.debugging.proofs.Timelines.{shown-put}
use Rattle.debugging.proofs.runs.Run.put_next.Goals as goal

pub invariant_of-self : goal.invariant_of-self
invariant_of-self c =
    let before = c.self.inside in
    shown-put (booted before.image.now) before.events.items c.put_at.new.events.items before.done c.args.event (state_in before.system) c.put_at.result
    c.put_at.ensures.put c.put_at.ensures.unchanged c.self.invariant
