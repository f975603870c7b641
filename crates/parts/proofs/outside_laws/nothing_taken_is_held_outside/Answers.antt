-- Who holds such a capability may change what it is to, by the image.
use Rattle.model.specs.Images.Described.{described}
use Rattle.model.specs.Kernel.Steps.{state_after}
use Rattle.parts.proofs.Outside.{none-outside}
use Rattle.parts.proofs.outside_laws.nothing_taken_is_held_outside.Goals as goal

pub returns : goal.returns
returns c = λ bytes image part events accepted keeps nothing.
    none-outside bytes image part (state_after (described image) events) c.held_queues_are_listed.ensures accepted
    (c.threads_never_hold_more.ensures bytes image events accepted keeps) nothing
