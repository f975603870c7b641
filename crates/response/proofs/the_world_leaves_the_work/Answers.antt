-- A write changes bytes alone, and a look nothing.
use Rattle.model.specs.declared.events.Event.TheVariants.{Read, Write}
use Rattle.model.specs.Images.Described.{described}
use Rattle.model.specs.Kernel.Steps.{state_after, trace}
use Rattle.response.proofs.Ticks.{event-leaves, look-same, write-same}
use Rattle.response.proofs.the_world_leaves_the_work.Goals as goal

pub returns-clause-writes : goal.returns-clause-writes
returns-clause-writes c = λ image priority w events address word.
    event-leaves image priority w events (Write address word)
    (write-same image (state_after (described image) events) address word (trace (described image) events))

pub returns-clause-looks : goal.returns-clause-looks
returns-clause-looks c = λ image priority w events address.
    event-leaves image priority w events (Read address)
    (look-same image (state_after (described image) events) address (trace (described image) events))
