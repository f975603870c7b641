-- What it holds it was given.
use Rattle.part_laws.proofs.outside.Nothing.{has-nothing}
use Rattle.part_laws.proofs.outside.others_have_nothing.Goals as goal

pub returns : goal.returns
returns c = λ bytes image part t s labels accepted nothing all given mapped queues listed outside.
    has-nothing bytes image accepted part nothing s labels all given mapped queues t listed outside
