-- It waits at its input.
use Rattle.model.specs.Images.Described.{described}
use Rattle.model.specs.Kernel.Steps.{state_after}
use Rattle.settled_threads.proofs.Owing.{owes-none}
use Rattle.settled_threads.proofs.settled_threads_owe_nothing.Goals as goal

pub returns : goal.returns
returns c = λ bytes image priority w settling events t object accepted devices settled rests listed input.
    owes-none image priority w (state_after (described image) events) t object
    (c.settled_threads_rest.ensures bytes image priority settling events t object accepted devices settled rests listed input)
