-- The same view of memory, and the same calls.
use Rattle.part_laws.proofs.own_steps.Stepping.{own-step}
use Rattle.part_laws.proofs.own_steps.own_steps_agree_with.Goals as goal

pub returns : goal.returns
returns c = λ bytes others image part s t labels later u accepted alone_accepted all alone_all given reads member agree now left.
    own-step c.laws_below.ensures c.steps_go_well.ensures bytes others image part s t labels later u accepted alone_accepted all alone_all given reads member
    agree now left
