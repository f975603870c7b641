-- As it waits for what its call asks.
use Rattle.response.proofs.Waiting.{waits-to-take}
use Rattle.response.proofs.waiters_take.Goals as goal

pub returns : goal.returns
returns c = λ bytes image events t queue n others accepted devices listed is first.
    waits-to-take c.laws_below.ensures bytes image _ _ accepted
    (c.events_go_well.ensures bytes image events accepted devices).stand t queue n others listed is first
