-- The current thread is the first of the greatest priority.
use Rattle.response.proofs.Running.{level-runs}
use Rattle.response.proofs.levels_run.Goals as goal

pub returns : goal.returns
returns c = λ bytes image events priority t accepted devices listed level may.
    level-runs image _ _ (c.events_go_well.ensures bytes image events accepted devices).stand
    (λ u there. c.priorities_stay.ensures bytes image events u accepted devices there) priority t listed level may
