-- The interrupt table is in no thread's CNodes.
use Rattle.response.proofs.Bindings.{bound-as-described}
use Rattle.response.proofs.bindings_stay.Goals as goal

pub returns : goal.returns
returns c = λ bytes image events number accepted devices few.
    bound-as-described image accepted.spelled.fits accepted.formed _ _ (c.events_go_well.ensures bytes image events accepted devices).stand number few
