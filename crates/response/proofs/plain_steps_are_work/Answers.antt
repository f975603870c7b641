-- Along an edge.
use Rattle.headline.proofs.Laws.{given}
use Rattle.response.proofs.PlainPaid.{plain-paid}
use Rattle.response.proofs.plain_steps_are_work.Goals as goal

pub returns : goal.returns
returns c = λ bytes image priority w events t accepted devices pays listed level now free.
    let fits = accepted.spelled.fits in
    let facts =
    given bytes image t (λ k point state at known. c.measures_of_points_name_registers.ensures image k t point state fits at known) accepted listed in
    plain-paid image priority w pays events t facts listed level (c.events_go_well.ensures bytes image events accepted devices).stand now free
    (c.who_runs_has_left.ensures bytes image events t accepted devices listed now)
    (λ u among same. c.threads_have_their_own_blocks.ensures bytes image u t accepted among listed same)
