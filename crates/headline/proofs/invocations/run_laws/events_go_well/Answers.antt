-- One event after another.
use Rattle.headline.proofs.invocations.AllRuns.{any-run-goes}
use Rattle.headline.proofs.invocations.run_laws.events_go_well.Goals as goal

pub returns : goal.returns
returns c = λ bytes image events accepted devices.
    any-run-goes c.steps_go_well.ensures c.ticks_keep_all_standing.ensures c.interrupts_keep_all_standing.ensures
    c.writes_keep_all_standing.ensures c.reads_keep_all_standing.ensures bytes image events accepted devices
    (c.all_stand_at_the_start.ensures bytes image accepted)
