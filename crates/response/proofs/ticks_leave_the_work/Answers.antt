-- Of the thread that runs a tick changes the slice alone.
use Rattle.response.proofs.Ticks.{event-leaves, running-thread, tick-same}
use Rattle.response.proofs.ticks_leave_the_work.Goals as goal
use Rattle.model.specs.Images.Described.{described}
use Rattle.model.specs.Kernel.Steps.{state_after, step, trace}
use Rattle.model.specs.declared.events.Event.TheVariants.{Tick}

pub returns : goal.returns
unfolding step
returns c = λ bytes image priority w events accepted devices.
    let s = state_after (described image) events in
    let all = (c.events_go_well.ensures bytes image events accepted devices).stand in
    event-leaves image priority w events Tick
    (tick-same s (step s Tick).0 (c.a_tick_stays_within_authority.ensures s all.sound)
    (running-thread s all.sound) image (trace (described image) events))
