-- Event by event.
use Rattle.part_laws.proofs.outside.UseRuns.{always-used}
use Rattle.part_laws.proofs.outside.queues_are_used.Goals as goal

pub returns : goal.returns
returns c = λ bytes image events accepted devices.
    always-used bytes image accepted c.threads_have_their_own_blocks.ensures c.a_tick_stays_within_authority.ensures
    c.an_interrupt_stays_within_authority.ensures c.events_go_well.ensures c.events_stay_within_authority.ensures c.threads_never_hold_more.ensures
    c.threads_are_as_listed.ensures events devices
