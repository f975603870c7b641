-- Event by event, on both sides.
use Rattle.part_laws.proofs.promises.RunsAlone.{undisturbed}
use Rattle.part_laws.proofs.promises.parts_above_are_undisturbed.Goals as goal

pub returns : goal.returns
returns c =
    undisturbed c.events_go_well.ensures c.events_stay_within_authority.ensures c.threads_never_hold_more.ensures c.threads_map_as_they_hold.ensures
    c.threads_map_as_they_may_read.ensures c.queues_are_used.ensures c.words_of_data_stay.ensures c.a_tick_stays_within_authority.ensures
    c.an_interrupt_stays_within_authority.ensures c.changes_of_a_part_agree.ensures.ticks c.signals_of_a_part_agree.ensures.interrupts
    c.others_have_nothing.ensures c.others_keep_agreement.ensures c.both_start_alike.ensures c.levels_run.ensures
