-- From the start on, where each thread runs, over one event after another.
use Rattle.std.proofs.Common.{Option, ap}
use Rattle.model.specs.Kernel.State.{Object}
use Rattle.headline.proofs.Laws.{given, is-listed}
use Rattle.response.proofs.Laws.{thread-of}
use Rattle.settled_threads.proofs.OwedEvents.{owed-after}
use Rattle.settled_threads.proofs.callers_are_owed.Goals as goal

pub returns : goal.returns
returns c = λ bytes image events t endpoint badge accepted devices listed a.
    owed-after c.an_instruction_takes_an_edge.ensures c.mapped_accesses_do_not_fault.ensures c.decoded_fields_lie_in_their_ranges.ensures
    c.laws_on_invocations.ensures c.steps_go_well.ensures c.threads_are_told_apart.ensures bytes image accepted endpoint badge a
    (λ u among.
    given bytes image u (λ k point state at known. c.measures_of_points_name_registers.ensures image k u point state accepted.spelled.fits at known) accepted
    among)
    c.a_tick_stays_within_authority.ensures c.an_interrupt_stays_within_authority.ensures
    (λ before kept. (c.events_go_well.ensures bytes image before accepted kept).stand)
    (λ before event kept. c.events_stay_within_authority.ensures bytes image before event accepted kept)
    (λ before kept u among. c.threads_wait_where_they_asked.ensures bytes image before u accepted kept among)
    (λ u among. ap (λ (o : Option Object). (thread-of o).status)
    (c.threads_are_as_listed.ensures image u.thread accepted.spelled.fits accepted.formed (is-listed image u among))) events devices t listed
