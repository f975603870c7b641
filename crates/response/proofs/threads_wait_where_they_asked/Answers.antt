-- From the start on, where each thread runs, over one event after another.
use Rattle.std.proofs.Common.{Option, ap}
use Rattle.model.specs.Kernel.State.{Object}
use Rattle.headline.proofs.Laws.{is-listed}
use Rattle.response.proofs.AskedEvents.{asked-after}
use Rattle.response.proofs.Interrupts.{thread-of}
use Rattle.response.proofs.threads_wait_where_they_asked.Goals as goal

pub returns : goal.returns
returns c = λ bytes image events t accepted devices listed.
    asked-after c.laws_on_invocations.ensures c.steps_go_well.ensures c.threads_are_told_apart.ensures bytes image accepted
    c.a_tick_stays_within_authority.ensures c.an_interrupt_stays_within_authority.ensures
    (λ before kept. (c.events_go_well.ensures bytes image before accepted kept).stand)
    (λ before event kept. c.events_stay_within_authority.ensures bytes image before event accepted kept)
    (λ u among. ap (λ (o : Option Object). (thread-of o).status)
    (c.threads_are_as_listed.ensures image u.thread accepted.spelled.fits accepted.formed (is-listed image u among))) events devices t listed
