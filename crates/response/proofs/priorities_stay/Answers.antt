-- From the start on, over one event after another.
use Rattle.std.proofs.Common.{refl}
use Rattle.headline.proofs.Laws.{is-listed}
use Rattle.response.proofs.Priorities.{stays}
use Rattle.response.proofs.priorities_stay.Goals as goal

pub returns : goal.returns
returns c = λ bytes image events t accepted devices listed.
    stays c.a_tick_stays_within_authority.ensures c.an_interrupt_stays_within_authority.ensures image t listed
    (λ before kept. (_, (c.events_go_well.ensures bytes image before accepted kept).stand))
    (λ before event kept. c.events_stay_within_authority.ensures bytes image before event accepted kept)
    (record { own = _; is = c.threads_are_as_listed.ensures image t.thread accepted.spelled.fits accepted.formed (is-listed image t listed); priority = refl })
    events devices
