-- From the described state on, event by event.
use Rattle.headline.proofs.parts.GivenRuns.{always-given}
use Rattle.headline.proofs.parts.threads_never_hold_more.Goals as goal

pub returns : goal.returns
returns c = λ bytes image events accepted devices.
    always-given bytes image accepted c.slots_are_as_listed.ensures c.events_stay_within_authority.ensures events devices
