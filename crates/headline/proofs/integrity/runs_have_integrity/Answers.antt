-- By what is known after each beginning of the events.
use Rattle.model.specs.Acceptance.Devices.{KeepsDevices}
use Rattle.model.specs.Images.Described.{described}
use Rattle.model.specs.Kernel.Steps.{trace}
use Rattle.headline.proofs.Fronts.{all-front}
use Rattle.headline.proofs.facts.Laws.{is-listed}
use Rattle.headline.proofs.integrity.Runs.{has-integrity}
use Rattle.headline.proofs.integrity.Unmoved.{starts-so}
use Rattle.headline.proofs.integrity.runs_have_integrity.Goals as goal

pub returns : goal.returns
returns c = λ bytes image events accepted devices.
    has-integrity bytes image accepted events
    (λ front rest is.
    let kept = all-front (KeepsDevices image) events front rest devices is in
    record {
      labels = trace (described image) front;
      stand = (c.events_go_well.ensures bytes image front accepted kept).stand;
      given = c.threads_never_hold_more.ensures bytes image front accepted kept;
      mapped = c.threads_map_as_they_hold.ensures bytes image front accepted kept;
      within = λ event. c.events_stay_within_authority.ensures bytes image front event accepted kept;
    })
    (λ u among.
    starts-so image u (described image)
    (c.threads_are_as_listed.ensures image u.thread accepted.spelled.fits accepted.formed (is-listed image u among)))
