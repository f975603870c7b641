-- From the described state on, where threads map nothing, event by event.
use Rattle.model.specs.Acceptance.Devices.{KeepsDevices}
use Rattle.model.specs.Images.Described.{described}
use Rattle.model.specs.Kernel.Steps.{trace}
use Rattle.headline.proofs.Laws.{all-front, step-stays}
use Rattle.part_laws.proofs.own_steps.MappedReads.{all-read, starts-none}
use Rattle.part_laws.proofs.own_steps.threads_map_as_they_may_read.Goals as goal

pub returns : goal.returns
returns c = λ bytes image events accepted devices.
    all-read bytes image accepted events
    (λ front rest is.
    let kept = all-front (KeepsDevices image) events front rest devices is in
    record {
      labels = trace (described image) front;
      stand = (c.events_go_well.ensures bytes image front accepted kept).stand;
      within = λ event. c.events_stay_within_authority.ensures bytes image front event accepted kept;
    })
    (λ s labels all maps.
    step-stays c.laws_on_invocations.ensures c.plain_steps_keep_threads.ensures.any_state c.instructions_write_where_stores_may.ensures
    c.stores_touch_no_thread.ensures bytes image s labels accepted all maps)
    (starts-none bytes image accepted c.slots_are_as_listed.ensures)
