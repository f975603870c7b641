-- From the described state on, one event after another.
use Rattle.headline.proofs.authority.StandingRuns.{run-within}
use Rattle.headline.proofs.authority.standing_laws.events_stay_within_authority.Goals as goal

pub returns : goal.returns
returns c = λ bytes image before event accepted devices.
    run-within c.laws_on_invocations.ensures c.plain_steps_keep_threads.ensures.any_state c.instructions_write_where_stores_may.ensures
    c.stores_touch_no_thread.ensures c.events_keep_all_standing.ensures bytes image accepted (c.all_stand_at_the_start.ensures bytes image accepted)
    before event devices
