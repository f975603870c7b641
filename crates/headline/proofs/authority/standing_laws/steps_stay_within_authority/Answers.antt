-- By what the thread does that runs.
use Rattle.headline.proofs.authority.StandingSteps.{StepIsWithin, step-within}
use Rattle.headline.proofs.authority.standing_laws.steps_stay_within_authority.Goals as goal

pub returns : goal.returns
returns c = λ bytes image s labels accepted all maps inside.
    StepIsWithin.within (step-within c.laws_on_invocations.ensures c.plain_steps_keep_threads.ensures.any_state
    c.instructions_write_where_stores_may.ensures c.stores_touch_no_thread.ensures bytes image s labels accepted all maps inside)
