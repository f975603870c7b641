-- What the instruction writes.
use Rattle.headline.proofs.authority.PlainStanding.{plain-stands}
use Rattle.headline.proofs.authority.standing_laws.instructions_stay_within_authority.Goals as goal

pub returns : goal.returns
returns c = λ bytes image t s labels accepted all listed now free.
    plain-stands c.laws_below.ensures c.plain_steps_keep_threads.ensures.any_state c.instructions_write_where_stores_may.ensures
    c.stores_touch_no_thread.ensures
    bytes image t s labels accepted all listed now free
