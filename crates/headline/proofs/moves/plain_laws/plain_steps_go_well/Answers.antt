-- The step is the instruction's effect, and that touches no other thread.
use Rattle.headline.proofs.moves.PlainSteps.{plain-goes-well}
use Rattle.headline.proofs.moves.plain_laws.plain_steps_go_well.Goals as goal

pub returns : goal.returns
returns c = λ bytes image t s labels accepted all listed now free.
    plain-goes-well c.laws_below.ensures c.plain_steps_keep_threads.ensures.any_state c.instructions_write_where_stores_may.ensures
    c.stores_touch_no_thread.ensures
    bytes image t s labels accepted all listed now free
