-- Both premises hold.
use Rattle.response.proofs.notification_levels_rest_within.Goals as goal

pub returns-clause-start : goal.returns-clause-start
returns-clause-start c = λ bytes image priority w rates is_taken is_open most n events accepted devices pays alone taken acknowledged fit have start rest
    keeps stands.
    c.levels_rest_within.ensures.start bytes image priority w rates is_taken is_open most n events accepted devices pays taken acknowledged have
    (c.notification_calls_are_work.ensures bytes image priority w accepted pays alone)
    (c.notification_steps_below_rest.ensures bytes image priority w is_taken is_open most accepted pays alone taken acknowledged fit rest) start rest
    keeps stands

pub returns-clause-later : goal.returns-clause-later
returns-clause-later c = λ bytes image priority w rates is_taken is_open most n events accepted devices pays alone taken acknowledged fit have rest keeps
    stands.
    c.levels_rest_within.ensures.later bytes image priority w rates is_taken is_open most n events accepted devices pays taken acknowledged have
    (c.notification_calls_are_work.ensures bytes image priority w accepted pays alone)
    (c.notification_steps_below_rest.ensures bytes image priority w is_taken is_open most accepted pays alone taken acknowledged fit rest) rest keeps stands
