-- The laws together are an economy.
use Rattle.response.proofs.Whole.{whole}
use Rattle.response.proofs.levels_rest_within.Goals as goal

pub returns-clause-start : goal.returns-clause-start
returns-clause-start c = λ bytes image priority w rates is_taken is_open most n events accepted devices pays alone acknowledged have calls below start
    rest keeps stands.
    c.economies_bound.ensures.start image priority rates _ most n _ events
    (whole image priority w rates most events is_taken is_open rest devices
    (λ before kept. (_, (c.events_go_well.ensures bytes image before accepted kept).stand))
    (λ u t a b same. c.threads_have_their_own_blocks.ensures bytes image u t accepted a b same)
    (λ before kept number few. c.bindings_stay.ensures bytes image before number accepted kept few)
    (λ before kept t listed level may. c.levels_run.ensures bytes image before priority t accepted kept listed level may)
    (λ s of. c.levels_are_seen.ensures image s priority of)
    (λ before kept t listed level now free. c.plain_steps_are_work.ensures bytes image priority w before t accepted kept pays listed level now free)
    (λ before kept t listed level now makes. calls before kept t listed level now makes)
    (λ before kept t listed other now. below before kept t listed other now)
    (λ before kept. c.ticks_leave_the_work.ensures bytes image priority w before accepted kept)
    (λ before address word. c.the_world_leaves_the_work.ensures.writes image priority w before address word)
    (λ before address. c.the_world_leaves_the_work.ensures.looks image priority w before address)
    (λ before kept number. c.interrupts_cost.ensures.cost bytes image priority w before number accepted kept pays)
    (λ before kept number is. c.interrupts_cost.ensures.beyond bytes image priority w before number accepted kept pays is) have alone acknowledged
    (λ before kept t queue n listed one rests at. c.no_word_at_rest.ensures bytes image before t queue n accepted kept listed one rests at)
    (λ before kept number few a rests. (c.acknowledged_lines_rest.ensures bytes image priority number before accepted kept few a rests).silent))
    start keeps stands

pub returns-clause-later : goal.returns-clause-later
returns-clause-later c = λ bytes image priority w rates is_taken is_open most n events accepted devices pays alone acknowledged have calls below rest
    keeps stands.
    c.economies_bound.ensures.later image priority rates _ most n _ events
    (whole image priority w rates most events is_taken is_open rest devices
    (λ before kept. (_, (c.events_go_well.ensures bytes image before accepted kept).stand))
    (λ u t a b same. c.threads_have_their_own_blocks.ensures bytes image u t accepted a b same)
    (λ before kept number few. c.bindings_stay.ensures bytes image before number accepted kept few)
    (λ before kept t listed level may. c.levels_run.ensures bytes image before priority t accepted kept listed level may)
    (λ s of. c.levels_are_seen.ensures image s priority of)
    (λ before kept t listed level now free. c.plain_steps_are_work.ensures bytes image priority w before t accepted kept pays listed level now free)
    (λ before kept t listed level now makes. calls before kept t listed level now makes)
    (λ before kept t listed other now. below before kept t listed other now)
    (λ before kept. c.ticks_leave_the_work.ensures bytes image priority w before accepted kept)
    (λ before address word. c.the_world_leaves_the_work.ensures.writes image priority w before address word)
    (λ before address. c.the_world_leaves_the_work.ensures.looks image priority w before address)
    (λ before kept number. c.interrupts_cost.ensures.cost bytes image priority w before number accepted kept pays)
    (λ before kept number is. c.interrupts_cost.ensures.beyond bytes image priority w before number accepted kept pays is) have alone acknowledged
    (λ before kept t queue n listed one rests at. c.no_word_at_rest.ensures bytes image before t queue n accepted kept listed one rests at)
    (λ before kept number few a rests. (c.acknowledged_lines_rest.ensures bytes image priority number before accepted kept few a rests).silent))
    keeps stands
