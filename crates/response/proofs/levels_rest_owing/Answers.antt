-- The laws together are an economy of all work.
use Rattle.std.proofs.Common.{Option, ap, arith}
use Rattle.model.specs.declared.events.Event.TheVariants.{Irq, Read, Step, Tick, Write}
use Rattle.model.specs.Images.Described.{described}
use Rattle.model.specs.Kernel.State.{Object}
use Rattle.model.specs.Kernel.Steps.{state_after}
use Rattle.headline.proofs.Laws.{is-listed}
use Rattle.response.specs.Left.{line_price}
use Rattle.response.proofs.Interrupts.{thread-of}
use Rattle.response.proofs.MessageRests.{owes-so}
use Rattle.response.proofs.WholeWork.{whole-work}
use Rattle.response.proofs.WorkEvents.{adds-up, look-owes, raise-owes, step-owes, tick-owes, work-at-start, write-owes}
use Rattle.response.proofs.levels_rest_owing.Goals as goal

pub returns-clause-start : goal.returns-clause-start
returns-clause-start c = λ bytes image priority w rates is_taken is_open owed_most most n events accepted devices pays answers owe quiet fit
    have start rest keeps stands.
    c.economies_bound.ensures.start image priority rates _ most n _ events
    (whole-work image priority w rates most events is_taken is_open owed_most
    (λ before kept rests. owes-so c.laws_on_invocations.ensures.below bytes image accepted priority w is_taken is_open owed_most owe quiet before kept
    (c.events_go_well.ensures bytes image before accepted kept).stand
    (λ u among. c.threads_wait_where_they_asked.ensures bytes image before u accepted kept among) rests) rest devices
    (λ before kept. (_, (c.events_go_well.ensures bytes image before accepted kept).stand))
    (λ u t a b same. c.threads_have_their_own_blocks.ensures bytes image u t accepted a b same)
    (λ before kept number few. c.bindings_stay.ensures bytes image before number accepted kept few)
    (λ before kept t listed level may. c.levels_run.ensures bytes image before priority t accepted kept listed level may)
    (λ s of. c.levels_are_seen.ensures image s priority of)
    (λ before kept t listed level now free.
    let less = c.plain_steps_are_work.ensures bytes image priority w before t accepted kept pays listed level now free in
    let more = adds-up image priority w before Step 1 0 (omega (arith, less))
    (step-owes c.laws_on_invocations.ensures c.steps_go_well.ensures c.threads_are_told_apart.ensures bytes image accepted priority w
    c.a_tick_stays_within_authority.ensures c.an_interrupt_stays_within_authority.ensures before
    (c.events_go_well.ensures bytes image before accepted kept).stand
    (λ event. c.events_stay_within_authority.ensures bytes image before event accepted kept) t listed now free) in
    omega (arith, more))
    (λ before kept t listed level now makes.
    c.calls_are_work.ensures bytes image priority w before t accepted kept pays answers listed level now makes)
    (λ before kept t listed other now.
    c.steps_below_rest_owing.ensures bytes image priority w is_taken is_open owed_most most before t accepted kept pays owe quiet fit rest
    listed other now)
    (λ before kept.
    let same = c.ticks_leave_the_work.ensures bytes image priority w before accepted kept in
    let more = adds-up image priority w before Tick 0 0 (omega (arith, same))
    (tick-owes c.laws_on_invocations.ensures c.steps_go_well.ensures c.threads_are_told_apart.ensures bytes image accepted priority w
    c.a_tick_stays_within_authority.ensures c.an_interrupt_stays_within_authority.ensures before
    (c.events_go_well.ensures bytes image before accepted kept).stand
    (λ event. c.events_stay_within_authority.ensures bytes image before event accepted kept)) in
    omega (arith, more))
    (λ before address word.
    let same = c.the_world_leaves_the_work.ensures.writes image priority w before address word in
    let more = adds-up image priority w before (Write address word) 0 0 (omega (arith, same)) (write-owes image priority w before address word) in
    omega (arith, more))
    (λ before address.
    let same = c.the_world_leaves_the_work.ensures.looks image priority w before address in
    let more = adds-up image priority w before (Read address) 0 0 (omega (arith, same)) (look-owes image priority w before address) in
    omega (arith, more))
    (λ before kept number.
    let less = c.interrupts_cost.ensures.cost bytes image priority w before number accepted kept pays in
    let more = adds-up image priority w before (Irq number) 0 (line_price w (state_after (described image) before) number) (omega (arith, less))
    (raise-owes c.laws_on_invocations.ensures c.steps_go_well.ensures c.threads_are_told_apart.ensures bytes image accepted priority w
    c.a_tick_stays_within_authority.ensures c.an_interrupt_stays_within_authority.ensures before
    (c.events_go_well.ensures bytes image before accepted kept).stand
    (λ event. c.events_stay_within_authority.ensures bytes image before event accepted kept) number) in
    omega (arith, more))
    (λ before kept number is.
    let less = c.interrupts_cost.ensures.beyond bytes image priority w before number accepted kept pays is in
    let more = adds-up image priority w before (Irq number) 0 0 (omega (arith, less))
    (raise-owes c.laws_on_invocations.ensures c.steps_go_well.ensures c.threads_are_told_apart.ensures bytes image accepted priority w
    c.a_tick_stays_within_authority.ensures c.an_interrupt_stays_within_authority.ensures before
    (c.events_go_well.ensures bytes image before accepted kept).stand
    (λ event. c.events_stay_within_authority.ensures bytes image before event accepted kept) number) in
    omega (arith, more)) have (λ before kept rests queue n here at. quiet.words before queue n kept rests here at)
    (λ before kept rests number few here. quiet.lines before number kept rests few here))
    (let none = work-at-start image priority w (λ u among. ap (λ (o : Option Object). (thread-of o).status)
    (c.threads_are_as_listed.ensures image u.thread accepted.spelled.fits accepted.formed (is-listed image u among))) in omega (arith, none, start))
    keeps stands

pub returns-clause-later : goal.returns-clause-later
returns-clause-later c = λ bytes image priority w rates is_taken is_open owed_most most n events accepted devices pays answers owe quiet fit
    have rest keeps stands.
    c.economies_bound.ensures.later image priority rates _ most n _ events
    (whole-work image priority w rates most events is_taken is_open owed_most
    (λ before kept rests. owes-so c.laws_on_invocations.ensures.below bytes image accepted priority w is_taken is_open owed_most owe quiet before kept
    (c.events_go_well.ensures bytes image before accepted kept).stand
    (λ u among. c.threads_wait_where_they_asked.ensures bytes image before u accepted kept among) rests) rest devices
    (λ before kept. (_, (c.events_go_well.ensures bytes image before accepted kept).stand))
    (λ u t a b same. c.threads_have_their_own_blocks.ensures bytes image u t accepted a b same)
    (λ before kept number few. c.bindings_stay.ensures bytes image before number accepted kept few)
    (λ before kept t listed level may. c.levels_run.ensures bytes image before priority t accepted kept listed level may)
    (λ s of. c.levels_are_seen.ensures image s priority of)
    (λ before kept t listed level now free.
    let less = c.plain_steps_are_work.ensures bytes image priority w before t accepted kept pays listed level now free in
    let more = adds-up image priority w before Step 1 0 (omega (arith, less))
    (step-owes c.laws_on_invocations.ensures c.steps_go_well.ensures c.threads_are_told_apart.ensures bytes image accepted priority w
    c.a_tick_stays_within_authority.ensures c.an_interrupt_stays_within_authority.ensures before
    (c.events_go_well.ensures bytes image before accepted kept).stand
    (λ event. c.events_stay_within_authority.ensures bytes image before event accepted kept) t listed now free) in
    omega (arith, more))
    (λ before kept t listed level now makes.
    c.calls_are_work.ensures bytes image priority w before t accepted kept pays answers listed level now makes)
    (λ before kept t listed other now.
    c.steps_below_rest_owing.ensures bytes image priority w is_taken is_open owed_most most before t accepted kept pays owe quiet fit rest
    listed other now)
    (λ before kept.
    let same = c.ticks_leave_the_work.ensures bytes image priority w before accepted kept in
    let more = adds-up image priority w before Tick 0 0 (omega (arith, same))
    (tick-owes c.laws_on_invocations.ensures c.steps_go_well.ensures c.threads_are_told_apart.ensures bytes image accepted priority w
    c.a_tick_stays_within_authority.ensures c.an_interrupt_stays_within_authority.ensures before
    (c.events_go_well.ensures bytes image before accepted kept).stand
    (λ event. c.events_stay_within_authority.ensures bytes image before event accepted kept)) in
    omega (arith, more))
    (λ before address word.
    let same = c.the_world_leaves_the_work.ensures.writes image priority w before address word in
    let more = adds-up image priority w before (Write address word) 0 0 (omega (arith, same)) (write-owes image priority w before address word) in
    omega (arith, more))
    (λ before address.
    let same = c.the_world_leaves_the_work.ensures.looks image priority w before address in
    let more = adds-up image priority w before (Read address) 0 0 (omega (arith, same)) (look-owes image priority w before address) in
    omega (arith, more))
    (λ before kept number.
    let less = c.interrupts_cost.ensures.cost bytes image priority w before number accepted kept pays in
    let more = adds-up image priority w before (Irq number) 0 (line_price w (state_after (described image) before) number) (omega (arith, less))
    (raise-owes c.laws_on_invocations.ensures c.steps_go_well.ensures c.threads_are_told_apart.ensures bytes image accepted priority w
    c.a_tick_stays_within_authority.ensures c.an_interrupt_stays_within_authority.ensures before
    (c.events_go_well.ensures bytes image before accepted kept).stand
    (λ event. c.events_stay_within_authority.ensures bytes image before event accepted kept) number) in
    omega (arith, more))
    (λ before kept number is.
    let less = c.interrupts_cost.ensures.beyond bytes image priority w before number accepted kept pays is in
    let more = adds-up image priority w before (Irq number) 0 0 (omega (arith, less))
    (raise-owes c.laws_on_invocations.ensures c.steps_go_well.ensures c.threads_are_told_apart.ensures bytes image accepted priority w
    c.a_tick_stays_within_authority.ensures c.an_interrupt_stays_within_authority.ensures before
    (c.events_go_well.ensures bytes image before accepted kept).stand
    (λ event. c.events_stay_within_authority.ensures bytes image before event accepted kept) number) in
    omega (arith, more)) have (λ before kept rests queue n here at. quiet.words before queue n kept rests here at)
    (λ before kept rests number few here. quiet.lines before number kept rests few here))
    keeps stands
