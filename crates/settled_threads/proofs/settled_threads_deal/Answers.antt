-- At its input it has acknowledged the line, and it is masked where an interrupt is pending.
use Rattle.model.specs.Images.Described.{described}
use Rattle.model.specs.Kernel.Steps.{state_after, trace}
use Rattle.headline.proofs.Laws.{given}
use Rattle.response.proofs.Laws.{dealt-with}
use Rattle.settled_threads.proofs.AtBell.{takes-there, word-none}
use Rattle.settled_threads.proofs.settled_threads_deal.Goals as goal

pub returns : goal.returns
returns c = λ bytes image priority settling number events accepted devices few settled rests a input.
    let all = (c.events_go_well.ensures bytes image events accepted devices).stand in
    let waits = c.settled_threads_rest.ensures bytes image priority settling events a.thread a.queue accepted devices settled rests a.listed input in
    dealt-with c.laws_on_invocations.ensures c.steps_go_well.ensures c.threads_are_told_apart.ensures bytes image accepted number a
    (λ u among.
    given bytes image u (λ k point state at known. c.measures_of_points_name_registers.ensures image k u point state accepted.spelled.fits at known) accepted
    among)
    c.a_tick_stays_within_authority.ensures c.an_interrupt_stays_within_authority.ensures
    (λ before kept. (c.events_go_well.ensures bytes image before accepted kept).stand)
    (λ before event kept. c.events_stay_within_authority.ensures bytes image before event accepted kept)
    (λ before kept u queue n others among is first. c.waiters_take.ensures bytes image before u queue n others accepted kept among is first)
    (λ before kept. c.bindings_stay.ensures bytes image before number accepted kept few) events devices
    (takes-there c.laws_on_invocations.ensures.below bytes image (state_after (described image) events) (trace (described image) events) accepted all number a
    (c.bindings_stay.ensures bytes image events number accepted devices few) waits)
    (λ n is. word-none image (state_after (described image) events) a.thread a.queue waits n is)
