-- At its take the thread has acknowledged the line, and it is masked where an interrupt is pending.
use Rattle.model.specs.Images.Described.{described}
use Rattle.model.specs.Kernel.Steps.{state_after, trace}
use Rattle.headline.proofs.Laws.{given}
use Rattle.response.proofs.AtRest.{no-word, rests-to-take}
use Rattle.response.proofs.TendedLines.{dealt-with}
use Rattle.response.proofs.acknowledged_lines_rest.Goals as goal

pub returns : goal.returns
returns c = λ bytes image priority number events accepted devices few a rests.
    dealt-with c.laws_on_invocations.ensures c.steps_go_well.ensures c.threads_are_told_apart.ensures bytes image accepted number a.tended
    (λ u among.
    given bytes image u (λ k point state at known. c.measures_of_points_name_registers.ensures image k u point state accepted.spelled.fits at known) accepted
    among)
    c.a_tick_stays_within_authority.ensures c.an_interrupt_stays_within_authority.ensures
    (λ before kept. (c.events_go_well.ensures bytes image before accepted kept).stand)
    (λ before event kept. c.events_stay_within_authority.ensures bytes image before event accepted kept)
    (λ before kept u queue n others among is first. c.waiters_take.ensures bytes image before u queue n others accepted kept among is first)
    (λ before kept. c.bindings_stay.ensures bytes image before number accepted kept few) events devices
    (rests-to-take c.laws_on_invocations.ensures.below bytes image (state_after (described image) events) (trace (described image) events) accepted
    (c.events_go_well.ensures bytes image events accepted devices).stand a.tended.thread a.tended.listed a.tended.queue a.one rests)
    (λ n is. no-word c.laws_on_invocations.ensures.below bytes image (state_after (described image) events) (trace (described image) events) accepted
    (c.events_go_well.ensures bytes image events accepted devices).stand a.tended.thread a.tended.listed a.tended.queue a.one n is rests)
