-- By what each call leaves of the thread that makes it, and authority for all else.
use Rattle.std.proofs.Common.{ℕ, ◌∙◌, ◌+◌, ◌≤◌, [], ◌∷◌, ◌++◌, ap, sym, subst}
use Rattle.model.specs.declared.events.Event.TheVariants.{Step}
use Rattle.model.specs.Images.Described.{described}
use Rattle.model.specs.Kernel.Interrupts.{binding}
use Rattle.model.specs.Kernel.State.{State}
use Rattle.model.specs.Kernel.Steps.{state_after, trace}
use Rattle.headline.proofs.Laws.{state-next}
use Rattle.response.specs.Owed.{work_after}
use Rattle.response.proofs.MessageSteps.{work-next}
use Rattle.response.proofs.OneMessage.{works-so}
use Rattle.response.proofs.OneMore.{keeps-more}
use Rattle.response.proofs.calls_are_work.Goals as goal

pub returns : goal.returns
returns c = λ bytes image priority w events t accepted devices pays answers listed level now makes.
    subst (λ (n : ℕ). n + 1 ≤ work_after image priority w events) (sym (work-next image priority w events))
    (works-so c.laws_on_invocations.ensures c.steps_go_well.ensures c.threads_are_told_apart.ensures bytes image accepted
    (state_after (described image) events) (trace (described image) events)
    (c.events_go_well.ensures bytes image events accepted devices).stand (c.events_stay_within_authority.ensures bytes image events Step accepted devices)
    t listed now makes priority w pays answers
    (λ u queue n others among is first. c.waiters_take.ensures bytes image events u queue n others accepted devices among is first)
    (λ u among. c.threads_wait_where_they_asked.ensures bytes image events u accepted devices among)
    (λ number few. ap (λ (s : State). binding s number) (sym (state-next (described image) events Step))
    ∙ c.bindings_stay.ensures bytes image (events ++ Step ∷ []) number accepted (keeps-more image events devices) few
    ∙ sym (c.bindings_stay.ensures bytes image events number accepted devices few)) level
    (c.who_runs_has_left.ensures bytes image events t accepted devices listed now))
