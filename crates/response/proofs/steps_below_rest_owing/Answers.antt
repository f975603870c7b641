-- By authority, and by what a call leaves of a message.
use Rattle.std.proofs.Common.{ℕ, ◌∙◌, ◌≤◌, [], ◌∷◌, ◌++◌, ap, sym, subst}
use Rattle.model.specs.declared.events.Event.TheVariants.{Step}
use Rattle.model.specs.Images.Described.{described}
use Rattle.model.specs.Kernel.Interrupts.{binding}
use Rattle.model.specs.Kernel.State.{State}
use Rattle.headline.proofs.Laws.{state-next}
use Rattle.response.proofs.MessageSteps.{step-rests, work-next}
use Rattle.response.proofs.OneMore.{keeps-more}
use Rattle.response.proofs.steps_below_rest_owing.Goals as goal

pub returns : goal.returns
returns c = λ bytes image priority w is_taken is_open owed_most most events t accepted devices pays owe quiet fit rest listed below
    now.
    subst (λ (n : ℕ). n ≤ most) (sym (work-next image priority w events))
    (step-rests c.laws_on_invocations.ensures c.steps_go_well.ensures c.threads_are_told_apart.ensures bytes image accepted priority w pays events
    (c.events_go_well.ensures bytes image events accepted devices).stand (c.events_stay_within_authority.ensures bytes image events Step accepted devices)
    (λ u queue n others among is first. c.waiters_take.ensures bytes image events u queue n others accepted devices among is first)
    (λ u among. c.threads_wait_where_they_asked.ensures bytes image events u accepted devices among) is_taken owed_most owe
    (λ rests u among level. quiet.owed events u devices among level rests)
    (λ number few. ap (λ (s : State). binding s number) (sym (state-next (described image) events Step))
    ∙ c.bindings_stay.ensures bytes image (events ++ Step ∷ []) number accepted (keeps-more image events devices) few
    ∙ sym (c.bindings_stay.ensures bytes image events number accepted devices few)) t listed now
    (λ number few. c.bindings_stay.ensures bytes image events number accepted devices few) below
    (λ u among of_level may. c.levels_run.ensures bytes image events priority u accepted devices among of_level may) is_open
    (λ rests queue n here at. quiet.words events queue n devices rests here at) (λ rests queue e here at. quiet.messages events queue e devices rests here at)
    (λ rests number few here. quiet.lines events number devices rests few here) most fit rest)
