-- By authority.
use Rattle.std.proofs.Common.{◌∙◌, [], ◌∷◌, ◌++◌, ap, sym}
use Rattle.model.specs.declared.events.Event.TheVariants.{Step}
use Rattle.model.specs.Images.Described.{described}
use Rattle.model.specs.Kernel.Interrupts.{binding}
use Rattle.model.specs.Kernel.State.{State}
use Rattle.headline.proofs.Laws.{state-next}
use Rattle.response.proofs.OneCall.{one-more-rests}
use Rattle.response.proofs.OneMore.{keeps-more, step-below}
use Rattle.response.proofs.Quietly.{meets-none}
use Rattle.response.proofs.notification_steps_below_rest.Goals as goal

pub returns : goal.returns
returns c = λ bytes image priority w is_taken is_open most accepted pays alone taken acknowledged fit rest events devices t listed below now.
    one-more-rests image priority w events most
    (step-below c.laws_on_invocations.ensures c.steps_go_well.ensures c.threads_are_told_apart.ensures bytes image accepted priority w pays
    (λ u among of_level. meets-none image priority alone u among of_level) events
    (c.events_go_well.ensures bytes image events accepted devices).stand (c.events_stay_within_authority.ensures bytes image events Step accepted devices)
    (λ u queue n others among is first. c.waiters_take.ensures bytes image events u queue n others accepted devices among is first)
    (λ number few. ap (λ (s : State). binding s number) (sym (state-next (described image) events Step))
    ∙ c.bindings_stay.ensures bytes image (events ++ Step ∷ []) number accepted (keeps-more image events devices) few
    ∙ sym (c.bindings_stay.ensures bytes image events number accepted devices few)) t listed now
    (λ number few. c.bindings_stay.ensures bytes image events number accepted devices few) below
    (λ u among of_level may. c.levels_run.ensures bytes image events priority u accepted devices among of_level may) is_taken is_open taken acknowledged
    (λ u queue n among one rests is. c.no_word_at_rest.ensures bytes image events u queue n accepted devices among one rests is)
    (λ number few a rests. (c.acknowledged_lines_rest.ensures bytes image priority number events accepted devices few a rests).silent) most fit rest)
