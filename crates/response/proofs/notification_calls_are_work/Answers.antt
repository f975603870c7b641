-- By what each call leaves of the thread that makes it, and authority for all else.
use Rattle.std.proofs.Common.{◌∙◌, [], ◌∷◌, ◌++◌, ap, sym}
use Rattle.model.specs.declared.events.Event.TheVariants.{Step}
use Rattle.model.specs.Images.Described.{described}
use Rattle.model.specs.Kernel.Interrupts.{binding}
use Rattle.model.specs.Kernel.State.{State}
use Rattle.model.specs.Kernel.Steps.{state_after, trace}
use Rattle.headline.proofs.Laws.{state-next}
use Rattle.response.proofs.OneCall.{falls-so, one-more-falls}
use Rattle.response.proofs.OneMore.{keeps-more}
use Rattle.response.proofs.Quietly.{meets-none}
use Rattle.response.proofs.notification_calls_are_work.Goals as goal

pub returns : goal.returns
returns c = λ bytes image priority w accepted pays alone events devices t listed level now makes.
    one-more-falls image priority w events
    (falls-so c.laws_on_invocations.ensures c.steps_go_well.ensures c.threads_are_told_apart.ensures bytes image accepted priority w pays
    (λ u among of_level. meets-none image priority alone u among of_level) (state_after (described image) events) (trace (described image) events)
    (c.events_go_well.ensures bytes image events accepted devices).stand (c.events_stay_within_authority.ensures bytes image events Step accepted devices)
    (λ u queue n others among is first. c.waiters_take.ensures bytes image events u queue n others accepted devices among is first)
    (λ number few. ap (λ (s : State). binding s number) (sym (state-next (described image) events Step))
    ∙ c.bindings_stay.ensures bytes image (events ++ Step ∷ []) number accepted (keeps-more image events devices) few
    ∙ sym (c.bindings_stay.ensures bytes image events number accepted devices few)) t listed now makes level
    (c.who_runs_has_left.ensures bytes image events t accepted devices listed now))
