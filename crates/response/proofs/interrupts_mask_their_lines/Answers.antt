-- As raising one says.
use Rattle.std.proofs.Common.{◌∙◌, ap}
use Rattle.model.specs.declared.events.Event.TheVariants.{Irq}
use Rattle.model.specs.Images.Described.{described}
use Rattle.model.specs.Kernel.State.{State}
use Rattle.model.specs.Kernel.Steps.{state_after}
use Rattle.headline.proofs.Laws.{state-next}
use Rattle.response.proofs.Masks.{raise-masks}
use Rattle.response.proofs.interrupts_mask_their_lines.Goals as goal

pub returns : goal.returns
returns c = λ bytes image priority number events accepted devices few a.
    ap (λ (s : State). s.masked number)
    (state-next (described image) events (Irq number) ∙ c.events_stay_within_authority.ensures bytes image events (Irq number) accepted devices)
    ∙ raise-masks (state_after (described image) events) number (record { notification = a.tended.queue; badge = a.tended.badge }) few
    (c.bindings_stay.ensures bytes image events number accepted devices few ∙ a.tended.bound)
