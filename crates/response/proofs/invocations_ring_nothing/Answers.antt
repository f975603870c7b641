-- By authority.
use Rattle.model.specs.Images.Described.{described}
use Rattle.model.specs.Kernel.Steps.{state_after, step}
use Rattle.model.specs.declared.events.Event.TheVariants.{Step}
use Rattle.model.specs.Acceptance.ThreadInvariants.{tcb_of}
use Rattle.response.proofs.Invoked.{same-word}
use Rattle.response.proofs.invocations_ring_nothing.Goals as goal

pub returns : goal.returns
returns c = λ bytes image events t offset old new accepted devices listed now i line was is.
    same-word image (state_after (described image) events) (step (state_after (described image) events) Step).0
    (tcb_of image t) i line now offset old new was is
    (c.events_stay_within_authority.ensures bytes image events Step accepted devices)
