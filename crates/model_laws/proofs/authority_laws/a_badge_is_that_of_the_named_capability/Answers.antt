-- The slot that the call names holds one capability, and so one badge.
use Rattle.std.proofs.Common.{◌≡◌, Ok, Err, sym, ◌∙◌}
use Rattle.model.specs.declared.capabilities.Cap.TheVariants.{Endpoint, Notification}
use Rattle.model.specs.Acceptance.Authority.{CallNames, self_of}
use Rattle.model.specs.Capabilities.Slots.{capability_at}
use Rattle.model_laws.proofs.Reasons.{named-capability, no-signal, nothing_reached, one-signal, receivers_badge, waiters_badge}
use Rattle.model_laws.proofs.authority_laws.a_badge_is_that_of_the_named_capability.Goals as goal

pub returns-clause-endpoint : goal.returns-clause-endpoint
returns-clause-endpoint c = λ image t s after slot other endpoint badge r old new differ named holds is waits nobody now changed stays wrong within.
    wrong (receivers_badge s after (self_of image t) (CallNames image t s) other endpoint badge old new waits nobody stays
    (λ e b h. let same : Endpoint e h.such.allowed b ≡ Endpoint endpoint r badge = sym h.such.is
    ∙ named-capability s (self_of image t) h.slot slot h.named named ∙ holds in cc)
    (λ n b h. no-signal s after n b endpoint badge r h.call (capability_at s.slots h.slot)
    (named-capability s (self_of image t) h.slot slot h.named named ∙ holds) h.such)
    (within.threads other old new differ is now changed))

pub returns-clause-notification : goal.returns-clause-notification
returns-clause-notification c = λ image t s after slot other notification badge r old new differ named holds is waits now changed stays wrong within.
    wrong (waiters_badge s after (self_of image t) (CallNames image t s) other notification badge old new waits stays
    (λ n b h. one-signal s after n b notification badge r h.call (capability_at s.slots h.slot)
    (named-capability s (self_of image t) h.slot slot h.named named ∙ holds)
    h.such)
    (λ e b h. let same : Endpoint e h.such.allowed b ≡ Notification notification r badge = sym h.such.is
    ∙ named-capability s (self_of image t) h.slot slot h.named named ∙ holds in cc)
    (λ e h. let same : Endpoint e h.such.allowed h.such.badge ≡ Notification notification r badge = sym h.such.is
    ∙ named-capability s (self_of image t) h.slot slot h.named named ∙ holds in cc)
    (within.threads other old new differ is now changed))

pub returns-clause-nothing : goal.returns-clause-nothing
returns-clause-nothing c = λ image t s after other queue failure old new differ named is waits now changed stays within.
    nothing_reached s after (self_of image t) (CallNames image t s) other queue old new waits stays
    (λ Such h. let f : Ok h.slot ≡ Err failure = sym h.named ∙ named in cc)
    (within.threads other old new differ is now changed)
