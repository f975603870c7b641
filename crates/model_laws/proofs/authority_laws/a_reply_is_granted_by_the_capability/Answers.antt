-- A right to reply comes with a capability that grants it.
use Rattle.std.proofs.Common.{◌≡◌, true, false, sym, ap, ◌∙◌}
use Rattle.model.specs.declared.capabilities.Cap.TheVariants.{Endpoint}
use Rattle.model.specs.Acceptance.Authority.{CallNames, self_of}
use Rattle.model.specs.Capabilities.Rights.{may_grant_reply}
use Rattle.model_laws.proofs.Reasons.{granted-by, named-capability, third_differs}
use Rattle.model_laws.proofs.authority_laws.a_reply_is_granted_by_the_capability.Goals as goal

pub returns : goal.returns
returns c = λ image t s after slot other endpoint badge r old new apart named holds none before waits nobody behind has within.
    granted-by s after (self_of image t) (CallNames image t s) other endpoint old new waits nobody has
    (λ e b h. let same : Endpoint e h.such.allowed b ≡ Endpoint endpoint r badge = sym h.such.is
    ∙ named-capability s (self_of image t) h.slot slot h.named named ∙ holds in
    let rights_same : h.such.allowed ≡ r = cc in
    let clash : true ≡ false = sym h.such.replies ∙ ap may_grant_reply rights_same ∙ none in cc)
    (within.threads other old new apart before behind (third_differs old new (self_of image t) nobody has))
