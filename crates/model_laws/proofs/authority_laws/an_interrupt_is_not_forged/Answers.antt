-- A signal by a handler is of an interrupt that is pending, and a line is opened, or closed as that is delivered.
use Rattle.std.proofs.Common.{◌≡◌, true, false, inl, inr, sym, ◌∙◌}
use Rattle.model.specs.declared.capabilities.Cap.TheVariants.{Endpoint, InterruptHandler}
use Rattle.model.specs.Acceptance.Authority.{CallNames, opens, delivers, self_of}
use Rattle.model.specs.Capabilities.Slots.{capability_at}
use Rattle.model_laws.proofs.Reasons.{idle-line, named-capability, nothing_signalled}
use Rattle.model_laws.proofs.authority_laws.an_interrupt_is_not_forged.Goals as goal

pub returns-clause-signal : goal.returns-clause-signal
returns-clause-signal c = λ image t s after slot other notification number old new apart named holds idle before waits behind differ stays within.
    nothing_signalled s after (self_of image t) (CallNames image t s) other notification old new waits stays
    (λ e b h. let same : Endpoint e h.such.allowed b ≡ InterruptHandler number = sym h.such.is
    ∙ named-capability s (self_of image t) h.slot slot h.named named ∙ holds in cc)
    (λ e h. let same : Endpoint e h.such.allowed h.such.badge ≡ InterruptHandler number = sym h.such.is
    ∙ named-capability s (self_of image t) h.slot slot h.named named ∙ holds in cc)
    (λ n b h. idle-line s after n b number h.call (capability_at s.slots h.slot)
    (named-capability s (self_of image t) h.slot slot h.named named ∙ holds) idle h.such)
    (within.threads other old new apart before behind differ)

pub returns-clause-pending : goal.returns-clause-pending
returns-clause-pending c = λ image t s after number before behind within.
    elim (within.lines number (inr (λ same. let e : false ≡ true = sym before ∙ same ∙ behind in cc))).1 [
      | opens why open_now same ↦ let e : false ≡ true = sym before ∙ sym same ∙ behind in cc
      | delivers n b bound told was none closed_now ↦ let e : true ≡ false = sym behind ∙ none in cc
    ]

pub returns-clause-masks : goal.returns-clause-masks
returns-clause-masks c = λ image t s after number idle before behind within.
    elim (within.lines number (inl (λ same. let e : false ≡ true = sym before ∙ same ∙ behind in cc))).1 [
      | opens why open_now same ↦ let e : true ≡ false = sym behind ∙ open_now in cc
      | delivers n b bound told was none closed_now ↦ let e : false ≡ true = sym idle ∙ was in cc
    ]
