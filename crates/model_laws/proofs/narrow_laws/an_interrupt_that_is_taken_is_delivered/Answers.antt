-- By what becomes of a line.
use Rattle.std.proofs.Common.{◌≡◌, true, false, Option, Some, None, [], ◌∷◌, inl, inr, sym, ap, ◌∙◌}
use Rattle.std.specs.Option.{option_map_or}
use Rattle.std.specs.Prelude.{ℕ, bit_or}
use Rattle.model.specs.Kernel.Interrupts.{Signal}
use Rattle.model.specs.Kernel.State.{notification_at}
use Rattle.model.specs.Capabilities.Slots.{capability_at}
use Rattle.model.specs.declared.capabilities.Cap.TheVariants.{Endpoint, InterruptHandler}
use Rattle.model.specs.Acceptance.Authority.{CallNames, IsSignalled, delivers, joined, opens, self_of}
use Rattle.model_laws.proofs.Narrow.{kept-line}
use Rattle.model_laws.proofs.Reasons.{named-capability, nothing_signalled}
use Rattle.model_laws.proofs.narrow_laws.an_interrupt_that_is_taken_is_delivered.Goals as goal

pub returns-clause-masked : goal.returns-clause-masked
returns-clause-masked c = λ image t s after number was gone opened within.
    elim (within.lines number (inr (λ same. let e : true ≡ false = sym was ∙ same ∙ gone in cc))).1 [
      | opens why unmasked same ↦ let e : true ≡ false = sym was ∙ sym same ∙ gone in cc
      | delivers n b bound told pending none masked ↦ let e : true ≡ false = sym masked ∙ opened in cc
    ]

pub returns-clause-lost : goal.returns-clause-lost
returns-clause-lost c = λ image t s after number notification badge was gone bound nobody wrong within.
    elim (within.lines number (inr (λ same. let e : true ≡ false = sym was ∙ same ∙ gone in cc))).1 [
      | opens why unmasked same ↦ let e : true ≡ false = sym was ∙ sym same ∙ gone in cc
      | delivers n b also told pending none masked ↦
          let e : ◌≡◌ {A = Option Signal} (Some (record { notification = n; badge = b })) (Some (record { notification = notification; badge = badge })) =
          sym also ∙ bound in
          let one : n ≡ notification = ap (λ (o : Option Signal). option_map_or (λ signal. signal.notification) o 0) e in
          let two : b ≡ badge = ap (λ (o : Option Signal). option_map_or (λ signal. signal.badge) o 0) e in
          elim told [
            | joined there still empty is ↦
                wrong (ap (λ (x : ℕ). (notification_at after x).word) (sym one) ∙ is
                ∙ ap (λ (x : ℕ). bit_or (notification_at s x).word b) one ∙ ap (bit_or (notification_at s notification).word) two)
            | IsSignalled.passed first takes runs ↦
                let f : [] ≡ first ∷ (notification_at after n).waiters = sym (ap (λ (x : ℕ). (notification_at s x).waiters) one ∙ nobody) ∙ takes.leaves in cc
          ]
    ]

pub returns-clause-held : goal.returns-clause-held
returns-clause-held c = λ image t s after number notification badge was still bound differ within.
    elim (within.lines number (inl differ)).1 [
      | opens why unmasked same ↦ elim why [
        | inl idle ↦ let e : true ≡ false = sym was ∙ idle in cc
        | inr unbound ↦ let e : Some (record { notification = notification; badge = badge }) ≡ None = sym bound ∙ unbound in cc
      ]
      | delivers n b also told pending none masked ↦ let e : true ≡ false = sym still ∙ none in cc
    ]

pub returns-clause-kept : goal.returns-clause-kept
returns-clause-kept c = λ image t s after slot other notification number old new apart named holds still before waits behind differ stays within.
    nothing_signalled s after (self_of image t) (CallNames image t s) other notification old new waits stays
    (λ e b h. let same : Endpoint e h.such.allowed b ≡ InterruptHandler number = sym h.such.is
    ∙ named-capability s (self_of image t) h.slot slot h.named named ∙ holds in cc)
    (λ e h. let same : Endpoint e h.such.allowed h.such.badge ≡ InterruptHandler number = sym h.such.is
    ∙ named-capability s (self_of image t) h.slot slot h.named named ∙ holds in cc)
    (λ n b h. kept-line s after n b number h.call (capability_at s.slots h.slot)
    (named-capability s (self_of image t) h.slot slot h.named named ∙ holds) still h.such)
    (within.threads other old new apart before behind differ)
