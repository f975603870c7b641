-- By authority an invocation changes no notification that was there and is: its call names none.
use Rattle.std.proofs.Common.{ℕ, ◌≡◌, ◌≢◌, ◌∙◌, inl, inr, Option, Some, None, Result, Ok, sym, ap, subst}
use Rattle.std.proofs.lemmas.Bool.Decides.{eqb_tells}
use Rattle.model.specs.declared.capabilities.Cap.{Cap}
use Rattle.model.specs.declared.capabilities.Cap.TheVariants.{InterruptHandler}
use Rattle.model.specs.declared.events.Event.TheVariants.{Step}
use Rattle.model.specs.declared.lookup_failures.LookupFailure.{LookupFailure}
use Rattle.model.specs.declared.system_calls.SystemCall.{SystemCall}
use Rattle.model.specs.Acceptance.Authority.{CallNames, NotificationChange, StaysWithin, WaitsFor, joins, passes_on, self_of, taken, waits}
use Rattle.model.specs.Capabilities.Slots.{capability_at}
use Rattle.model.specs.Images.Image.{Image, Thread}
use Rattle.model.specs.Kernel.Deliveries.{Signals, by_line, by_right}
use Rattle.model.specs.Kernel.Scheduling.{current}
use Rattle.model.specs.Kernel.State.{NotificationObject, NotificationState, State}
use Rattle.model.specs.Kernel.Steps.{named_slot}
use Rattle.headline.specs.calls.Messages.{IsInvoked}
use Rattle.headline.specs.invocations.Invoking.{Invokes}

module _ (image : Image) (s after : State) (thread : ℕ) (i : Invokes s thread)
    (line : (number : ℕ) → capability_at s.slots i.slot ≢ InterruptHandler number) where
  -- the capability that a call of the thread names is the one that is invoked
  same-slot : (u : Thread) → self_of image u ≡ thread → (slot : ℕ) → named_slot s (self_of image u) ≡ Ok slot → slot ≡ i.slot
  same-slot u is slot named =
      let both : ◌≡◌ {A = Result ℕ LookupFailure} (Ok slot) (Ok i.slot) = sym named ∙ ap (named_slot s) is ∙ i.named in cc

  no-bell : (offset : ℕ) (call : SystemCall) (capability : Cap) → IsInvoked capability → WaitsFor offset call capability → ⊥
  no-bell offset call capability invoked w = subst IsInvoked w.is invoked

  no-signal : (offset badge : ℕ) (call : SystemCall) (capability : Cap) → IsInvoked capability → ((number : ℕ) → capability ≢ InterruptHandler number)
      → Signals s after offset badge call capability → ⊥
  no-signal offset badge call capability invoked none (by_right allowed sends is writes) = subst IsInvoked is invoked
  no-signal offset badge call capability invoked none (by_line number sends is bound pending gone) = none number is

  module _ (u : Thread) (is : self_of image u ≡ thread) where
    none-signals : (offset badge : ℕ) → CallNames image u s (Signals s after offset badge) → ⊥
    none-signals offset badge names =
        let at = same-slot u is names.slot names.named in
        no-signal offset badge names.call (capability_at s.slots i.slot) i.invoked line
        (subst (λ (n : ℕ). Signals s after offset badge names.call (capability_at s.slots n)) at names.such)

    none-waits : (offset : ℕ) → CallNames image u s (WaitsFor offset) → ⊥
    none-waits offset names =
        let at = same-slot u is names.slot names.named in
        no-bell offset names.call (capability_at s.slots i.slot) i.invoked
        (subst (λ (n : ℕ). WaitsFor offset names.call (capability_at s.slots n)) at names.such)

    none-changes : (offset : ℕ) (old new : NotificationState) → NotificationChange image u s after offset old new → ⊥
    none-changes offset old new (joins badge names nobody so) = none-signals offset badge names
    none-changes offset old new (passes_on badge first names list word gone) = none-signals offset badge names
    none-changes offset old new (taken names so) = none-waits offset names
    none-changes offset old new (waits names so) = none-waits offset names

  pub same-word : current s ≡ Some thread → (offset : ℕ) (old new : NotificationState) → s.objects offset ≡ Some (NotificationObject old)
      → after.objects offset ≡ Some (NotificationObject new) → StaysWithin image s Step after → new.word ≡ old.word
  same-word now offset old new was is (inl idle) =
      absurd (let clash : ◌≡◌ {A = Option ℕ} None (Some thread) = sym idle.0 ∙ now in cc)
  same-word now offset old new was is (inr own) = elim (eqb_tells new.word old.word) [
    | inl same ↦ same.1
    | inr apart ↦
        let self : self_of image own.thread ≡ thread = (let both : ◌≡◌ {A = Option ℕ} (Some (self_of image own.thread)) (Some thread) = sym own.runs
        ∙ now in cc) in
        absurd (none-changes own.thread self offset old new
        (own.within.notifications offset old new was is (λ same. apart.1 (sym (ap (λ (n : NotificationState). n.word) same)))))
  ]
