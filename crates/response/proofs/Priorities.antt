-- No event changes a priority: what authority lets it change is never one.
use Rattle.std.proofs.Common.{ℕ, ◌≡◌, ◌≢◌, ◌∙◌, ◌++◌, ◌==◌, inl, inr, true, false, if◌then◌else◌, Option, Some, None, List, [], ◌∷◌, All, refl, sym, ap}
use Rattle.std.proofs.Common.{subst}
use Rattle.std.specs.Prelude.{Contains}
use Rattle.std.proofs.lemmas.Bool.Decides.{eqb_tells}
use Rattle.model.specs.declared.capabilities.Cap.{Cap}
use Rattle.model.specs.declared.events.Event.{Event}
use Rattle.model.specs.declared.events.Event.TheVariants.{Step, Tick, Irq, Write, Read}
use Rattle.model.specs.declared.system_calls.SystemCall.{SystemCall}
use Rattle.model.specs.Acceptance.Authority.{OwnStep, StaysWithin, self_of}
use Rattle.model.specs.Acceptance.Devices.{KeepsDevices}
use Rattle.model.specs.Acceptance.ThreadInvariants.{ThreadInvariant, runs, tcb_of, waits}
use Rattle.model.specs.Images.Described.{Numbered, described, numbered_threads}
use Rattle.model.specs.Images.Image.{Image}
use Rattle.model.specs.Kernel.Deliveries.{Reason, caller, faulted, once_handled, once_received, receiver, sender, set_back, waiter, woken}
use Rattle.model.specs.Kernel.Messages.{message_of, resumption}
use Rattle.model.specs.Kernel.Interrupts.{raise}
use Rattle.model.specs.Kernel.Scheduling.{current, tick}
use Rattle.model.specs.Kernel.Soundness.{IsSound}
use Rattle.model.specs.Kernel.State.{Inactive, NotificationObject, Object, Sender, Sent, BySend, ByCall, ByFault, State, ThreadObject, ThreadState, thread_at}
use Rattle.model.specs.Kernel.Steps.{place_of, state_after, step}
use Rattle.model.specs.declared.labels.Label.{Label}
use Rattle.soundness.specs.Machines.{SameBesideBytes}
use Rattle.soundness.proofs.Laws.{written-beside}
use Rattle.headline.proofs.Laws.{state-next}
use Rattle.headline.specs.authority.Events.{InterruptChange, WithinInterrupt, WithinTick, joins, passes_on, wakes}
use Rattle.headline.specs.facts.Standing.{AllStand}
use Rattle.response.specs.Levels.{HasItsPriority}
use Rattle.response.proofs.EachEvent.{holds-after}

-- ---- objects

same-thread : (o : Option Object) (a b : ThreadState) → o ≡ Some (ThreadObject a) → o ≡ Some (ThreadObject b) → b ≡ a
same-thread o a b first second =
    let both : Some (ThreadObject a) ≡ Some (ThreadObject b) = sym first ∙ second in
    let inside : ThreadObject a ≡ ThreadObject b = cc in cc

thread-is : (image : Image) (t : Numbered) (s : State) (labels : List Label) → ThreadInvariant image t s labels
    → (own : ThreadState) × (s.objects (tcb_of image t) ≡ Some (ThreadObject own))
thread-is image t s labels (runs own point state there status stands budget) = (own, there)
thread-is image t s labels (waits own point state there status stands asks none) = (own, there)

-- ---- why another thread changed

received-same : (first : Sender) (sent : Sent) (before : ThreadState) → (once_received first sent before).priority ≡ before.priority
received-same first BySend before = refl
received-same first ByCall before = refl
received-same first (ByFault fault) before = refl

handled-same : (handler before : ThreadState) → (once_handled handler before).priority ≡ before.priority
handled-same handler before = elim ((message_of handler).label == 0)
    as (λ b. (if b then woken before (record before.registers { pc = resumption before.registers.pc (message_of handler).words }) else
    record before { status = Inactive }).priority ≡ before.priority) [ true ↦ refl | false ↦ refl ]

abbrev priority : ThreadState → ℕ
priority t = t.priority

reason-same : (s after : State) (self : ℕ) (Named : (SystemCall → Cap → Type 0) → Type 0) (other : ℕ) (before changed : ThreadState)
    → Reason s after self Named other before changed → changed.priority ≡ before.priority
reason-same s after self Named other before changed (receiver endpoint badge asks queue status named may is arrives) = ap priority is
reason-same s after self Named other before changed (sender endpoint first queue thread status named is arrives) =
    ap priority is ∙ received-same first first.sent before
reason-same s after self Named other before changed (waiter notification badge queue status named is) = ap priority is
reason-same s after self Named other before changed (caller right status is arrives) = ap priority is
reason-same s after self Named other before changed (faulted right status is) = ap priority is ∙ handled-same (thread_at s self) before
reason-same s after self Named other before changed (set_back queue status was gone is) = ap priority is

-- ---- one event

module _ (ticks : (s : State) → IsSound s → WithinTick s (tick s))
    (interrupts : (s : State) → IsSound s → (number : ℕ) → WithinInterrupt number s (raise s number))
    (image : Image) (t : Numbered) (s after : State) (sound : IsSound s) (old new : ThreadState)
    (was : s.objects (tcb_of image t) ≡ Some (ThreadObject old)) (is : after.objects (tcb_of image t) ≡ Some (ThreadObject new)) where
  abbrev Same : Type 0
  Same = new.priority ≡ old.priority

  unchanged : after.objects (tcb_of image t) ≡ s.objects (tcb_of image t) → Same
  unchanged same = ap priority (same-thread (after.objects (tcb_of image t)) old new (same ∙ was) is)

  -- where priorities differ, the object is another one
  differs : (new.priority ≡ old.priority → ⊥) → s.objects (tcb_of image t) ≢ after.objects (tcb_of image t)
  differs apart same = apart (unchanged (sym same))

  either : ((new.priority ≡ old.priority → ⊥) → Same) → Same
  either other = elim (eqb_tells new.priority old.priority) [ inl same ↦ same.1 | inr apart ↦ other apart.1 ]

  by-tick : WithinTick s after → Same
  by-tick w = by-current (current s) refl
    where
      by-current : (o : Option ℕ) → current s ≡ o → Same
      by-current None none = unchanged (w.others (tcb_of image t) (λ some. absurd (let clash : ◌≡◌ {A = Option ℕ} None (Some (tcb_of image t)) = sym none
          ∙ some in cc)))
      by-current (Some x) some = elim (eqb_tells x (tcb_of image t)) [
        | inl here ↦
            let run = w.runs (tcb_of image t) old (some ∙ ap (λ (n : ℕ). Some n) here.1) was in
            ap priority (same-thread (after.objects (tcb_of image t)) (record old { slice = run.0 }) new run.1 is)
        | inr there ↦ unchanged (w.others (tcb_of image t) (λ other. there.1
            (let same : ◌≡◌ {A = Option ℕ} (Some x) (Some (tcb_of image t)) = sym some ∙ other in cc)))
      ]

  changed-by : (number : ℕ) → InterruptChange number s after (tcb_of image t) → Same
  changed-by number (joins badge other delivered at nobody now) = absurd (let clash : Some (ThreadObject old) ≡ Some (NotificationObject other) = sym was
      ∙ at in cc)
  changed-by number (passes_on badge first others other delivered at list now) =
      absurd (let clash : Some (ThreadObject old) ≡ Some (NotificationObject other) = sym was ∙ at in cc)
  changed-by number (wakes notification badge other delivered head at now) =
      ap priority (same-thread (after.objects (tcb_of image t)) _ new now is) ∙ ap priority (same-thread (s.objects (tcb_of image t)) old other was at)

  by-interrupt : (number : ℕ) → WithinInterrupt number s after → Same
  by-interrupt number w = either (λ apart. changed-by number (w.objects (tcb_of image t) (differs apart)))

  by-step : OwnStep image s after → Same
  by-step o = elim (eqb_tells (tcb_of image t) (self_of image o.thread)) [
    | inl own ↦
        o.within.priority old new (subst (λ (n : ℕ). s.objects n ≡ Some (ThreadObject old)) own.1 was)
        (subst (λ (n : ℕ). after.objects n ≡ Some (ThreadObject new)) own.1 is)
    | inr other ↦ either (λ apart. reason-same s after (self_of image o.thread) _ (tcb_of image t) old new
        (o.within.threads (tcb_of image t) old new other.1 was is (λ same. apart (sym (ap priority same)))))
  ]

  pub stays-over : (event : Event) → StaysWithin image s event after → Same
  stays-over Step (inl idle) = unchanged (ap (λ (u : State). u.objects (tcb_of image t)) idle.1)
  stays-over Step (inr own) = by-step own
  stays-over Tick at = by-tick (subst (WithinTick s) (sym at) (ticks s sound))
  stays-over (Irq number) at = by-interrupt number (subst (WithinInterrupt number s) (sym at) (interrupts s sound number))
  stays-over (Write address word) at =
      unchanged (ap (λ (u : State). u.objects (tcb_of image t)) at
      ∙ ap (λ (objects : ℕ → Option Object). objects (tcb_of image t)) (SameBesideBytes.objects (written-beside s (place_of address) word)))
  stays-over (Read address) same = unchanged (ap (λ (u : State). u.objects (tcb_of image t)) same)

-- ---- all events

module _ (ticks : (s : State) → IsSound s → WithinTick s (tick s))
    (interrupts : (s : State) → IsSound s → (number : ℕ) → WithinInterrupt number s (raise s number))
    (image : Image) (t : Numbered) (listed : Contains (numbered_threads image) t)
    (stand : (events : List Event) → All (KeepsDevices image) events
    → (labels : List Label) × AllStand image (state_after (described image) events) labels)
    (within : (before : List Event) (event : Event) → All (KeepsDevices image) before
    → StaysWithin image (state_after (described image) before) event (step (state_after (described image) before) event).0) where
  abbrev start : State
  start = described image

  one-more : (before : List Event) (event : Event) → All (KeepsDevices image) before → All (KeepsDevices image) (before ++ event ∷ [])
      → HasItsPriority image t (state_after start before)
      → HasItsPriority image t (step (state_after start before) event).0
  one-more before event kept next_kept has =
      let next = subst (λ (s : State). (own : ThreadState) × (s.objects (tcb_of image t) ≡ Some (ThreadObject own))) (state-next start before event)
      (let all = stand (before ++ event ∷ []) next_kept in thread-is image t (state_after start (before ++ event ∷ [])) all.0 (all.1.stand t listed)) in
      record {
        own = next.0;
        is = next.1;
        priority =
            stays-over ticks interrupts image t (state_after start before) (step (state_after start before) event).0 (AllStand.sound (stand before kept).1)
            has.own next.0 has.is next.1 event (within before event kept)
            ∙ has.priority;
      }

  pub stays : HasItsPriority image t (described image) → (events : List Event) → All (KeepsDevices image) events
      → HasItsPriority image t (state_after (described image) events)
  stays = holds-after image (HasItsPriority image t) one-more
