-- Over all events: a thread that waits for an answer called, and one that is queued as a caller did so.
use Rattle.std.proofs.Common.{ℕ, ◌≡◌, ◌≢◌, ◌∙◌, ◌⊎◌, ◌++◌, inl, inr, true, false, Option, Some, None, All, List, [], ◌∷◌}
use Rattle.std.proofs.Common.{refl, sym, ap, subst, arith}
use Rattle.std.specs.Prelude.{Contains}
use Rattle.std.proofs.lemmas.Bool.Decides.{eqb_tells}
use Rattle.model.specs.declared.events.Event.{Event}
use Rattle.model.specs.declared.events.Event.TheVariants.{Step, Tick, Irq, Write, Read}
use Rattle.model.specs.declared.labels.Label.{Label}
use Rattle.model.specs.Acceptance.Accepted.{IsAccepted}
use Rattle.model.specs.Acceptance.Authority.{StaysWithin}
use Rattle.model.specs.Acceptance.Devices.{KeepsDevices}
use Rattle.model.specs.Acceptance.ThreadInvariants.{tcb_of}
use Rattle.model.specs.Images.Described.{Numbered, described, numbered_threads}
use Rattle.model.specs.Images.Image.{Image}
use Rattle.model.specs.Kernel.Interrupts.{raise}
use Rattle.model.specs.Kernel.Scheduling.{current, tick}
use Rattle.model.specs.Kernel.Soundness.{IsSound}
use Rattle.model.specs.Kernel.State.{AwaitsReply, Blocked, EndpointObject, EndpointState, NotificationObject, Object, Runnable, State}
use Rattle.model.specs.Kernel.State.{ThreadObject, ThreadState, thread_at}
use Rattle.model.specs.Kernel.Steps.{place_of, state_after, step, trace}
use Rattle.soundness.proofs.Laws.{written-beside}
use Rattle.headline.proofs.Laws.{idle-is, state-next, step-cases}
use Rattle.headline.specs.authority.Events.{InterruptChange, WithinInterrupt, WithinTick, joins, passes_on, wakes}
use Rattle.headline.specs.facts.Standing.{AllStand}
use Rattle.headline.specs.invocations.Laws.{AnyStepGoesWell, Laws}
use Rattle.response.specs.Owed.{WaitsWhereAsked, asked_there, is_call}
use Rattle.response.proofs.AskedQueues.{receiver-blocked, sender-blocked}
use Rattle.response.proofs.AskedSteps.{asked-same, by-cases, by-cases-not, runs-vacuous}
use Rattle.response.proofs.EachEvent.{holds-after}
use Rattle.response.proofs.InterruptedThreads.{thread-left}
use Rattle.response.proofs.Interrupts.{thread-of}
use Rattle.response.proofs.OneMessage.{calls-asked, plain-asked-so}
use Rattle.response.proofs.Ticks.{SameWork, running-thread, tick-same}
use Rattle.soundness.specs.Machines.{SameBesideBytes}

-- where statuses, pcs and endpoints stay
kept-asked : (image : Image) (u : Numbered) (s after : State)
    → (thread_at after (tcb_of image u)).status ≡ (thread_at s (tcb_of image u)).status
    → (thread_at after (tcb_of image u)).registers.pc ≡ (thread_at s (tcb_of image u)).registers.pc
    → ((queue : ℕ) (e : EndpointState) → after.objects queue ≡ Some (EndpointObject e) → s.objects queue ≡ Some (EndpointObject e))
    → WaitsWhereAsked image u s → WaitsWhereAsked image u after
kept-asked image u s after status pc gates asked_so = record {
  awaits = λ so. ap is_call (asked-same image u s after pc) ∙ asked_so.awaits (sym status ∙ so);
  sends = λ queue e x at among own sent. ap is_call (asked-same image u s after pc) ∙ asked_so.sends queue e x (gates queue e at) among own sent;
  receives = λ queue e at among. ap is_call (asked-same image u s after pc) ∙ asked_so.receives queue e (gates queue e at) among;
}

-- a tick leaves endpoints
module _ (s after : State) (w : WithinTick s after)
    (runs : (thread : ℕ) → current s ≡ Some thread → (own : ThreadState) × (s.objects thread ≡ Some (ThreadObject own))) (queue : ℕ) (e : EndpointState)
    (at : after.objects queue ≡ Some (EndpointObject e)) where
  by-current : (o : Option ℕ) → current s ≡ o → s.objects queue ≡ Some (EndpointObject e)
  by-current None none =
      sym (w.others queue (λ some. absurd (let clash : ◌≡◌ {A = Option ℕ} None (Some queue) = sym none ∙ some in cc))) ∙ at
  by-current (Some x) some = elim (eqb_tells x queue) [
    | inl here ↦
        let now = some ∙ ap (λ (n : ℕ). Some n) here.1 in
        let own = runs queue now in
        let run = w.runs queue own.0 now own.1 in
        absurd (let clash : Some (EndpointObject e) ≡ Some (ThreadObject (record own.0 { slice = run.0 })) = sym at ∙ run.1 in cc)
    | inr there ↦
        sym (w.others queue (λ other. there.1 (let same : ◌≡◌ {A = Option ℕ} (Some x) (Some queue) = sym some ∙ other in cc))) ∙ at
  ]

  tick-gates : s.objects queue ≡ Some (EndpointObject e)
  tick-gates = by-current (current s) refl

-- an interrupt changes one notification and one thread, which runs
module _ (image : Image) (s after : State) (labels : List Label) (all : AllStand image s labels) (sound : IsSound after) (number : ℕ)
    (w : WithinInterrupt number s after) (u : Numbered) (among : Contains (numbered_threads image) u) (asked_so : WaitsWhereAsked image u s) where
  left-so : ((thread_at after (tcb_of image u)).status ≡ Runnable → ⊥) → (s.objects (tcb_of image u) ≡ after.objects (tcb_of image u) → ⊥) → ⊥
  left-so = thread-left image s after labels all number w u among

  gate-left : (queue : ℕ) (e : EndpointState) → after.objects queue ≡ Some (EndpointObject e) → (s.objects queue ≡ after.objects queue → ⊥) → ⊥
  gate-left queue e at differs = by-change (w.objects queue differs)
    where
      by-change : InterruptChange number s after queue → ⊥
      by-change (joins badge old d before nobody is) =
          absurd (let clash : Some (EndpointObject e) ≡ Some (NotificationObject _) = sym at ∙ is in cc)
      by-change (passes_on badge waiter others old d before list is) =
          absurd (let clash : Some (EndpointObject e) ≡ Some (NotificationObject _) = sym at ∙ is in cc)
      by-change (wakes notification badge old d head before is) =
          absurd (let clash : Some (EndpointObject e) ≡ Some (ThreadObject _) = sym at ∙ is in cc)

  same-asked : s.objects (tcb_of image u) ≡ after.objects (tcb_of image u) → asked_there image after u ≡ asked_there image s u
  same-asked same = asked-same image u s after (ap (λ (o : Option Object). (thread-of o).registers.pc) (sym same))

  interrupt-asked : WaitsWhereAsked image u after
  interrupt-asked = record {
    awaits = λ so. by-cases (is_call (asked_there image after u)) (λ denied.
        left-so (λ runs. let clash : Runnable ≡ AwaitsReply = sym runs ∙ so in absurd cc) (λ same.
        let clash : false ≡ true = sym denied ∙ ap is_call (same-asked same)
        ∙ asked_so.awaits (ap (λ (o : Option Object). (thread-of o).status) same ∙ so) in
        absurd cc));
    sends = λ queue e x at member own sent. by-cases (is_call (asked_there image after u)) (λ denied.
        left-so (λ runs.
        let clash : Runnable ≡ Blocked queue = sym runs ∙ ap (λ (k : ℕ). (thread_at after k).status) (sym own)
        ∙ sender-blocked after sound queue e at x member in
        absurd cc) (λ same.
        gate-left queue e at (λ gate.
        let clash : false ≡ true = sym denied ∙ ap is_call (same-asked same) ∙ asked_so.sends queue e x (gate ∙ at) member own sent in absurd cc)));
    receives = λ queue e at member. by-cases-not (is_call (asked_there image after u)) (λ yes.
        left-so (λ runs.
        let clash : Runnable ≡ Blocked queue = sym runs ∙ receiver-blocked after sound queue e at (tcb_of image u) member in
        absurd cc) (λ same.
        gate-left queue e at (λ gate.
        let clash : true ≡ false = sym yes ∙ ap is_call (same-asked same) ∙ asked_so.receives queue e (gate ∙ at) member in absurd cc)));
  }

-- ---- over all events

module _ (laws : Laws) (steps : AnyStepGoesWell) (told : (a b : ThreadState) → (a ≡ b) ⊎ (a ≢ b)) (bytes : List ℕ) (image : Image)
    (accepted : IsAccepted bytes image)
    (ticks : (s : State) → IsSound s → WithinTick s (tick s))
    (interrupts : (s : State) → IsSound s → (line : ℕ) → WithinInterrupt line s (raise s line))
    (stand : (events : List Event) → All (KeepsDevices image) events → AllStand image (state_after (described image) events) (trace (described image) events))
    (stay : (before : List Event) (event : Event) → All (KeepsDevices image) before
    → StaysWithin image (state_after (described image) before) event (step (state_after (described image) before) event).0)
    (start_runs : (u : Numbered) → Contains (numbered_threads image) u → (thread_at (described image) (tcb_of image u)).status ≡ Runnable) where
  abbrev AllAsked : State → Type 0
  AllAsked x = (u : Numbered) → Contains (numbered_threads image) u → WaitsWhereAsked image u x

  module _ (before : List Event) (kept : All (KeepsDevices image) before) where
    abbrev s : State
    s = state_after (described image) before

    abbrev labels : List Label
    labels = trace (described image) before

    all : AllStand image s labels
    all = stand before kept

    by-event : (event : Event) → All (KeepsDevices image) (before ++ event ∷ []) → StaysWithin image s event (step s event).0 → AllAsked s
        → AllAsked (step s event).0
    by-event Step next_kept at asked u among =
        step-cases image s labels all (WaitsWhereAsked image u (step s Step).0)
        (λ none. subst (WaitsWhereAsked image u) (sym (ap (λ (x : State × Label). x.0) (idle-is s none))) (asked u among))
        (λ t listed now makes. calls-asked laws steps told bytes image accepted s labels all at t listed now makes u among (asked u among))
        (λ t listed now free. plain-asked-so laws steps told bytes image accepted s labels all at t listed now free u among (asked u among))
    by-event Tick next_kept at asked u among =
        let w = subst (WithinTick s) (sym at) (ticks s all.sound) in
        let same = tick-same s (step s Tick).0 w (λ thread now. running-thread s all.sound thread now) image labels in
        kept-asked image u s (step s Tick).0 (SameWork.status same (tcb_of image u)) (SameWork.pc same (tcb_of image u))
        (λ queue e is. tick-gates s (step s Tick).0 w (λ thread now. running-thread s all.sound thread now) queue e is) (asked u among)
    by-event (Irq line) next_kept at asked u among =
        interrupt-asked image s (step s (Irq line)).0 labels all
        (subst IsSound (state-next (described image) before (Irq line)) (stand (before ++ Irq line ∷ []) next_kept).sound) line
        (subst (WithinInterrupt line s) (sym at) (interrupts s all.sound line)) u among (asked u among)
    by-event (Write address word) next_kept at asked u among =
        let same : SameBesideBytes s (step s (Write address word)).0 = subst (SameBesideBytes s) (sym at) (written-beside s (place_of address) word) in
        kept-asked image u s (step s (Write address word)).0
        (ap (λ (f : ℕ → Option Object). (thread-of (f (tcb_of image u))).status) same.objects)
        (ap (λ (f : ℕ → Option Object). (thread-of (f (tcb_of image u))).registers.pc) same.objects)
        (λ queue e is. sym (ap (λ (f : ℕ → Option Object). f queue) same.objects) ∙ is) (asked u among)
    by-event (Read address) next_kept at asked u among = subst (WaitsWhereAsked image u) (sym at) (asked u among)

  pub asked-after : (events : List Event) → All (KeepsDevices image) events → (u : Numbered) → Contains (numbered_threads image) u
      → WaitsWhereAsked image u (state_after (described image) events)
  unfolding state_after
  asked-after =
      holds-after image AllAsked (λ before event kept next_kept asked. by-event before kept event next_kept (stay before event kept) asked)
      (λ u among. runs-vacuous image u (described image) (stand [] (λ k d inside. absurd (omega (arith, inside)))).sound (start_runs u among))
