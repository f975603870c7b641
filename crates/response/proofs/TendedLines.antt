-- A line that is tended, over all events: where the thread waits to take that tends it, it is dealt with.
use Rattle.std.proofs.Common.{ℕ, ◌≡◌, ◌≢◌, ◌∙◌, ◌⊎◌, ◌++◌, inl, inr, Bool, true, false, Option, Some, List, [], ◌∷◌, All, refl, sym, ap, subst, arith}
use Rattle.std.specs.Prelude.{Contains}
use Rattle.std.proofs.lemmas.Bool.Decides.{eqb_tells}
use Rattle.model.specs.declared.events.Event.{Event}
use Rattle.model.specs.declared.events.Event.TheVariants.{Step, Tick, Irq, Write, Read}
use Rattle.model.specs.declared.labels.Label.{Label}
use Rattle.model.specs.Acceptance.Accepted.{IsAccepted}
use Rattle.model.specs.Acceptance.Authority.{StaysWithin}
use Rattle.model.specs.Acceptance.Devices.{KeepsDevices}
use Rattle.model.specs.Acceptance.ThreadInvariants.{tcb_of}
use Rattle.model.specs.Images.Described.{Numbered, described, numbered_threads}
use Rattle.model.specs.Images.Image.{Image}
use Rattle.model.specs.Kernel.Interrupts.{binding, raise}
use Rattle.model.specs.Kernel.Scheduling.{tick}
use Rattle.model.specs.Kernel.Soundness.{IsSound}
use Rattle.model.specs.Kernel.State.{NotificationObject, NotificationState, Object, State, ThreadState}
use Rattle.model.specs.Kernel.Steps.{place_of, state_after, step, trace}
use Rattle.soundness.specs.Machines.{SameBesideBytes}
use Rattle.soundness.proofs.Laws.{written-beside}
use Rattle.headline.proofs.Laws.{IsGiven, state-next}
use Rattle.headline.specs.authority.Events.{WithinInterrupt, WithinTick}
use Rattle.headline.specs.facts.Standing.{AllStand}
use Rattle.headline.specs.invocations.Laws.{AnyStepGoesWell, Laws}
use Rattle.response.specs.DealtWith.{IsDealtWith}
use Rattle.response.specs.Laws.{WaitsToTake}
use Rattle.response.specs.Resting.{IsTended}
use Rattle.response.proofs.EachEvent.{holds-after}
use Rattle.response.proofs.Interrupts.{thread-of, word-of}
use Rattle.response.proofs.Tended.{Tended, Tends, bell-there, has_word, others-tends}
use Rattle.response.proofs.Tended.{raised-tends, same-tends, tends-at-start, under_way, unmasked, waits-marked}
use Rattle.response.proofs.TendedSteps.{step-tends}
use Rattle.response.proofs.Ticks.{SameWork, running-thread, tick-same}

module _ (laws : Laws) (steps : AnyStepGoesWell) (told : (a b : ThreadState) → (a ≡ b) ⊎ (a ≢ b)) (bytes : List ℕ) (image : Image)
    (accepted : IsAccepted bytes image) (number : ℕ) (a : IsTended image number)
    (facts : (u : Numbered) → Contains (numbered_threads image) u → IsGiven image u)
    (ticks : (s : State) → IsSound s → WithinTick s (tick s))
    (interrupts : (s : State) → IsSound s → (line : ℕ) → WithinInterrupt line s (raise s line))
    (stand : (events : List Event) → All (KeepsDevices image) events → AllStand image (state_after (described image) events) (trace (described image) events))
    (stay : (before : List Event) (event : Event) → All (KeepsDevices image) before
    → StaysWithin image (state_after (described image) before) event (step (state_after (described image) before) event).0)
    (takes : (events : List Event) → All (KeepsDevices image) events → (u : Numbered) (queue : ℕ) (n : NotificationState) (others : List ℕ)
    → Contains (numbered_threads image) u → (state_after (described image) events).objects queue ≡ Some (NotificationObject n)
    → n.waiters ≡ tcb_of image u ∷ others → WaitsToTake image u (state_after (described image) events) (trace (described image) events) queue)
    (bound : (events : List Event) → All (KeepsDevices image) events → binding (state_after (described image) events) number ≡ binding (described image) number)
  where
    abbrev start : State
    start = described image

    module _ (before : List Event) (kept : All (KeepsDevices image) before) where
      abbrev s : State
      s = state_after (described image) before

      abbrev labels : List Label
      labels = trace (described image) before

      abbrev Keeps : State → Type 0
      Keeps x = Tends image number a x

      all : AllStand image s labels
      all = stand before kept

      bound_now : binding s number ≡ Some (record { notification = a.queue; badge = a.badge })
      bound_now = bound before kept ∙ a.bound

      by-event : (event : Event) → All (KeepsDevices image) (before ++ event ∷ []) → StaysWithin image s event (step s event).0 → Keeps s
          → Keeps (step s event).0
      by-event Step next_kept at tends =
          step-tends laws steps told bytes image accepted number a facts s labels all at (takes before kept) bound_now
          (ap (λ (x : State). binding x number) (sym (state-next start before Step)) ∙ bound (before ++ Step ∷ []) next_kept ∙ a.bound) tends
      by-event Tick next_kept at tends =
          let w = subst (WithinTick s) (sym at) (ticks s all.sound) in
          let same = tick-same s (step s Tick).0 w (λ thread now. running-thread s all.sound thread now) image labels in
          same-tends image number a s (step s Tick).0 (w.masked number) (w.pending number) (SameWork.words same a.queue)
          (SameWork.pc same (tcb_of image a.thread)) tends
      by-event (Irq line) next_kept at tends = elim (eqb_tells number line) [
        | inl here ↦
            subst Keeps (ap (raise s) here.1 ∙ sym at)
            (raised-tends laws.below bytes image accepted number a s labels all (takes before kept) bound_now tends)
        | inr apart ↦
            others-tends laws.below bytes image accepted number a s labels all (takes before kept) bound_now tends (step s (Irq line)).0 line apart.1
            (subst (WithinInterrupt line s) (sym at) (interrupts s all.sound line))
      ]
      by-event (Write address word) next_kept at tends =
          let same : SameBesideBytes s (step s (Write address word)).0 = subst (SameBesideBytes s) (sym at) (written-beside s (place_of address) word) in
          same-tends image number a s (step s (Write address word)).0 (ap (λ (f : ℕ → Bool). f number) same.masked)
          (ap (λ (f : ℕ → Bool). f number) same.pending) (ap (λ (f : ℕ → Option Object). word-of (f a.queue)) same.objects)
          (ap (λ (f : ℕ → Option Object). (thread-of (f (tcb_of image a.thread))).registers.pc) same.objects) tends
      by-event (Read address) next_kept at tends = subst Keeps (sym at) tends

    tends-after : (events : List Event) → All (KeepsDevices image) events → Tends image number a (state_after (described image) events)
    tends-after =
        holds-after image (λ x. Tends image number a x) (λ before event kept next_kept tends. by-event before kept event next_kept (stay before
        event kept) tends)
        (tends-at-start image number a)

    module _ (events : List Event) (devices : All (KeepsDevices image) events)
        (waits_now : WaitsToTake image a.thread (state_after (described image) events) (trace (described image) events) a.queue)
        (no_word : (n : NotificationState) → (state_after (described image) events).objects a.queue ≡ Some (NotificationObject n) → n.word ≡ 0) where
      abbrev final : State
      final = state_after (described image) events

      bell : (n : NotificationState) × (final.objects a.queue ≡ Some (NotificationObject n))
      bell = bell-there image final (trace start events) (stand events devices) number (record { notification = a.queue; badge = a.badge })
          (bound_now events devices)

      none : bell.0.word ≡ 0
      none = no_word bell.0 bell.1

      -- it is not masked: the thread has acknowledged it
      by-tended : Tended image number a final → final.masked number ≡ false
      by-tended (unmasked is) = is
      by-tended (has_word some) = absurd (let word = none in let is = ap word-of bell.1 in omega (arith, some, word, is))
      by-tended (under_way way) =
          let clash : true ≡ false =
          sym (waits-marked laws.below bytes image accepted number a final (trace start events) a.queue waits_now) ∙ way in
          absurd cc

      tends : Tends image number a final
      tends = tends-after events devices

      pub dealt-with : IsDealtWith image number a (state_after (described image) events)
      dealt-with = record {
        own = waits_now.own;
        there = waits_now.there;
        waits = waits_now.status;
        bell = bell.0;
        is_bell = bell.1;
        none = none;
        unmasked = by-tended tends.tended;
        silent = elim (final.pending number) as (λ b. final.pending number ≡ b → b ≡ false) [
          | true ↦ λ is. let clash : true ≡ false = sym (tends.masks is) ∙ by-tended tends.tended in absurd cc
          | false ↦ λ _. refl
        ] refl;
      }
