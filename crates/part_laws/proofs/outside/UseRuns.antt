-- From the described state on, event by event: whoever waits at a queue, or may be replied to, used it.
use Rattle.std.proofs.Common.{ℕ, ◌≡◌, ◌∙◌, ◌++◌, inl, inr, List, [], ◌∷◌, All, Option, Some, refl, sym, ap, subst, append_assoc}
use Rattle.std.proofs.Common.{append-nil}
use Rattle.std.specs.Prelude.{Contains}
use Rattle.std.proofs.lemmas.Option.{none-some}
use Rattle.soundness.specs.Machines.{SameBesideBytes}
use Rattle.soundness.proofs.Laws.{written-beside}
use Rattle.model.specs.declared.events.Event.{Event}
use Rattle.model.specs.declared.events.Event.TheVariants.{Step, Tick, Irq, Write, Read}
use Rattle.model.specs.declared.labels.Label.{Label}
use Rattle.model.specs.Acceptance.Accepted.{IsAccepted}
use Rattle.model.specs.Acceptance.Authority.{OwnStep, StaysWithin}
use Rattle.model.specs.Acceptance.Devices.{KeepsDevices}
use Rattle.model.specs.Acceptance.ThreadInvariants.{tcb_of}
use Rattle.model.specs.Images.Described.{Numbered, described, listed_thread, numbered_threads}
use Rattle.model.specs.Images.Image.{Image}
use Rattle.model.specs.Kernel.Interrupts.{raise}
use Rattle.model.specs.Kernel.Scheduling.{tick}
use Rattle.model.specs.Kernel.Soundness.{IsSound}
use Rattle.model.specs.Kernel.State.{State, Runnable, Blocked, Object, ThreadObject, ThreadState}
use Rattle.model.specs.Kernel.Steps.{place_of, state_after, step, trace}
use Rattle.headline.specs.authority.Events.{WithinInterrupt, WithinTick}
use Rattle.headline.specs.authority.Laws.{EventsStayWithin}
use Rattle.headline.specs.facts.Standing.{AllStand}
use Rattle.headline.specs.invocations.Laws.{EventsHaveGoneWell}
use Rattle.headline.specs.kept.Laws.{HaveOwnBlocks}
use Rattle.headline.specs.parts.Given.{AllHoldGiven}
use Rattle.headline.specs.parts.Laws.{ThreadsHoldWhatTheyWereGiven}
use Rattle.headline.specs.starts.Laws.{ThreadsAreAsListed}
use Rattle.headline.proofs.Laws.{all-front, is-listed, state-next}
use Rattle.part_laws.specs.Using.{AllUseQueues}
use Rattle.part_laws.proofs.changes.Members.{listed-from}
use Rattle.part_laws.proofs.outside.Left.{one-state}
use Rattle.part_laws.proofs.outside.Places.{contained}
use Rattle.part_laws.proofs.outside.QueuesUsed.{interrupt-used, same-used, step-used, tick-used}

module _ (bytes : List ℕ) (image : Image) (accepted : IsAccepted bytes image) (own_blocks : HaveOwnBlocks)
    (ticks : (s : State) → IsSound s → WithinTick s (tick s))
    (interrupts : (s : State) → IsSound s → (number : ℕ) → WithinInterrupt number s (raise s number)) where
  module _ (s after : State) (labels later : List Label) (all : AllStand image s labels) (behind : AllStand image after later)
      (given : AllHoldGiven image s) (before : AllUseQueues image s) where
    by-step : OwnStep image s after → AllUseQueues image after
    by-step own =
        let place = contained image.threads own.thread own.listed in
        let there = listed-from 0 image.threads place.0 own.thread place.1 in
        let t : Numbered = record { number = there.0; thread = own.thread } in
        step-used bytes image accepted own_blocks s after labels later all behind given before t there.1 own.runs own.within

    -- the same threads
    same-objects : after.objects ≡ s.objects → AllUseQueues image after
    same-objects same =
        same-used bytes image accepted own_blocks s after labels later all behind given before (λ u new among is. record {
          old = new;
          was = ap (λ (o : ℕ → Option Object). o (tcb_of image u)) (sym same) ∙ is;
          waits = λ queue blocked. blocked;
          caller = refl;
        })

    pub used-next : (event : Event) → StaysWithin image s event after → AllUseQueues image after
    used-next Step (inl idle) = same-objects (ap (λ (x : State). x.objects) idle.1)
    used-next Step (inr own) = by-step own
    used-next Tick is =
        tick-used bytes image accepted own_blocks s after labels later all behind given before (subst (WithinTick s) (sym is) (ticks s all.sound))
    used-next (Irq number) is =
        interrupt-used bytes image accepted own_blocks s after labels later all behind given before number
        (subst (WithinInterrupt number s) (sym is) (interrupts s all.sound number))
    used-next (Write address word) is =
        same-objects (ap (λ (x : State). x.objects) is ∙ SameBesideBytes.objects (written-beside s (place_of address) word))
    used-next (Read address) is = same-objects (ap (λ (x : State). x.objects) is)

  -- ---- any events

  module _ (gone_well : EventsHaveGoneWell) (within : EventsStayWithin) (held : ThreadsHoldWhatTheyWereGiven) where
    used-behind : (events before : List Event) → All (KeepsDevices image) (before ++ events) → AllUseQueues image (state_after (described image) before)
        → AllUseQueues image (state_after (described image) (before ++ events))
    used-behind [] before devices used =
        subst (λ (l : List Event). AllUseQueues image (state_after (described image) l)) (sym (append-nil before)) used
    used-behind (event ∷ events) before devices used =
        let rest = sym (append_assoc before (event ∷ []) events) in
        let here = all-front (KeepsDevices image) (before ++ event ∷ events) before (event ∷ events) devices refl in
        let more = subst (All (KeepsDevices image)) rest devices in
        let next_here = all-front (KeepsDevices image) ((before ++ event ∷ []) ++ events) (before ++ event ∷ []) events more refl in
        let s = state_after (described image) before in
        let next = state-next (described image) before event in
        let stand = (gone_well bytes image before accepted here).stand in
        let behind = subst (λ (x : State). AllStand image x (trace (described image) (before ++ event ∷ []))) next
        (gone_well bytes image (before ++ event ∷ []) accepted next_here).stand in
        subst (λ (l : List Event). AllUseQueues image (state_after (described image) l)) (sym rest)
        (used-behind events (before ++ event ∷ []) more
        (subst (AllUseQueues image) (sym next)
        (used-next s (step s event).0 (trace (described image) before) (trace (described image) (before ++ event ∷ [])) stand behind
        (held bytes image before accepted here) used event (within bytes image before event accepted here))))

    -- at the start all run, and nobody may be replied to
    used-at-start : ThreadsAreAsListed → AllUseQueues image (described image)
    used-at-start as_listed = record {
      waits = λ u own queue among is blocked.
          absurd (let e : Runnable ≡ Blocked queue = ap (λ (x : ThreadState). x.status) (first u own among is) ∙ blocked in cc);
      callers = λ u own x among is has. absurd (none-some x (ap (λ (y : ThreadState). y.caller) (first u own among is) ∙ has));
    }
      where
        first : (u : Numbered) (own : ThreadState) → Contains (numbered_threads image) u
            → (described image).objects (tcb_of image u) ≡ Some (ThreadObject own) → listed_thread u.thread ≡ own
        first u own among is =
            one-state (listed_thread u.thread) own ((described image).objects (tcb_of image u))
            (as_listed image u.thread accepted.spelled.fits accepted.formed (is-listed image u among)) is

    pub always-used : ThreadsAreAsListed → (events : List Event) → All (KeepsDevices image) events → AllUseQueues image (state_after (described image) events)
    unfolding state_after
    always-used as_listed events devices = used-behind events [] devices (used-at-start as_listed)
