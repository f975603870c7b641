-- A part that takes nothing runs as if alone: event by event, its own events give the same labels on both sides, and the others none. Where it is above
-- all others, each event of the whole gives the part the same as alone.
use Rattle.std.proofs.Common.{ℕ, ◌≡◌, ◌∙◌, ◌++◌, true, false, if◌then◌else◌, List, [], ◌∷◌, All, map, refl, sym, ap, ap₂, subst, arith}
use Rattle.std.proofs.lemmas.Bool.{le-leb}
use Rattle.std.proofs.lemmas.List.Elements.{All-append, All-cons, All-head, All-nil, All-tail}
use Rattle.model.specs.declared.events.Event.{Event}
use Rattle.model.specs.declared.events.Event.TheVariants.{Step, Tick, Irq, Write, Read}
use Rattle.model.specs.declared.labels.Label.{Label}
use Rattle.model.specs.Acceptance.Accepted.{IsAccepted}
use Rattle.model.specs.Acceptance.Authority.{StaysWithin}
use Rattle.model.specs.Acceptance.Devices.{KeepsDevices}
use Rattle.model.specs.Images.Described.{described}
use Rattle.model.specs.Images.Image.{Image}
use Rattle.model.specs.Kernel.Interrupts.{raise}
use Rattle.model.specs.Kernel.Scheduling.{tick}
use Rattle.model.specs.Kernel.Soundness.{IsSound}
use Rattle.model.specs.Kernel.State.{State}
use Rattle.model.specs.Kernel.Steps.{place_of, state_after, step, trace}
use Rattle.headline.specs.authority.Events.{WithinInterrupt, WithinTick}
use Rattle.headline.specs.authority.Laws.{EventsStayWithin, WordsOfDataStay}
use Rattle.headline.specs.facts.Standing.{AllStand}
use Rattle.headline.specs.integrity.Laws.{ThreadsMapAsTheyHold}
use Rattle.headline.specs.integrity.Mapped.{AllMapAsHeld}
use Rattle.headline.specs.invocations.Laws.{EventsHaveGoneWell}
use Rattle.headline.specs.parts.Given.{AllHoldGiven}
use Rattle.headline.specs.parts.Laws.{ThreadsHoldWhatTheyWereGiven}
use Rattle.headline.specs.parts.Parts.{Part, alone, is_above, is_own, own_events, own_labels, takes_nothing, without_others}
use Rattle.headline.proofs.Laws.{state-next}
use Rattle.response.specs.Laws.{LevelsRun}
use Rattle.part_laws.specs.Agreeing.{AgreeFor}
use Rattle.part_laws.specs.Both.{BothStand, OwnStepsAgree}
use Rattle.part_laws.specs.Changes.{InterruptsAgree, TicksAgree}
use Rattle.part_laws.specs.OutsideLaws.{OthersHaveNothing, OthersKeepAgreement}
use Rattle.part_laws.specs.PromiseLaws.{OwnStepsMakeItRunAlone, OwnStepsMakeThemUndisturbed, StartsAgree}
use Rattle.part_laws.specs.Using.{AllUseQueues, QueuesAreUsed}
use Rattle.part_laws.specs.own.Read.{AllMapAsRead, ThreadsMapAsTheyMayRead}
use Rattle.part_laws.proofs.promises.Events.{other-event, own-event, same-device}
use Rattle.part_laws.proofs.promises.Undisturbed.{HighestRuns, alone-too, same-unseen}

-- ---- states after events

pub record AfterEvents (image : Image) (s : State) : Type 0 where
  pub events : List Event
  pub devices : All (KeepsDevices image) events
  pub is : s ≡ state_after (described image) events

at-start : (image : Image) → AfterEvents image (described image)
unfolding state_after
at-start image = record { events = []; devices = All-nil (KeepsDevices image); is = refl }

next-after : (image : Image) (s : State) (event : Event) → AfterEvents image s → KeepsDevices image event → AfterEvents image (step s event).0
next-after image s event a keeps = record {
  events = a.events ++ event ∷ [];
  devices = All-append (KeepsDevices image) a.events (event ∷ []) a.devices (All-cons (KeepsDevices image) event [] keeps (All-nil (KeepsDevices image)));
  is = ap (λ (x : State). (step x event).0) a.is ∙ sym (state-next (described image) a.events event);
}

-- what the world does to the whole it may do to the part alone
keeps-alone : (image : Image) (part : Part) (event : Event) → KeepsDevices image event → KeepsDevices (alone image part) event
keeps-alone image part Step keeps = keeps
keeps-alone image part Tick keeps = keeps
keeps-alone image part (Irq number) keeps = keeps
keeps-alone image part (Write address word) keeps = same-device image part (place_of address) ∙ keeps
keeps-alone image part (Read address) keeps = same-device image part (place_of address) ∙ keeps

module _ (gone_well : EventsHaveGoneWell) (within : EventsStayWithin) (held : ThreadsHoldWhatTheyWereGiven) (mapped : ThreadsMapAsTheyHold)
    (reads : ThreadsMapAsTheyMayRead) (used : QueuesAreUsed) (words : WordsOfDataStay) (ticks : (s : State) → IsSound s → WithinTick s (tick s))
    (interrupts : (s : State) → IsSound s → (number : ℕ) → WithinInterrupt number s (raise s number)) (ticks_agree : TicksAgree)
    (interrupts_agree : InterruptsAgree) (have_nothing : OthersHaveNothing) (keep : OthersKeepAgreement) (starts : StartsAgree) where
  module _ (bytes others : List ℕ) (image : Image) (part : Part) (accepted : IsAccepted bytes image) (alone_accepted : IsAccepted others (alone image part))
      (nothing : takes_nothing image part ≡ true) where
    stand-after : (s : State) (a : AfterEvents image s) → AllStand image s (trace (described image) a.events)
    stand-after s a =
        subst (λ (x : State). AllStand image x (trace (described image) a.events)) (sym a.is)
        (gone_well bytes image a.events accepted a.devices).stand

    within-after : (s : State) (a : AfterEvents image s) (event : Event) → StaysWithin image s event (step s event).0
    within-after s a event = subst (λ (x : State). StaysWithin image x event (step x event).0) (sym a.is) (within bytes image a.events event accepted a.devices)

    both-stand : (s t : State) → AfterEvents image s → AfterEvents (alone image part) t → BothStand image part s t
    both-stand s t a b = record {
      bytes = bytes;
      alone_bytes = others;
      accepted = accepted;
      alone_accepted = alone_accepted;
      nothing = nothing;
      labels = trace (described image) a.events;
      alone_labels = trace (described (alone image part)) b.events;
      stand = stand-after s a;
      alone_stand = subst (λ (x : State). AllStand (alone image part) x (trace (described (alone image part)) b.events)) (sym b.is)
          (gone_well others (alone image part) b.events alone_accepted b.devices).stand;
      given = subst (λ (x : State). AllHoldGiven image x) (sym a.is) (held bytes image a.events accepted a.devices);
      alone_given = subst (λ (x : State). AllHoldGiven (alone image part) x) (sym b.is) (held others (alone image part) b.events alone_accepted b.devices);
      mapped = subst (λ (x : State). AllMapAsHeld image x) (sym a.is) (mapped bytes image a.events accepted a.devices);
      alone_mapped = subst (λ (x : State). AllMapAsHeld (alone image part) x) (sym b.is)
          (mapped others (alone image part) b.events alone_accepted b.devices);
      reads = subst (λ (x : State). AllMapAsRead image x) (sym a.is) (reads bytes image a.events accepted a.devices);
      alone_reads = subst (λ (x : State). AllMapAsRead (alone image part) x) (sym b.is) (reads others (alone image part) b.events alone_accepted b.devices);
      queues = subst (λ (x : State). AllUseQueues image x) (sym a.is) (used bytes image a.events accepted a.devices);
      alone_queues = subst (λ (x : State). AllUseQueues (alone image part) x) (sym b.is)
          (used others (alone image part) b.events alone_accepted b.devices);
    }

    module _ (own_steps : OwnStepsAgree) where
      runs-alone : (events : List Event) → All (KeepsDevices image) events → (s t : State) → AfterEvents image s → AfterEvents (alone image part) t
          → AgreeFor image part s t → own_labels image part s events ≡ trace t (own_events image part s events)
      unfolding own_labels own_events trace
      runs-alone [] devices s t a b agree = refl
      runs-alone (event ∷ events) devices s t a b agree =
          let here = All-head (KeepsDevices image) event events devices in
          let rest = All-tail (KeepsDevices image) event events devices in
          let both = both-stand s t a b in
          let next = next-after image s event a here in
          let later = own_labels image part (step s event).0 events in
          let more = own_events image part (step s event).0 events in
          elim (is_own image part s event) as (λ c. is_own image part s event ≡ c
          → (if c then (step s event).1 ∷ later else later) ≡ trace t (if c then event ∷ more else more)) [
            | true ↦ λ own.
                let same = own-event image part s t both agree ticks_agree interrupts_agree own_steps words event here own in
                ap₂ (λ (l : Label) (ls : List Label). l ∷ ls) same.label
                (runs-alone events rest (step s event).0 (step t event).0 next
                (next-after (alone image part) t event b (keeps-alone image part event here)) same.agree)
            | false ↦ λ other.
                runs-alone events rest (step s event).0 t next b
                (other-event image part s t both agree have_nothing keep ticks interrupts event _ (stand-after (step s event).0 next) here other
                (within-after s a event))
          ] refl

      -- a part above all others, over the same events
      record SameEither (s t : State) (event : Event) : Type 0 where
        pub agree : AgreeFor image part (step s event).0 (step t event).0
        pub seen : without_others image part (step s event).1 ≡ without_others image part (step t event).1

      module _ (above : is_above image part ≡ true) (highest : (s : State) → AfterEvents image s → HighestRuns image s) where
        either-event : (s t : State) (a : AfterEvents image s) (b : AfterEvents (alone image part) t) (event : Event) → AgreeFor image part s t
            → KeepsDevices image event → SameEither s t event
        either-event s t a b event agree here =
            let both = both-stand s t a b in
            let next = next-after image s event a here in
            let next_alone = next-after (alone image part) t event b (keeps-alone image part event here) in
            let later = both-stand (step s event).0 (step t event).0 next next_alone in
            elim (is_own image part s event) as (λ c. is_own image part s event ≡ c → SameEither s t event) [
              | true ↦ λ own.
                  let same = own-event image part s t both agree ticks_agree interrupts_agree own_steps words event here own in
                  record { agree = same.agree; seen = ap (without_others image part) same.label }
              | false ↦ λ other. record {
                agree = alone-too image part above s t both agree (highest s a) interrupts (step s event).0
                    (other-event image part s t both agree have_nothing keep ticks interrupts event later.labels later.stand here other
                    (within-after s a event)) event later.alone_labels here other later.alone_stand;
                seen = same-unseen image part above s t both agree (highest s a) event other;
              }
            ] refl

        runs-undisturbed : (events : List Event) → All (KeepsDevices image) events → (s t : State) → AfterEvents image s → AfterEvents (alone image part) t
            → AgreeFor image part s t → map (without_others image part) (trace s events) ≡ map (without_others image part) (trace t events)
        unfolding trace
        runs-undisturbed [] devices s t a b agree = refl
        runs-undisturbed (event ∷ events) devices s t a b agree =
            let here = All-head (KeepsDevices image) event events devices in
            let same = either-event s t a b event agree here in
            ap₂ (λ (l : Label) (ls : List Label). l ∷ ls) same.seen
            (runs-undisturbed events (All-tail (KeepsDevices image) event events devices) (step s event).0 (step t event).0
            (next-after image s event a here) (next-after (alone image part) t event b (keeps-alone image part event here)) same.agree)

  pub runs-as-alone : OwnStepsMakeItRunAlone
  runs-as-alone own_steps bytes others image part events accepted alone_accepted devices nothing =
      runs-alone bytes others image part accepted alone_accepted nothing own_steps events devices (described image) (described (alone image part))
      (at-start image) (at-start (alone image part)) (starts bytes others image part accepted alone_accepted nothing)

  pub undisturbed : LevelsRun → OwnStepsMakeThemUndisturbed
  undisturbed levels own_steps bytes others image part events accepted alone_accepted devices nothing above =
      runs-undisturbed bytes others image part accepted alone_accepted nothing own_steps above
      (λ s a. subst (HighestRuns image) (sym a.is) (λ u listed may.
      let priority = u.thread.header.priority in
      levels bytes image a.events priority u accepted a.devices listed (le-leb priority priority (omega arith)) may))
      events devices (described image) (described (alone image part)) (at-start image) (at-start (alone image part))
      (starts bytes others image part accepted alone_accepted nothing)
