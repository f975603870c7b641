-- Whatever has happened to an accepted image, the next event stays within authority.
use Rattle.std.proofs.Common.{ℕ, ◌++◌, List, [], ◌∷◌, All, refl}
use Rattle.std.proofs.lemmas.List.Elements.{All-head, All-tail}
use Rattle.soundness.specs.Machines.{SameBesideBytes}
use Rattle.soundness.proofs.Laws.{raise-machine, tick-machine, written-beside}
use Rattle.headline.specs.SafeRuns.{EventsKeepAllStanding}
use Rattle.headline.specs.authority.HeldInside.{AllHoldInside}
use Rattle.headline.specs.authority.OwnMaps.{AllMapOwn}
use Rattle.headline.specs.facts.Standing.{AllStand}
use Rattle.headline.specs.invocations.Laws.{Laws}
use Rattle.headline.specs.kept.Laws.{StoresTouchNone}
use Rattle.headline.specs.steps.Laws.{PlainStepsKeepThreads, WritesWhereStoresMay}
use Rattle.model.specs.declared.events.Event.{Event}
use Rattle.model.specs.declared.events.Event.TheVariants.{Step, Tick, Irq, Write, Read}
use Rattle.model.specs.declared.labels.Label.{Label}
use Rattle.model.specs.Acceptance.Accepted.{IsAccepted}
use Rattle.model.specs.Acceptance.Authority.{StaysWithin}
use Rattle.model.specs.Acceptance.Devices.{KeepsDevices}
use Rattle.model.specs.Images.Described.{described}
use Rattle.model.specs.Images.Image.{Image}
use Rattle.model.specs.Kernel.Interrupts.{raise}
use Rattle.model.specs.Kernel.Scheduling.{tick}
use Rattle.model.specs.Kernel.State.{State}
use Rattle.model.specs.Kernel.Steps.{place_of, state_after, step}
use Rattle.model.specs.Kernel.World.{world_writes}
use Rattle.headline.proofs.authority.InsideKept.{inside-at-start}
use Rattle.headline.proofs.authority.MapsKept.{maps-own-kept}
use Rattle.headline.proofs.authority.PoolsKept.{base-inside}
use Rattle.headline.proofs.authority.StandingSteps.{StepIsWithin, step-within}
use Rattle.headline.proofs.authority.StartingMaps.{maps-own-at-start}

-- what is known of each state of a run
record IsReached (image : Image) (s : State) : Type 0 where
  pub labels : List Label
  pub stand : AllStand image s labels
  pub maps : AllMapOwn image s
  pub inside : AllHoldInside image s

record EventIsWithin (image : Image) (s : State) (event : Event) : Type 0 where
  pub within : StaysWithin image s event (step s event).0
  pub inside : AllHoldInside image (step s event).0

module _ (laws : Laws) (keeps : PlainStepsKeepThreads) (writes : WritesWhereStoresMay) (touches : StoresTouchNone) (stand : EventsKeepAllStanding)
    (bytes : List ℕ) (image : Image) (accepted : IsAccepted bytes image) where
  event-within : (s : State) (event : Event) → IsReached image s → EventIsWithin image s event
  unfolding step
  event-within s Step reached =
      let so = step-within laws keeps writes touches bytes image s reached.labels accepted reached.stand reached.maps reached.inside in
      record { within = StepIsWithin.within so; inside = StepIsWithin.inside so }
  event-within s Tick reached = record {
    within = refl;
    inside = base-inside image s (tick s) (tick-machine s) reached.inside;
  }
  event-within s (Irq number) reached = record {
    within = refl;
    inside = base-inside image s (raise s number) (raise-machine s number) reached.inside;
  }
  event-within s (Write address word) reached = record {
    within = refl;
    inside =
        base-inside image s (world_writes s (place_of address) word) (SameBesideBytes.base (written-beside s (place_of address) word)) reached.inside;
  }
  event-within s (Read address) reached = record { within = refl; inside = reached.inside }

  next : (s : State) (event : Event) → KeepsDevices image event → IsReached image s → IsReached image (step s event).0
  next s event devices reached =
      let so = event-within s event reached in
      record {
        labels = reached.labels ++ (step s event).1 ∷ [];
        stand = (stand bytes image s reached.labels event accepted devices reached.stand).stands;
        maps = maps-own-kept bytes image accepted s (step s event).0 reached.maps event (EventIsWithin.within so);
        inside = EventIsWithin.inside so;
      }

  reach : (events : List Event) (s : State) → All (KeepsDevices image) events → IsReached image s → IsReached image (state_after s events)
  unfolding state_after
  reach [] s devices reached = reached
  reach (event ∷ rest) s devices reached =
      reach rest (step s event).0 (All-tail (KeepsDevices image) event rest devices)
      (next s event (All-head (KeepsDevices image) event rest devices) reached)

  pub run-within : AllStand image (described image) [] → (before : List Event) (event : Event) → All (KeepsDevices image) before
      → StaysWithin image (state_after (described image) before) event (step (state_after (described image) before) event).0
  run-within start before event devices =
      EventIsWithin.within (event-within (state_after (described image) before) event
      (reach before (described image) devices
      (record { labels = []; stand = start; maps = maps-own-at-start bytes image accepted; inside = inside-at-start bytes image accepted })))
