-- What is true of the threads of an accepted image.
use Rattle.std.specs.Prelude.{◌≡◌, ◌++◌, false, List, [], ◌∷◌, Some, Contains}
use Rattle.headline.specs.facts.Standing.{AllStand}
use Rattle.model.specs.Acceptance.Devices.{KeepsDevices}
use Rattle.model.specs.Acceptance.ThreadInvariants.{ThreadInvariant, tcb_of}
use Rattle.model.specs.Images.Described.{Numbered, described, numbered_threads}
use Rattle.model.specs.Images.Image.{Image}
use Rattle.model.specs.Kernel.Scheduling.{current}
use Rattle.model.specs.Kernel.State.{State}
use Rattle.model.specs.Kernel.Steps.{state_after, step, trace}
use Rattle.model.specs.Kernel.Waits.{is_fault}
use Rattle.model.specs.declared.events.Event.{Event}
use Rattle.model.specs.declared.events.Event.TheVariants.{Step}
use Rattle.model.specs.declared.labels.Label.{Label}
use Rattle.headline.specs.moves.Steps.{GoesWell}
use Rattle.headline.specs.steps.Points.{ReachesNoCall}

-- after events a thread is as its certificate says
abbrev pub StandsBehind : Image → Numbered → List Event → Type 0
StandsBehind image t events = ThreadInvariant image t (state_after (described image) events) (trace (described image) events)

-- in the state that the image describes each thread is as its certificate says
abbrev pub ThreadsStart : Image → Type 0
ThreadsStart image = (t : Numbered) → Contains (numbered_threads image) t → ThreadInvariant image t (described image) []

-- Where a thread is as its certificate says, whatever happened before, its next step does not fault if it reaches no system call,
-- and after it the thread is as its certificate says.
pub record PlainStepIsKept (image : Image) (t : Numbered) (events : List Event) : Type 0 where
  pub faults : is_fault (step (state_after (described image) events) Step).1 ≡ false
  pub stands : StandsBehind image t (events ++ Step ∷ [])

abbrev pub PlainStepsAreKept : Image → Type 0
PlainStepsAreKept image =
    (t : Numbered) (events : List Event) → Contains (numbered_threads image) t → StandsBehind image t events
    → current (state_after (described image) events) ≡ Some (tcb_of image t) → ReachesNoCall (state_after (described image) events) (tcb_of image t)
    → PlainStepIsKept image t events

-- ---- all threads

-- in the state that the image describes all threads are as their certificates say, and nobody else runs
abbrev pub AllStandAtFirst : Image → Type 0
AllStandAtFirst image = AllStand image (described image) []

-- In every state in which the threads' invariant holds, each event goes well, if what the world does keeps to device pages: no fault, no
-- error, and the invariant holds again after it.
abbrev pub EventsGoWell : Image → Type 0
EventsGoWell image =
    (s : State) (labels : List Label) (event : Event) → KeepsDevices image event → AllStand image s labels → GoesWell image s labels event
