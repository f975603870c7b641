-- The headline: what is accepted boots as described, and runs without a fault, without an error, and within its budgets.
use Rattle.std.specs.Prelude.{ℕ, ◌≡◌, false, All, Contains, List, ◌∷◌, ◌++◌, Ok}
use Rattle.model.specs.declared.events.Event.{Event}
use Rattle.model.specs.declared.labels.Label.{Label}
use Rattle.model.specs.Acceptance.Accepted.{IsAccepted}
use Rattle.model.specs.Acceptance.Authority.{StaysWithin}
use Rattle.model.specs.Acceptance.Devices.{KeepsDevices}
use Rattle.model.specs.Acceptance.ThreadInvariants.{KeepsPromises, tcb_of}
use Rattle.model.specs.Images.Boot.{booted}
use Rattle.model.specs.Images.Described.{described, Numbered, numbered_threads}
use Rattle.model.specs.Images.Image.{Image, Thread}
use Rattle.model.specs.Images.Places.{offset_of}
use Rattle.model.specs.Kernel.Soundness.{IsSound}
use Rattle.model.specs.Kernel.State.{State}
use Rattle.model.specs.Kernel.Steps.{state_after, step, trace}
use Rattle.model.specs.Kernel.Waits.{KeepsBudget, is_error, is_fault}
use Rattle.soundness.specs.boot_laws.Standing.{StandApart}
use Rattle.headline.specs.Throughout.{AllStandThroughout}
use Rattle.headline.specs.facts.Standing.{AllStand}
use Rattle.headline.specs.integrity.Runs.{HasIntegrity}
use Rattle.headline.specs.moves.Steps.{GoesWell}

-- what the kernel does over events, from the state that an image describes
abbrev pub trace_of : Image → List Event → List Label
trace_of image events = trace (described image) events

-- The bytes are an accepted image. It boots with no kernel error into the state that it describes, each object inside its untyped
-- memory and no two on one another. Over the events no line of the kernel's trace is a fault or an error, no stretch of a thread is longer
-- than its budget, each event changes only what authority lets it, and all together only what the threads that ran may change by the image, each state is
-- sound, and each message that waits at an endpoint keeps what the image promises there.
pub record IsSafeRun (bytes : List ℕ) (image : Image) (events : List Event) : Type 0 where
  pub accepted : IsAccepted bytes image
  pub devices : All (KeepsDevices image) events
  pub boots : booted image ≡ Ok (described image)
  pub inside : StandApart image
  pub faults : All (λ label. is_fault label ≡ false) (trace_of image events)
  pub errors : All (λ label. is_error label ≡ false) (trace_of image events)
  pub budgets : (t : Thread) → Contains image.threads t → KeepsBudget (offset_of image t.header.tcb) t.header.budget (trace_of image events)
  pub within : (before : List Event) (event : Event) (later : List Event) → events ≡ before ++ event ∷ later
      → StaysWithin image (state_after (described image) before) event (step (state_after (described image) before) event).0
  pub integrity : HasIntegrity image events
  pub sound : (before later : List Event) → events ≡ before ++ later → IsSound (state_after (described image) before)
  pub promises : (before later : List Event) → events ≡ before ++ later → KeepsPromises image (state_after (described image) before)

-- ---- the laws

abbrev pub AcceptedImagesRunSafely : Type 0
AcceptedImagesRunSafely =
    (bytes : List ℕ) (image : Image) (events : List Event) → IsAccepted bytes image → All (KeepsDevices image) events → IsSafeRun bytes image events

abbrev pub EventsKeepAllStanding : Type 0
EventsKeepAllStanding =
    (bytes : List ℕ) (image : Image) (s : State) (labels : List Label) (event : Event) → IsAccepted bytes image → KeepsDevices image event
    → AllStand image s labels → GoesWell image s labels event

-- where the threads' invariant holds throughout
abbrev pub StandingThreadsKeepTheirBudgets : Type 0
StandingThreadsKeepTheirBudgets =
    (bytes : List ℕ) (image : Image) (events : List Event) → IsAccepted bytes image → AllStandThroughout image events
    → (t : Numbered) → Contains (numbered_threads image) t
    → KeepsBudget (tcb_of image t) t.thread.header.budget (trace (described image) events)
