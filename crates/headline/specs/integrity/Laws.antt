-- The laws on whole runs.
use Rattle.std.specs.Prelude.{List, All, ℕ}
use Rattle.model.specs.declared.events.Event.{Event}
use Rattle.model.specs.Acceptance.Accepted.{IsAccepted}
use Rattle.model.specs.Acceptance.Devices.{KeepsDevices}
use Rattle.model.specs.Images.Described.{described}
use Rattle.model.specs.Images.Image.{Image}
use Rattle.model.specs.Kernel.Steps.{state_after}
use Rattle.headline.specs.integrity.Mapped.{AllMapAsHeld}
use Rattle.headline.specs.integrity.Runs.{HasIntegrity}

-- after any events no thread maps a frame with more rights than its capability has
abbrev pub ThreadsMapAsTheyHold : Type 0
ThreadsMapAsTheyHold =
    (bytes : List ℕ) (image : Image) (events : List Event) → IsAccepted bytes image → All (KeepsDevices image) events
    → AllMapAsHeld image (state_after (described image) events)

-- over any events nothing changes but what threads that ran may change by the image, and what the world wrote
abbrev pub RunsHaveIntegrity : Type 0
RunsHaveIntegrity =
    (bytes : List ℕ) (image : Image) (events : List Event) → IsAccepted bytes image → All (KeepsDevices image) events → HasIntegrity image events
