-- What is true whatever has happened to an image so far.
use Rattle.std.specs.Prelude.{◌≡◌, ◌++◌, List}
use Rattle.headline.specs.facts.Standing.{AllStand}
use Rattle.model.specs.declared.events.Event.{Event}
use Rattle.model.specs.Images.Described.{described}
use Rattle.model.specs.Images.Image.{Image}
use Rattle.model.specs.Kernel.Steps.{state_after, trace}

-- after each of the events, and before the first, the threads' invariant holds
abbrev pub AllStandThroughout : Image → List Event → Type 0
AllStandThroughout image events =
    (before behind : List Event) → events ≡ before ++ behind → AllStand image (state_after (described image) before) (trace (described image) before)
