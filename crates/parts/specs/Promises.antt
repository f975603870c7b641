-- What is promised of a part whose image alone is accepted too.
use Rattle.std.specs.Prelude.{◌≡◌, true, List, All, map}
use Rattle.headline.specs.parts.Parts.{Part, alone, is_above, own_events, own_labels, takes_nothing, without_others}
use Rattle.model.specs.Acceptance.Devices.{KeepsDevices}
use Rattle.model.specs.Images.Described.{described}
use Rattle.model.specs.Images.Image.{Image}
use Rattle.model.specs.Kernel.Steps.{trace}
use Rattle.model.specs.declared.events.Event.{Event}

-- If it takes nothing from the others, its labels over any events of the whole are those of its own events alone.
abbrev pub RunsAsAlone : Image → Part → Type 0
RunsAsAlone image part =
    takes_nothing image part ≡ true → (events : List Event) → All (KeepsDevices image) events
    → own_labels image part (described image) events ≡ trace (described (alone image part)) (own_events image part (described image) events)

-- If its priorities are above those of all others besides, it does over any events in the whole what it does alone over the same ones.
abbrev pub IsUndisturbed : Image → Part → Type 0
IsUndisturbed image part =
    takes_nothing image part ≡ true → is_above image part ≡ true → (events : List Event) → All (KeepsDevices image) events
    → map (without_others image part) (trace (described image) events) ≡ map (without_others image part) (trace (described (alone image part)) events)
