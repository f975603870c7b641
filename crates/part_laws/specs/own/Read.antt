-- Frames are mapped only by capabilities that may read.
use Rattle.std.specs.Prelude.{ℕ, ◌≡◌, true, Some, Contains, List, All}
use Rattle.model.specs.declared.capabilities.Cap.TheVariants.{Frame}
use Rattle.model.specs.declared.capabilities.FrameMapping.{FrameMapping}
use Rattle.model.specs.declared.events.Event.{Event}
use Rattle.model.specs.declared.instructions.Access.{Access}
use Rattle.model.specs.declared.rights.Rights.{Rights}
use Rattle.model.specs.Acceptance.Accepted.{IsAccepted}
use Rattle.model.specs.Acceptance.Authority.{IsOwnSlot}
use Rattle.model.specs.Acceptance.Devices.{KeepsDevices}
use Rattle.model.specs.Capabilities.Rights.{may_read}
use Rattle.model.specs.Capabilities.Slots.{capability_at}
use Rattle.model.specs.Images.Described.{Numbered, described, numbered_threads}
use Rattle.model.specs.Images.Image.{Image}
use Rattle.model.specs.Kernel.AddressSpaces.{allows}
use Rattle.model.specs.Kernel.State.{State}
use Rattle.model.specs.Kernel.Steps.{state_after}

-- where a slot of a thread maps a frame for some access, its capability may read
abbrev pub AllMapAsRead : Image → State → Type 0
AllMapAsRead image s =
    (t : Numbered) (slot offset : ℕ) (held : Rights) (mapping : FrameMapping) (access : Access) → Contains (numbered_threads image) t
    → IsOwnSlot image t.thread slot → capability_at s.slots slot ≡ Frame offset held (Some mapping) → allows access mapping.rights ≡ true
    → may_read held ≡ true

-- so it is after any events
abbrev pub ThreadsMapAsTheyMayRead : Type 0
ThreadsMapAsTheyMayRead =
    (bytes : List ℕ) (image : Image) (events : List Event) → IsAccepted bytes image → All (KeepsDevices image) events
    → AllMapAsRead image (state_after (described image) events)
