-- What threads map is under their own root tables.
use Rattle.std.specs.Prelude.{ℕ, ◌≡◌, Some, Contains}
use Rattle.model.specs.declared.capabilities.FrameMapping.{FrameMapping}
use Rattle.model.specs.Acceptance.Authority.{IsOwnSlot}
use Rattle.model.specs.Acceptance.ThreadInvariants.{root_table_of}
use Rattle.model.specs.Capabilities.CapabilityKinds.{frame_mapping}
use Rattle.model.specs.Capabilities.Slots.{capability_at}
use Rattle.model.specs.Images.Described.{Numbered, numbered_threads}
use Rattle.model.specs.Images.Image.{Image}
use Rattle.model.specs.Kernel.State.{State}

-- a frame that is mapped by a slot of the thread's own is mapped under its own root table
abbrev pub MapsOwn : Image → Numbered → State → Type 0
MapsOwn image t s =
    (slot : ℕ) (mapping : FrameMapping) → IsOwnSlot image t.thread slot → frame_mapping (capability_at s.slots slot) ≡ Some mapping
    → mapping.root ≡ root_table_of image t

-- so for all threads
abbrev pub AllMapOwn : Image → State → Type 0
AllMapOwn image s = (t : Numbered) → Contains (numbered_threads image) t → MapsOwn image t s
