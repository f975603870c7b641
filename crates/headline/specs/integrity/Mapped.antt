-- Frames are mapped with no more rights than the capability has by which they are mapped.
use Rattle.std.specs.Prelude.{ℕ, ◌≡◌, true, Some, Contains}
use Rattle.model.specs.declared.capabilities.Cap.TheVariants.{Frame}
use Rattle.model.specs.declared.capabilities.FrameMapping.{FrameMapping}
use Rattle.model.specs.declared.rights.Rights.{Rights}
use Rattle.model.specs.Acceptance.Authority.{IsOwnSlot}
use Rattle.model.specs.Capabilities.Rights.{may_write}
use Rattle.model.specs.Capabilities.Slots.{capability_at}
use Rattle.model.specs.Images.Described.{Numbered, numbered_threads}
use Rattle.model.specs.Images.Image.{Image}
use Rattle.model.specs.Kernel.State.{State}

-- what a slot of a thread maps with write, its capability may write
abbrev pub AllMapAsHeld : Image → State → Type 0
AllMapAsHeld image s =
    (t : Numbered) (slot offset : ℕ) (held : Rights) (mapping : FrameMapping) → Contains (numbered_threads image) t → IsOwnSlot image t.thread slot
    → capability_at s.slots slot ≡ Frame offset held (Some mapping) → may_write mapping.rights ≡ true → may_write held ≡ true
