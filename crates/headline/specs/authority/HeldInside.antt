-- The objects that a thread's slots name last by the boot CNode, or lie inside untyped memory of the thread's own.
use Rattle.std.specs.Prelude.{ℕ, ◌^◌, ◌⊎◌, Contains}
use Rattle.model.specs.Acceptance.Authority.{Holds, IsOwnSlot, IsUntypedAround}
use Rattle.model.specs.Capabilities.CapabilityKinds.{names_object}
use Rattle.model.specs.Capabilities.Slots.{capability_at}
use Rattle.model.specs.Images.Described.{Numbered, numbered_threads}
use Rattle.model.specs.Images.Image.{Image}
use Rattle.model.specs.Kernel.Kinds.{Names}
use Rattle.model.specs.Kernel.Retype.{NewObject, object_bits}
use Rattle.model.specs.Kernel.State.{State}
use Rattle.typestate.specs.Spaces.{HeldInBoot}

-- an object that a slot of the thread's own names is one that the boot CNode names too, or is inside untyped memory of its own
abbrev pub HoldsInside : Image → Numbered → State → Type 0
HoldsInside image t s =
    (slot : ℕ) (kind : NewObject) (offset : ℕ) → IsOwnSlot image t.thread slot → Names kind offset (capability_at s.slots slot)
    → HeldInBoot image (names_object offset) ⊎ Holds image t.thread s (IsUntypedAround offset (2 ^ object_bits kind))

-- so for all threads
abbrev pub AllHoldInside : Image → State → Type 0
AllHoldInside image s = (t : Numbered) → Contains (numbered_threads image) t → HoldsInside image t s

-- untyped memory around a piece of memory stays the thread's own, in this slot or another
abbrev pub PoolsStay : Image → Numbered → State → State → Type 0
PoolsStay image t s after =
    (first size : ℕ) → Holds image t.thread s (IsUntypedAround first size) → Holds image t.thread after (IsUntypedAround first size)

abbrev pub AllPoolsStay : Image → State → State → Type 0
AllPoolsStay image s after = (t : Numbered) → Contains (numbered_threads image) t → PoolsStay image t s after
