-- What is known of the capability that a system call names.
-- seL4 Reference Manual, "Capability-based Access Control".
use Rattle.std.specs.Prelude.{ℕ, ◌≡◌, Some}
use Rattle.model.specs.Capabilities.CapabilityWords.{IsCapability}
use Rattle.model.specs.Capabilities.Slots.{IsFull, capability_at}
use Rattle.model.specs.Kernel.Kinds.{Names, kind_at}
use Rattle.model.specs.Kernel.Retype.{NewObject}
use Rattle.model.specs.Kernel.State.{State}
use Rattle.model.specs.declared.capabilities.Cap.{Cap}

-- its fields are in their ranges, and the object that it names is there
pub record IsThere (s : State) (capability : Cap) : Type 0 where
  pub valid : IsCapability capability
  pub named : (kind : NewObject) (offset : ℕ) → Names kind offset capability → kind_at s offset ≡ Some kind

-- and a slot holds it
pub record IsHeld (s : State) (slot : ℕ) (capability : Cap) : Type 0 where
  pub held : capability_at s.slots slot ≡ capability
  pub full : IsFull s.slots slot
  pub there : IsThere s capability
