-- CNodes whose slots are open.
-- seL4 Reference Manual, "Capability Spaces".
use Rattle.std.specs.Prelude.{ℕ, ◌≡◌, ◌+◌, ◌/◌, ◌^◌, ◌<◌}
use Rattle.model.specs.Capabilities.Slots.{IsOpen, Slots, capability_at}
use Rattle.model.specs.declared.capabilities.Cap.{Cap}
use Rattle.model.specs.declared.capabilities.Cap.TheVariants.{CNode}

-- if the capability names a CNode, each of its slots is open
pub record HasOpenSlots (slots : Slots) (capability : Cap) : Type 0 where
  pub each : (offset radix guard index : ℕ) → capability ≡ CNode offset radix guard → index < 2 ^ radix → IsOpen slots (offset / 16 + index)

-- so has each CNode that a capability in a slot names
pub record CNodesAreOpen (slots : Slots) : Type 0 where
  pub nodes : (slot : ℕ) → HasOpenSlots slots (capability_at slots slot)
