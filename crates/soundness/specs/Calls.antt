-- What is true of a call that a thread or the loader makes.
-- seL4 Reference Manual, "Capability-based Access Control".
use Rattle.std.specs.Prelude.{ℕ, ◌≡◌}
use Rattle.model.specs.Capabilities.Slots.{IsFull, capability_at}
use Rattle.model.specs.Kernel.Arguments.{Call}
use Rattle.model.specs.Kernel.State.{State}
use Rattle.model.specs.Images.Boot.{boot_root}
use Rattle.model.specs.declared.capabilities.Cap.{Cap}

-- a capability space: its root is in a slot, or is the loader's
pub data IsRoot (s : State) (root : Cap) : Type 0 where
  of_slot : (slot : ℕ) → capability_at s.slots slot ≡ root → IsRoot s root
  of_loader : root ≡ boot_root s.boot_radix → IsRoot s root

-- the invoked capability: what its slot holds, or the boot CNode's, which the loader invokes by itself
pub data IsInvoked (s : State) (call : Call) : Type 0 where
  held : capability_at s.slots call.slot ≡ call.capability → IsFull s.slots call.slot → IsInvoked s call
  boot : call.capability ≡ boot_root s.boot_radix → IsInvoked s call

pub record IsCall (s : State) (call : Call) : Type 0 where
  pub root : IsRoot s call.root
  pub invoked : IsInvoked s call
