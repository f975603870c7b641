-- The boot CNode's capability is one.
use Rattle.std.proofs.Common.{ℕ, ◌-◌, ap}
use Rattle.cnode_ops.proofs.Laws.{root-valid}
use Rattle.kernel_machine.proofs.boot_calls.boot_root.Goals as goal
use Rattle.model.specs.declared.capabilities.Cap.TheVariants.{CNode}
use Rattle.soundness.specs.Calls.{of_loader}

pub returns-clause-valid : goal.returns-clause-valid
returns-clause-valid g c = root-valid _ _ c.kernel.invariant.sound (of_loader (ap (λ (n : ℕ). CNode 0 n (32 - n)) c.boot_radix-radix.ensures.value))
