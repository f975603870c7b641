-- The CNodes in the slots so far have all of theirs.
use Rattle.std.proofs.Common.{ℕ, ◌<◌}
use Rattle.model.specs.Capabilities.Slots.{capability_at}
use Rattle.cnode_ops.specs.Nodes.{HasOpenSlots}
use Rattle.kernel_tests.proofs.store.nodes.nodes_are_open.Given as goal

abbrev pub invariant-slots : goal.invariant-slots
invariant-slots g l = (slot : ℕ) → slot < l.number → HasOpenSlots (g.S.SlotMap.slots l.store) (capability_at (g.S.SlotMap.slots l.store) slot)
