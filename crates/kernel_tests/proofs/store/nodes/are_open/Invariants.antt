-- The slots so far are open.
use Rattle.std.proofs.Common.{ℕ, ◌+◌, ◌<◌}
use Rattle.model.specs.Capabilities.Slots.{IsOpen}
use Rattle.kernel_tests.proofs.store.nodes.are_open.Given as goal

abbrev pub invariant-slots : goal.invariant-slots
invariant-slots g l = (index : ℕ) → index < l.index → IsOpen (g.S.SlotMap.slots l.store) (l.first + index)
