-- The slots so far map nothing.
use Rattle.std.proofs.Common.{ℕ, ◌≡◌, ◌==◌, ◌<◌, true}
use Rattle.model.specs.Capabilities.Slots.{capability_at}
use Rattle.kernel_tests.specs.Fresh.{maps_nothing}
use Rattle.kernel_tests.proofs.store.fresh.map_nothing.Given as goal

abbrev pub invariant-slots : goal.invariant-slots
invariant-slots g l = (y : ℕ) → y < l.number → maps_nothing l.root l.table (y == l.slot) (capability_at (g.S.SlotMap.slots l.store) y) ≡ true
