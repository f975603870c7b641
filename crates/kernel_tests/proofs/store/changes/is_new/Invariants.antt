-- The slots so far name another object, or none.
use Rattle.std.proofs.Common.{ℕ, ◌≢◌, ◌<◌, Some}
use Rattle.slots.specs.Kin.{object_at}
use Rattle.kernel_tests.proofs.store.changes.is_new.Given as goal

abbrev pub invariant-slots : goal.invariant-slots
invariant-slots g l = (y : ℕ) → y < l.number → object_at (g.S.SlotMap.slots l.store) y ≢ Some l.offset
