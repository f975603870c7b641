-- The slots so far are closed.
use Rattle.std.proofs.Common.{ℕ, ◌≡◌, ◌<◌, ◌≤◌, None}
use Rattle.kernel_tests.proofs.store.fresh.has_no_slot.Given as goal

abbrev pub invariant-slots : goal.invariant-slots
invariant-slots g l = (y : ℕ) → l.first ≤ y → y < l.slot → g.S.SlotMap.slots l.store y ≡ None
