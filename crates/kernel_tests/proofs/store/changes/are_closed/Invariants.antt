-- The slots so far are closed.
use Rattle.std.proofs.Common.{ℕ, ◌≡◌, ◌<◌, ◌≤◌, None}
use Rattle.kernel_tests.proofs.store.changes.are_closed.Given as goal

abbrev pub invariant-slots : goal.invariant-slots
invariant-slots g l = (s : ℕ) → l.first ≤ s → s < l.number → g.S.SlotMap.slots l.store s ≡ None
