-- The slots so far are open and empty.
use Rattle.std.proofs.Common.{ℕ, ◌≡◌, ◌<◌, ◌≤◌, Some}
use Rattle.model.specs.Capabilities.Slots.{empty_entry}
use Rattle.kernel_tests.proofs.store.changes.are_free.Given as goal

abbrev pub invariant-slots : goal.invariant-slots
invariant-slots g l = (s : ℕ) → l.first ≤ s → s < l.number → g.S.SlotMap.slots l.store s ≡ Some empty_entry
