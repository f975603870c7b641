-- No slot so far is full.
use Rattle.std.proofs.Common.{ℕ, ◌≡◌, ◌+◌, ◌<◌, false}
use Rattle.model.specs.Capabilities.Slots.{is_full}
use Rattle.cnode_ops.proofs.windows.any_full.Given as goal

abbrev pub invariant-slots : goal.invariant-slots
invariant-slots g l = (i : ℕ) → i < l.index → is_full (g.S.SlotMap.slots l.store) (l.first + i) ≡ false
