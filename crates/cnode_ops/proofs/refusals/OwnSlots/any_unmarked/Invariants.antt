-- No slot so far is full and not marked.
use Rattle.std.proofs.Common.{ℕ, ◌≡◌, ◌+◌, ◌<◌, false}
use Rattle.cnode_ops.specs.Marked.{is_unmarked}
use Rattle.cnode_ops.proofs.refusals.OwnSlots.any_unmarked.Given as goal

abbrev pub invariant-slots : goal.invariant-slots
invariant-slots g l = (i : ℕ) → i < l.index → is_unmarked (g.S.SlotMap.slots l.store) l.marks (l.self.first + i) ≡ false
