-- A slot that goes.
use Rattle.std.proofs.Common.{◌≡◌, Some, length, true}
use Rattle.cnode_ops.specs.Refusals.{goes}
use Rattle.cnode_ops.specs.Sets.{listed_in}
use Rattle.cnode_ops.proofs.refusals.last_removed.Given as goal
use Rattle.model.proofs.Orders.{behind}

abbrev pub invariant-slots : goal.invariant-slots
invariant-slots g l = goes (g.S.SlotMap.slots l.store) l.set l.last ≡ true

abbrev pub decreases-slots : goal.decreases-slots
decreases-slots g l = length (behind (listed_in (g.S.SlotStore.order l.store) (g.S.SlotMap.slots l.store) l.set) (Some l.last))
