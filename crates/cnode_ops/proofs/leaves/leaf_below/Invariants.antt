-- A full slot below the root.
use Rattle.std.proofs.Common.{◌≡◌, true}
use Rattle.cnode_ops.proofs.leaves.leaf_below.Given as goal
use Rattle.model.specs.Capabilities.Slots.{IsFull, is_descendant}

abbrev pub invariant-down : goal.invariant-down
invariant-down g l =
    let slots = g.S.SlotMap.slots l.store in
    record {
      full : IsFull slots l.leaf;
      below : is_descendant slots l.fn.root l.leaf ≡ true;
    }
