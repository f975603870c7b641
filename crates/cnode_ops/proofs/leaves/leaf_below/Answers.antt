-- What descends from it descends from the root.
use Rattle.cnode_ops.proofs.LowestSlots.{below-below}
use Rattle.cnode_ops.proofs.leaves.leaf_below.Goals as goal

pub down-preserved : goal.down-preserved
down-preserved g c = record {
  full = c.in-Some.ensures.found_full;
  below = below-below (g.S.SlotMap.slots c.args.store.now) c.args.root c.down.leaf c.in-Some.child c.next_below.ensures.derivation c.down.invariant.below
      c.in-Some.ensures.found_known;
}
