-- The descendants are listed, and what goes is one of them.
use Rattle.std.proofs.Common.{◌≡◌, subst, sym, true}
use Rattle.cnode_ops.specs.Listed.{Lists}
use Rattle.cnode_ops.specs.Refusals.{goes}
use Rattle.cnode_ops.specs.Sets.{listed_in}
use Rattle.cnode_ops.specs.declared.sets.Removed.{Removed}
use Rattle.cnode_ops.proofs.RemovedLists.{below-listed, goes-below}
use Rattle.cnode_ops.proofs.sets.next_removed.Goals as goal
use Rattle.model.specs.Capabilities.Slots.{Slots}

pub next_below-requires-clause-known : goal.next_below-requires-clause-known
next_below-requires-clause-known g c = λ slot is.
    let slots : Slots = g.S.SlotMap.slots c.args.store.now in
    (goes-below slots c.in-Below.root slot (subst (λ (r : Removed). goes slots r slot ≡ true) c.in-Below.is (c.requires.known slot is))).1

pub returns-in-Below-clause-lists : goal.returns-in-Below-clause-lists
returns-in-Below-clause-lists g c =
    let slots : Slots = g.S.SlotMap.slots c.args.store.now in
    let order = g.S.SlotStore.order c.args.store.now in
    subst (λ (r : Removed). Lists (listed_in order slots r) (goes slots r)) (sym c.in-Below.is)
    (below-listed slots order c.in-Below.root c.next_below.ensures.derivation c.next_below.ensures.lists)
