-- The one after which none goes.
use Rattle.std.proofs.Common.{◌∙◌, Some, sym}
use Rattle.cnode_ops.specs.Refusals.{goes}
use Rattle.cnode_ops.specs.Sets.{listed_in}
use Rattle.cnode_ops.proofs.FullSlots.{fewer-behind, found-member}
use Rattle.cnode_ops.proofs.refusals.last_removed.Goals as goal
use Rattle.model.specs.Capabilities.Slots.{Slots}

pub slots-smaller : goal.slots-smaller
slots-smaller g c =
    let slots : Slots = g.S.SlotMap.slots c.args.store.now in
    fewer-behind (listed_in (g.S.SlotStore.order c.args.store.now) slots c.args.set.now) (goes slots c.args.set.now) c.next_removed.ensures.lists
    (Some c.slots.last) c.in-Some.slot (sym c.in-Some.is ∙ c.next_removed.ensures.next)

pub slots-preserved : goal.slots-preserved
slots-preserved g c =
    let slots : Slots = g.S.SlotMap.slots c.args.store.now in
    found-member (listed_in (g.S.SlotStore.order c.args.store.now) slots c.args.set.now) (goes slots c.args.set.now) c.next_removed.ensures.lists
    (Some c.slots.last) c.in-Some.slot (sym c.in-Some.is ∙ c.next_removed.ensures.next)

pub returns : goal.returns
returns g c = record { goes_too = c.slots.invariant; none_after = sym c.next_removed.ensures.next ∙ c.in_default.is }
