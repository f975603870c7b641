-- Where an object that ends has a full slot, it is asked of all of them whether they stay.
use Rattle.std.proofs.Common.{ℕ, ◌∙◌, ◌/◌, Bool, None, List, length, sym}
use Rattle.cnode_ops.specs.Refusals.{goes}
use Rattle.cnode_ops.specs.Sets.{listed_in}
use Rattle.cnode_ops.proofs.EndingSlots.{none-refused, nothing-refused}
use Rattle.cnode_ops.proofs.FullSlots.{behind-first, none-passes}
use Rattle.cnode_ops.proofs.RefusedLaw.{refused-answer}
use Rattle.cnode_ops.proofs.NearSlots.{counted-near}
use Rattle.cnode_ops.proofs.refusals.wants_revoke_first.Goals as goal
use Rattle.model.specs.Capabilities.Slots.{Slots}

pub returns-in_default : goal.returns-in_default
returns-in_default g c = λ s.
    let slots : Slots = g.S.SlotMap.slots c.args.store.now in
    let bytes : ℕ = length (g.S.SlotStore.memory c.args.store.now) in
    let list : List ℕ = listed_in (g.S.SlotStore.order c.args.store.now) slots c.args.set in
    let member : ℕ → Bool = goes slots c.args.set in
    refused-answer s c.args.set slots bytes _ (counted-near _ _ c.count-count.result c.count-count.ensures.value c.count-count.ensures.near)
    (nothing-refused slots (bytes / 16) c.args.set
    (none-passes list member c.next_removed.ensures.lists member None (behind-first list member member) (sym c.in_default.is ∙ c.next_removed.ensures.next)
    (λ slot is. is)))

pub returns-then-not-any_ends_full : goal.returns-then-not-any_ends_full
returns-then-not-any_ends_full g c = λ s.
    let slots : Slots = g.S.SlotMap.slots c.args.store.now in
    let bytes : ℕ = length (g.S.SlotStore.memory c.args.store.now) in
    refused-answer s c.args.set slots bytes _ (counted-near _ _ c.count-count.result c.count-count.ensures.value c.count-count.ensures.near)
    (none-refused slots (bytes / 16) c.args.set (c.any_ends_full.ensures c.if-not-any_ends_full.true))

pub returns : goal.returns
returns g c = λ s.
    refused-answer s c.args.set (g.S.SlotMap.slots c.args.store.now) (length (g.S.SlotStore.memory c.args.store.now)) _
    (counted-near _ _ c.count-count.result c.count-count.ensures.value c.count-count.ensures.near)
    (sym c.any_ends_filled.ensures)
