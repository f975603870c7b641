-- What a slot below the root is derived from is below it too, if it is not the root.
use Rattle.std.proofs.Common.{◌∙◌, sym}
use Rattle.cnode_ops.proofs.LowestSlots.{parent-below}
use Rattle.cnode_ops.proofs.leaves.parent_removed.Goals as goal
use Rattle.model.proofs.Ancestors.{parent-held}
use Rattle.model.specs.Capabilities.Slots.{Slots}

pub returns : goal.returns
returns g c =
    let slots : Slots = g.S.SlotMap.slots c.args.store.now in
    parent-below slots c.args.set.now c.in-Below.root c.args.slot c.in-Some.above c.depth-depth.ensures.derivation c.in-Below.is
    (parent-held slots c.args.slot _ c.get-held.ensures.held ∙ c.in-Some.is)
    (λ same. c.if-number.false (c.number.ensures.value ∙ same ∙ sym c.number-2.ensures.value))
    c.requires.member
