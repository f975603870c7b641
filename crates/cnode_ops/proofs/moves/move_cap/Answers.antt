-- What is moved is what the definition says, and the CNode that is named in another slot had its slots before.
use Rattle.std.proofs.Common.{◌∙◌, Ok, sym, ap, subst}
use Rattle.std.proofs.lemmas.Result.{err_from_is_err_and}
use Rattle.model.proofs.Ancestors.{full-open}
use Rattle.model.specs.Capabilities.Slots.{Slots}
use Rattle.model.specs.Kernel.State.{with_slots}
use Rattle.cnode_ops.specs.Nodes.{CNodesAreOpen}
use Rattle.cnode_ops.proofs.Answered.{move-gives, move-unnamed}
use Rattle.cnode_ops.proofs.Kept.{nodes-moved}
use Rattle.cnode_ops.proofs.moves.move_cap.Goals as goal

pub returns-clause-nodes : goal.returns-clause-nodes
returns-clause-nodes g c =
    let slots : Slots = g.S.SlotMap.slots c.args.store.now in
    subst CNodesAreOpen (sym c.relocate.ensures.slots)
    (nodes-moved slots c.in_ok-to.from c.in_ok-to.to (full-open slots c.in_ok-to.from c.in_ok-to.ensures.full) c.requires.nodes)

pub returns-in_err-to-clause-outcome : goal.returns-in_err-to-clause-outcome
returns-in_err-to-clause-outcome g c = λ s call same_root same_node.
    let p = err_from_is_err_and c.from_residual.result c.from_residual.ensures.1 in
    rw (p.1, p.2) (move-unnamed s (g.S.SlotMap.slots c.args.store.now) call c.args.call.root c.args.call.node c.args.destination c.args.source same_root
    same_node _ (sym c.in_err-to.ensures.value))

pub relocate-requires-clause-full : goal.relocate-requires-clause-full
relocate-requires-clause-full g c = c.in_ok-to.ensures.full

pub relocate-requires-clause-empty : goal.relocate-requires-clause-empty
relocate-requires-clause-empty g c = c.in_ok-to.ensures.free

pub returns-clause-outcome : goal.returns-clause-outcome
returns-clause-outcome g c = λ s call same_root same_node.
    move-gives s (g.S.SlotMap.slots c.args.store.now) call c.args.call.root c.args.call.node c.args.destination c.args.source same_root same_node c.in_ok-to.to
    c.in_ok-to.from (sym c.in_ok-to.ensures.value)
    ∙ ap (λ (t : Slots). Ok (with_slots s t)) (sym c.relocate.ensures.slots)

pub returns-clause-bytes : goal.returns-clause-bytes
returns-clause-bytes g c = c.relocate.ensures.bytes
