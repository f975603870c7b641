-- A copy is what the definition says, and names no CNode but its source's.
use Rattle.std.proofs.Common.{◌∙◌, inl, Result, Ok, Err, not, sym, ap, subst}
use Rattle.std.proofs.lemmas.Result.{err_from_is_err_and}
use Rattle.model.specs.Capabilities.CapabilityKinds.{object_of}
use Rattle.model.specs.Capabilities.Slots.{Slots, is_empty}
use Rattle.model.specs.Kernel.Outcomes.{Gives}
use Rattle.model.specs.Kernel.State.{State}
use Rattle.model.specs.declared.capabilities.Cap.{Cap}
use Rattle.model.specs.declared.errors.KError.{KError}
use Rattle.derivation.specs.cap_copies.Copies.{copy_of}
use Rattle.cnode_ops.specs.Nodes.{HasOpenSlots}
use Rattle.cnode_ops.proofs.Answered.{child-bytes, child-gives, child-nodes, copy-gives, copy-unnamed}
use Rattle.cnode_ops.proofs.Kept.{node-made}
use Rattle.cnode_ops.proofs.Values.{copy-node, copy-some}
use Rattle.cnode_ops.proofs.copies.copy.Goals as goal

pub returns-in_err-to-clause-outcome : goal.returns-in_err-to-clause-outcome
returns-in_err-to-clause-outcome g c = λ s call same_root same_node.
    let p = err_from_is_err_and c.from_residual.result c.from_residual.ensures.1 in
    rw (p.1, p.2) (copy-unnamed s (g.S.SlotMap.slots c.args.store.now) call c.args.call.root c.args.call.node c.args.destination c.args.source c.args.rights
    same_root same_node _ (sym c.in_err-to.ensures.value))

pub returns-in_err-capability-clause-outcome : goal.returns-in_err-capability-clause-outcome
returns-in_err-capability-clause-outcome g c = λ s call same_root same_node.
    let slots : Slots = g.S.SlotMap.slots c.args.store.now in
    let p = err_from_is_err_and c.from_residual-in_err-capability.result c.from_residual-in_err-capability.ensures.1 in
    rw (p.1, p.2) (copy-gives s slots call c.args.call.root c.args.call.node c.args.destination c.args.source c.args.rights same_root same_node c.in_ok-to.to
    c.in_ok-to.from (Err _)
    (sym c.in_ok-to.ensures.value) (ap (λ (held : Cap). copy_of held c.args.rights) (sym c.capability.ensures.value) ∙ sym c.in_err-capability.ensures.value))

pub insert_child-requires-clause-empty : goal.insert_child-requires-clause-empty
insert_child-requires-clause-empty g c = c.in_ok-to.ensures.free

pub insert_child-requires-clause-valid : goal.insert_child-requires-clause-valid
insert_child-requires-clause-valid g c = c.in_ok-capability.ensures.valid c.capability.ensures.valid

pub insert_child-requires-clause-some : goal.insert_child-requires-clause-some
insert_child-requires-clause-some g c =
    copy-some c.capability.result c.args.rights c.in_ok-capability.capability (sym c.in_ok-capability.ensures.value)
    (ap (λ (held : Cap). not (is_empty held)) c.capability.ensures.value ∙ c.in_ok-to.ensures.full)

pub insert_child-requires-clause-full : goal.insert_child-requires-clause-full
insert_child-requires-clause-full g c = c.in_ok-to.ensures.full

pub insert_child-requires-clause-kin : goal.insert_child-requires-clause-kin
insert_child-requires-clause-kin g c = inl (c.in_ok-capability.ensures.kin ∙ ap object_of c.capability.ensures.value)

pub returns-clause-unchanged : goal.returns-clause-unchanged
returns-clause-unchanged g c = c.insert_child.ensures.same

pub returns-clause-bytes : goal.returns-clause-bytes
returns-clause-bytes g c =
    child-bytes (g.S.SlotMap.slots c.args.store.now) g.S.SlotStore.memory c.args.store.now c.insert_child.new.store c.insert_child.result
    c.insert_child.ensures.bytes c.insert_child.ensures.same

pub returns-clause-outcome : goal.returns-clause-outcome
returns-clause-outcome g c = λ s call same_root same_node.
    let slots : Slots = g.S.SlotMap.slots c.args.store.now in
    let after : Slots = g.S.SlotMap.slots c.insert_child.new.store in
    let to = c.in_ok-to.to in
    let from = c.in_ok-to.from in
    let made = c.in_ok-capability.capability in
    let e = copy-gives s slots call c.args.call.root c.args.call.node c.args.destination c.args.source c.args.rights same_root same_node to from (Ok made)
    (sym c.in_ok-to.ensures.value) (ap (λ (held : Cap). copy_of held c.args.rights) (sym c.capability.ensures.value) ∙ sym c.in_ok-capability.ensures.value) in
    subst (λ (defined : Result State KError). Gives defined s after c.insert_child.result) (sym e)
    (child-gives s slots after to from made c.insert_child.result c.insert_child.ensures.when c.insert_child.ensures.slots c.insert_child.ensures.deep)

pub returns-clause-nodes : goal.returns-clause-nodes
returns-clause-nodes g c =
    let slots : Slots = g.S.SlotMap.slots c.args.store.now in
    let from = c.in_ok-to.from in
    let made = c.in_ok-capability.capability in
    let named = copy-node c.capability.result c.args.rights made (sym c.in_ok-capability.ensures.value) in
    let here = node-made slots c.capability.result made named (subst (HasOpenSlots slots) (sym c.capability.ensures.value) (c.requires.nodes.nodes from)) in
    child-nodes g.S.SlotMap.slots c.args.store.now c.insert_child.new.store c.in_ok-to.to from made c.insert_child.result c.insert_child.ensures.slots
    c.insert_child.ensures.same c.requires.nodes here
