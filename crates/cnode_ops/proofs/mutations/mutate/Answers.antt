-- What is moved and changed is what the definition says, and the CNode that is named in another slot had its slots before.
use Rattle.std.proofs.Common.{◌∙◌, Ok, Err, not, sym, ap, subst}
use Rattle.std.proofs.lemmas.Result.{err_from_is_err_and}
use Rattle.model.proofs.Ancestors.{full-open}
use Rattle.model.specs.Capabilities.Slots.{IsFull, SameOutside, Slots, is_empty, parent_at, recapped, relocated}
use Rattle.model.specs.Kernel.State.{with_slots}
use Rattle.model.specs.declared.capabilities.Cap.{Cap}
use Rattle.derivation.specs.cap_copies.Copies.{mutation_of}
use Rattle.cnode_ops.specs.Nodes.{CNodesAreOpen, HasOpenSlots}
use Rattle.cnode_ops.proofs.Kept.{node-made, nodes-mutated}
use Rattle.cnode_ops.proofs.Mutated.{full-moved, mutate-gives, mutate-unnamed, mutated-valid, object-moved, outside-moved}
use Rattle.cnode_ops.proofs.Values.{mutated-node, mutated-some}
use Rattle.cnode_ops.proofs.mutations.mutate.Goals as goal

pub returns-in_err-to-clause-outcome : goal.returns-in_err-to-clause-outcome
returns-in_err-to-clause-outcome g c = λ s call same_root same_node.
    let p = err_from_is_err_and c.from_residual.result c.from_residual.ensures.1 in
    rw (p.1, p.2) (mutate-unnamed s (g.S.SlotMap.slots c.args.store.now) call c.args.call.root c.args.call.node c.args.destination c.args.source c.args.payload
    same_root same_node _
    (sym c.in_err-to.ensures.value))

pub returns-in_err-capability-clause-outcome : goal.returns-in_err-capability-clause-outcome
returns-in_err-capability-clause-outcome g c = λ s call same_root same_node.
    let slots : Slots = g.S.SlotMap.slots c.args.store.now in
    let p = err_from_is_err_and c.from_residual-in_err-capability.result c.from_residual-in_err-capability.ensures.1 in
    rw (p.1, p.2) (mutate-gives s slots call c.args.call.root c.args.call.node c.args.destination c.args.source c.args.payload same_root same_node c.in_ok-to.to
    c.in_ok-to.from (Err _)
    (sym c.in_ok-to.ensures.value) (ap (λ (held : Cap). mutation_of held c.args.payload) (sym c.capability.ensures.value)
    ∙ sym c.in_err-capability.ensures.value))

pub relocate-requires-clause-full : goal.relocate-requires-clause-full
relocate-requires-clause-full g c = c.in_ok-to.ensures.full

pub relocate-requires-clause-empty : goal.relocate-requires-clause-empty
relocate-requires-clause-empty g c = c.in_ok-to.ensures.free

pub set_cap-requires-clause-alike : goal.set_cap-requires-clause-alike
set_cap-requires-clause-alike g c =
    object-moved (g.S.SlotMap.slots c.args.store.now) (g.S.SlotMap.slots c.relocate.new.store) c.in_ok-to.from c.in_ok-to.to c.in_ok-capability.capability
    c.capability.result
    c.in_ok-to.ensures.full c.in_ok-to.ensures.free c.relocate.ensures.slots c.in_ok-capability.ensures.kin c.capability.ensures.value

pub set_cap-requires-clause-full : goal.set_cap-requires-clause-full
set_cap-requires-clause-full g c =
    subst (λ (t : Slots). IsFull t c.in_ok-to.to) (sym c.relocate.ensures.slots)
    (full-moved (g.S.SlotMap.slots c.args.store.now) c.in_ok-to.from c.in_ok-to.to c.in_ok-to.ensures.full c.in_ok-to.ensures.free)

pub set_cap-requires-clause-valid : goal.set_cap-requires-clause-valid
set_cap-requires-clause-valid g c = mutated-valid c.capability.result c.args.payload c.in_ok-capability.capability (sym c.in_ok-capability.ensures.value)
    c.capability.ensures.valid

pub set_cap-requires-clause-some : goal.set_cap-requires-clause-some
set_cap-requires-clause-some g c =
    mutated-some c.capability.result c.args.payload c.in_ok-capability.capability (sym c.in_ok-capability.ensures.value)
    (ap (λ (held : Cap). not (is_empty held)) c.capability.ensures.value ∙ c.in_ok-to.ensures.full)

pub returns-clause-outcome : goal.returns-clause-outcome
returns-clause-outcome g c = λ s call same_root same_node.
    let slots : Slots = g.S.SlotMap.slots c.args.store.now in
    let to = c.in_ok-to.to in
    let from = c.in_ok-to.from in
    let made = c.in_ok-capability.capability in
    mutate-gives s slots call c.args.call.root c.args.call.node c.args.destination c.args.source c.args.payload same_root same_node to from (Ok made)
    (sym c.in_ok-to.ensures.value) (ap (λ (held : Cap). mutation_of held c.args.payload) (sym c.capability.ensures.value)
    ∙ sym c.in_ok-capability.ensures.value)
    ∙ ap (λ (t : Slots). Ok (with_slots s t)) (sym (c.set_cap.ensures.slots ∙ ap (λ (t : Slots). recapped t to made) c.relocate.ensures.slots))

pub returns-clause-bytes : goal.returns-clause-bytes
returns-clause-bytes g c =
    let slots : Slots = g.S.SlotMap.slots c.args.store.now in
    let to = c.in_ok-to.to in
    let from = c.in_ok-to.from in
    outside-moved slots from to (g.S.SlotStore.memory c.args.store.now) (g.S.SlotStore.memory c.relocate.new.store) (g.S.SlotStore.memory c.set_cap.new.self)
    c.in_ok-to.ensures.full c.in_ok-to.ensures.free c.relocate.ensures.bytes
    (subst (λ (t : Slots). SameOutside t (g.S.SlotStore.memory c.relocate.new.store) (g.S.SlotStore.memory c.set_cap.new.self)) c.relocate.ensures.slots
    c.set_cap.ensures.bytes)

pub returns-clause-nodes : goal.returns-clause-nodes
returns-clause-nodes g c =
    let slots : Slots = g.S.SlotMap.slots c.args.store.now in
    let to = c.in_ok-to.to in
    let from = c.in_ok-to.from in
    let made = c.in_ok-capability.capability in
    let named = mutated-node c.capability.result c.args.payload made (sym c.in_ok-capability.ensures.value) in
    let here = node-made slots c.capability.result made named (subst (HasOpenSlots slots) (sym c.capability.ensures.value) (c.requires.nodes.nodes from)) in
    subst CNodesAreOpen (sym (c.set_cap.ensures.slots ∙ ap (λ (t : Slots). recapped t to made) c.relocate.ensures.slots))
    (nodes-mutated slots from to made (parent_at (relocated slots from to) to) (full-open slots from c.in_ok-to.ensures.full) c.requires.nodes here)
