-- The steps together.
use Rattle.std.proofs.Common.{◌≡◌, Some, refl, subst}
use Rattle.kernel_invariant.proofs.Laws.{of_slots-law, own-tables}
use Rattle.objects.specs.Tables.{state_of}
use Rattle.model.specs.Capabilities.Slots.{IsDerivation, Slots, parent_at}
use Rattle.model.specs.Kernel.State.{State}
use Rattle.removal_laws.proofs.Laws.{emptied-in-steps, parent-full}
use Rattle.cnode_ops.proofs.Childless.{childless-left, none-left, parent-was}
use Rattle.cnode_ops.proofs.Unsettling.{notes-slots, notes-then}
use Rattle.cnode_ops.proofs.emptying.empty_slot.Goals as goal

pub rewind-requires-clause-full : goal.rewind-requires-clause-full
rewind-requires-clause-full g c =
    let before : Slots = g.S.SlotMap.slots c.args.store.now in
    let taken : Slots = g.S.SlotMap.slots c.take_out-removed.new.store in
    let after : Slots = g.S.SlotMap.slots c.end_unnamed.new.store in
    let one : State = state_of c.args.objects.now taken (g.S.SlotStore.memory c.take_out-removed.new.store) in
    let two : State = state_of c.end_unnamed.new.objects after (g.S.SlotStore.memory c.end_unnamed.new.store) in
    let has = of_slots-law c.args.objects.now before (g.S.SlotStore.memory c.args.store.now) in
    let tree : IsDerivation before = subst (λ (n : Slots). IsDerivation n) has c.requires.ready.derivation in
    parent-full before taken after one two c.take_out-removed.result.0 c.args.slot c.in-Some.parent
    tree (parent-was before taken after one two c.take_out-removed.result.0 c.args.slot c.take_out-removed.ensures.slots (of_slots-law _ _ _)
    c.end_unnamed.ensures.state (of_slots-law _ _ _)
    c.take_out-removed.result.2 c.in-Some.parent c.take_out-removed.ensures.childless c.in-Some.is) c.take_out-removed.ensures.slots
    (of_slots-law _ _ _) c.end_unnamed.ensures.state (of_slots-law _ _ _)

pub rewind-requires-clause-childless : goal.rewind-requires-clause-childless
rewind-requires-clause-childless g c =
    let before : Slots = g.S.SlotMap.slots c.args.store.now in
    let taken : Slots = g.S.SlotMap.slots c.take_out-removed.new.store in
    let after : Slots = g.S.SlotMap.slots c.end_unnamed.new.store in
    let one : State = state_of c.args.objects.now taken (g.S.SlotStore.memory c.take_out-removed.new.store) in
    let two : State = state_of c.end_unnamed.new.objects after (g.S.SlotStore.memory c.end_unnamed.new.store) in
    childless-left before taken after one two c.take_out-removed.result.0 c.args.slot c.take_out-removed.ensures.slots (of_slots-law _ _ _)
    c.end_unnamed.ensures.state (of_slots-law _ _ _)
    c.take_out-removed.result.2 c.in-Some.parent c.take_out-removed.ensures.childless c.in-Some.is

pub returns-in-Some-clause-state : goal.returns-in-Some-clause-state
returns-in-Some-clause-state g c =
    let before : Slots = g.S.SlotMap.slots c.args.store.now in
    let memory = g.S.SlotStore.memory c.args.store.now in
    let taken : Slots = g.S.SlotMap.slots c.take_out-removed.new.store in
    let after : Slots = g.S.SlotMap.slots c.end_unnamed.new.store in
    let now : Slots = g.S.SlotMap.slots c.rewind.new.store in
    let zero_is : State = state_of c.args.objects.now before memory in
    let one : State = state_of c.args.objects.now taken (g.S.SlotStore.memory c.take_out-removed.new.store) in
    let two : State = state_of c.end_unnamed.new.objects after (g.S.SlotStore.memory c.end_unnamed.new.store) in
    let three : State = state_of c.end_unnamed.new.objects now (g.S.SlotStore.memory c.rewind.new.store) in
    emptied-in-steps zero_is one two three before taken after now c.args.slot c.take_out-removed.result.0 (Some c.in-Some.parent)
    (of_slots-law c.args.objects.now before memory) c.requires.ready c.requires.full
    c.take_out-removed.ensures.removed c.take_out-removed.ensures.slots (c.take_out-removed.ensures.state _ c.requires.agree) c.end_unnamed.ensures.state
    (of_slots-law _ _ _)
    (parent-was before taken after one two c.take_out-removed.result.0 c.args.slot c.take_out-removed.ensures.slots (of_slots-law _ _ _)
    c.end_unnamed.ensures.state (of_slots-law _ _ _)
    c.take_out-removed.result.2 c.in-Some.parent c.take_out-removed.ensures.childless c.in-Some.is)
    c.rewind.ensures.slots (c.rewind.ensures.state _ c.end_unnamed.ensures.agree)

pub returns-in_default-clause-state : goal.returns-in_default-clause-state
returns-in_default-clause-state g c =
    let before : Slots = g.S.SlotMap.slots c.args.store.now in
    let memory = g.S.SlotStore.memory c.args.store.now in
    let taken : Slots = g.S.SlotMap.slots c.take_out-removed.new.store in
    let after : Slots = g.S.SlotMap.slots c.end_unnamed.new.store in
    let zero_is : State = state_of c.args.objects.now before memory in
    let one : State = state_of c.args.objects.now taken (g.S.SlotStore.memory c.take_out-removed.new.store) in
    let two : State = state_of c.end_unnamed.new.objects after (g.S.SlotStore.memory c.end_unnamed.new.store) in
    let has : two.slots ≡ after = of_slots-law _ _ _ in
    emptied-in-steps zero_is one two two before taken after after c.args.slot c.take_out-removed.result.0 (parent_at before c.args.slot)
    (of_slots-law c.args.objects.now before memory) c.requires.ready c.requires.full
    c.take_out-removed.ensures.removed c.take_out-removed.ensures.slots (c.take_out-removed.ensures.state _ c.requires.agree) c.end_unnamed.ensures.state has
    refl
    (none-left before taken after one two c.take_out-removed.result.0 c.args.slot c.take_out-removed.ensures.slots (of_slots-law _ _ _)
    c.end_unnamed.ensures.state has
    c.take_out-removed.result.2 c.take_out-removed.ensures.childless c.in_default.is)
    (λ i. record two { slots = has i })

pub take_out-removed-requires-clause-tables : goal.take_out-removed-requires-clause-tables
take_out-removed-requires-clause-tables g c = own-tables _ _ _ c.requires.agree

pub end_unnamed-requires-clause-agree : goal.end_unnamed-requires-clause-agree
end_unnamed-requires-clause-agree g c = c.take_out-removed.ensures.agree _ c.requires.agree

pub returns-in-Some-clause-agree : goal.returns-in-Some-clause-agree
returns-in-Some-clause-agree g c = c.rewind.ensures.agree _ c.end_unnamed.ensures.agree

pub end_unnamed-requires-clause-lie : goal.end_unnamed-requires-clause-lie
end_unnamed-requires-clause-lie g c = (notes-slots _ _ c.args.left.now _ (c.take_out-removed.ensures.state _ c.requires.agree)).lie c.requires.lie

pub returns-in-Some-clause-noted : goal.returns-in-Some-clause-noted
returns-in-Some-clause-noted g c =
    notes-then _ _ _ c.args.left.now c.args.left.now c.end_unnamed.new.left
    (notes-slots _ _ c.args.left.now _ (c.take_out-removed.ensures.state _ c.requires.agree))
    (notes-then _ _ _ c.args.left.now c.end_unnamed.new.left c.end_unnamed.new.left c.end_unnamed.ensures.noted
    (notes-slots _ _ c.end_unnamed.new.left _ (c.rewind.ensures.state _ c.end_unnamed.ensures.agree)))

pub returns-in_default-clause-noted : goal.returns-in_default-clause-noted
returns-in_default-clause-noted g c =
    notes-then _ _ _ c.args.left.now c.args.left.now c.end_unnamed.new.left
    (notes-slots _ _ c.args.left.now _ (c.take_out-removed.ensures.state _ c.requires.agree))
    c.end_unnamed.ensures.noted
