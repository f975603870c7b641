-- Each CNode takes one step of the definition.
use Rattle.std.proofs.Common.{◌≡◌, ◌∙◌, ◌+◌, ◌/◌, ◌<◌, ◌==◌, ◌||◌, true, false, not, Ok, sym, ap, arith}
use Rattle.model.specs.Capabilities.Lookup.{is_cnode, lookup, lookup_within}
use Rattle.model.specs.Capabilities.Slots.{capability_at}
use Rattle.model.specs.declared.capabilities.Cap.TheVariants.{CNode}
use Rattle.cspace.proofs.Places.{slot_below}
use Rattle.cspace.proofs.Steps.{lookup-no_cnode, lookup-fails, lookup-ends, lookup-goes_on}
use Rattle.cspace.proofs.lookups.find.Goals as goal

pub returns-in_default : goal.returns-in_default
returns-in_default g c =
    let rest = c.nodes.invariant.rest in
    record { value = sym (lookup-no_cnode rest.0 _ _ _ _ _ rest.1 c.in_default.not-CNode rest.2); held = tt }

pub returns-in-Err : goal.returns-in-Err
returns-in-Err g c =
    let rest = c.nodes.invariant.rest in
    let slots = g.S.SlotMap.slots c.args.slots.now in
    let address = c.start.inside.name.address in
    let start = c.args.start.now in
    let node : lookup_within rest.0 slots (CNode c.in-CNode.offset c.in-CNode.radix c.in-CNode.guard) address c.nodes.left
    ≡ lookup slots start.0 start.1.address start.1.depth =
    ap (λ held. lookup_within rest.0 slots held address c.nodes.left) (sym c.in-CNode.is) ∙ rest.2 in
    record { value = sym (lookup-fails rest.0 slots _ _ _ _ _ _ _ rest.1 node (sym c.resolve.ensures.value ∙ c.in-Err.is)); held = tt }

pub new-slot-requires : goal.new-slot-requires
new-slot-requires g c =
    let valid = rw c.in-CNode.is at c.nodes.invariant.valid in
    slot_below _ _ _ valid.2 valid.0.0 valid.0.1 c.in-Ok.ensures.index

pub returns-then-ends_at : goal.returns-then-ends_at
returns-then-ends_at g c =
    let rest = c.nodes.invariant.rest in
    let slots = g.S.SlotMap.slots c.args.slots.now in
    let address = c.start.inside.name.address in
    let start = c.args.start.now in
    let node : lookup_within rest.0 slots (CNode c.in-CNode.offset c.in-CNode.radix c.in-CNode.guard) address c.nodes.left
    ≡ lookup slots start.0 start.1.address start.1.depth =
    ap (λ held. lookup_within rest.0 slots held address c.nodes.left) (sym c.in-CNode.is) ∙ rest.2 in
    let here : capability_at slots (c.in-CNode.offset / 16 + c.in-Ok.place.0) ≡ c.capability-next.result = ap (capability_at slots) (sym c.new-slot.ensures)
    ∙ sym c.capability-next.ensures.value in
    let ends : (c.in-Ok.place.1 == 0 || not (is_cnode (capability_at slots (c.in-CNode.offset / 16 + c.in-Ok.place.0)))) ≡ true =
    ap (λ next. c.in-Ok.place.1 == 0 || not (is_cnode next)) here ∙ sym c.ends_at.ensures ∙ c.if-ends_at.true in
    record {
      value = ap (λ slot. Ok (slot, c.in-Ok.place.1)) c.new-slot.ensures
          ∙ sym (lookup-ends rest.0 slots _ _ _ _ _ _ _ _ rest.1 node (sym c.resolve.ensures.value ∙ c.in-Ok.is) ends);
      held = sym c.capability-next.ensures.value;
    }

pub nodes-preserved : goal.nodes-preserved
nodes-preserved g c =
    let rest = c.nodes.invariant.rest in
    let slots = g.S.SlotMap.slots c.args.slots.now in
    let address = c.start.inside.name.address in
    let start = c.args.start.now in
    let node : lookup_within rest.0 slots (CNode c.in-CNode.offset c.in-CNode.radix c.in-CNode.guard) address c.nodes.left
    ≡ lookup slots start.0 start.1.address start.1.depth =
    ap (λ held. lookup_within rest.0 slots held address c.nodes.left) (sym c.in-CNode.is) ∙ rest.2 in
    let here : capability_at slots (c.in-CNode.offset / 16 + c.in-Ok.place.0) ≡ c.capability-next.result = ap (capability_at slots) (sym c.new-slot.ensures)
    ∙ sym c.capability-next.ensures.value in
    let more : (c.in-Ok.place.1 == 0 || not (is_cnode (capability_at slots (c.in-CNode.offset / 16 + c.in-Ok.place.0)))) ≡ false =
    ap (λ next. c.in-Ok.place.1 == 0 || not (is_cnode next)) here ∙ sym c.ends_at.ensures ∙ c.if-ends_at.false in
    let valid = rw c.in-CNode.is at c.nodes.invariant.valid in
    let fewer : c.in-Ok.place.1 < c.nodes.left = omega (arith, c.in-Ok.ensures.fewer, valid.1) in
    let step = lookup-goes_on rest.0 slots _ _ _ _ _ _ _ _ rest.1 fewer node (sym c.resolve.ensures.value ∙ c.in-Ok.is) more in
    record {
      rest = (step.0, step.1, ap (λ next. lookup_within step.0 slots next address c.in-Ok.place.1) (sym here) ∙ step.2);
      valid = c.capability-next.ensures.valid;
      few = omega (arith, fewer);
    }
