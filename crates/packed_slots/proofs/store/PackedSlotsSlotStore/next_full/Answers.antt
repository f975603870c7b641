-- The linked slot is the next one.
use Rattle.std.proofs.Common.{◌∙◌, sym, ap, subst}
use Rattle.model.specs.Capabilities.Orders.{next_in}
use Rattle.packed_slots.specs.Packing.{IsPacked, Packed, packed_order}
use Rattle.packed_slots.proofs.Reading.{next-found}
use Rattle.packed_slots.proofs.store.PackedSlotsSlotStore.next_full.Goals as goal

pub returns-in-None-clause-next : goal.returns-in-None-clause-next
returns-in-None-clause-next c =
    let p = c.args.self.now in
    let packed = subst IsPacked c.self.view_is c.self.invariant in
    ap (λ (q : Packed). q.first) c.self.view_is ∙ packed.packed.begins ∙ ap (next_in (packed_order p)) (sym c.in-None.is)

pub returns-in-None-clause-lists : goal.returns-in-None-clause-lists
returns-in-None-clause-lists c = (subst IsPacked c.self.view_is c.self.invariant).packed.listed

pub returns-in-None-clause-derivation : goal.returns-in-None-clause-derivation
returns-in-None-clause-derivation c = (subst IsPacked c.self.view_is c.self.invariant).packed.derivation

pub returns-in-Some-clause-next : goal.returns-in-Some-clause-next
returns-in-Some-clause-next c =
    let p = c.args.self.now in
    c.linked_after.ensures.value ∙ next-found p c.in-Some.slot c.linked_after.ensures.packed (c.requires c.in-Some.slot c.in-Some.is)
    ∙ ap (next_in (packed_order p)) (sym c.in-Some.is)

pub returns-in-Some-clause-lists : goal.returns-in-Some-clause-lists
returns-in-Some-clause-lists c = c.linked_after.ensures.packed.packed.listed

pub returns-in-Some-clause-derivation : goal.returns-in-Some-clause-derivation
returns-in-Some-clause-derivation c = c.linked_after.ensures.packed.packed.derivation
