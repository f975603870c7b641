-- The next slot in the links, or the first one back, or, where no slot is known that names the object, none.
use Rattle.std.proofs.Common.{◌∙◌, Some, None, sym, ap}
use Rattle.model.specs.Capabilities.Orders.{next_in}
use Rattle.packed_slots.specs.Packing.{packed_order, packed_slots}
use Rattle.packed_slots.specs.Sharing.{if_naming}
use Rattle.slots.specs.Listed.{naming}
use Rattle.packed_slots.proofs.Naming.{found-naming, naming-full, next-naming, none-alike}
use Rattle.packed_slots.proofs.store.PackedSlots.next_alike.Goals as goal

pub returns-in-Some-default-clause-next : goal.returns-in-Some-default-clause-next
returns-in-Some-default-clause-next c =
    let p = c.args.self.now in
    let slot = c.in-Some-default.slot in
    c.if_naming.ensures ∙ ap (if_naming (packed_slots p) c.args.object) c.linked_after.ensures.value
    ∙ next-naming p c.args.object c.is_packed.ensures.packed slot (c.requires.names slot c.in-Some-default.is-0)
    ∙ ap (next_in (naming (packed_order p) (packed_slots p) c.args.object)) (sym c.in-Some-default.is-0)

pub returns-in-None-Some-clause-lists : goal.returns-in-None-Some-clause-lists
returns-in-None-Some-clause-lists c = c.is_packed.ensures.packed.packed.listed

pub returns-in-None-Some-clause-found_known : goal.returns-in-None-Some-clause-found_known
returns-in-None-Some-clause-found_known c =
    found-naming c.args.self.now c.args.object c.is_packed.ensures.packed None (Some c.first_naming.result) c.first_naming.ensures

pub returns-in-None-Some-clause-found_full : goal.returns-in-None-Some-clause-found_full
returns-in-None-Some-clause-found_full c =
    naming-full c.args.self.now c.args.object (Some c.first_naming.result) (returns-in-None-Some-clause-found_known c)

pub returns-in-None-None-clause-next : goal.returns-in-None-None-clause-next
returns-in-None-None-clause-next c =
    let p = c.args.self.now in
    none-alike p c.args.object (c.requires.none c.in-None-None.is-1)
    ∙ ap (next_in (naming (packed_order p) (packed_slots p) c.args.object)) (sym c.in-None-None.is-0)

pub returns-in-None-None-clause-lists : goal.returns-in-None-None-clause-lists
returns-in-None-None-clause-lists c = c.is_packed.ensures.packed.packed.listed
