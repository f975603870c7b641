-- A step back along the list leads to a slot that names the object too; before the last one there is none that does.
use Rattle.std.proofs.Common.{◌∙◌, sym, ap}
use Rattle.packed_slots.specs.Packing.{packed_slots}
use Rattle.packed_slots.specs.Sharing.{if_naming}
use Rattle.packed_slots.proofs.Naming.{first-naming, naming-some, step-back}
use Rattle.packed_slots.proofs.store.PackedSlots.first_naming.Goals as goal

pub back-smaller : goal.back-smaller
back-smaller c =
    let p = c.args.self.now in
    step-back p c.args.offset c.linked_before.ensures.packed c.back.here c.in-Some.before c.back.invariant
    (sym c.in-Some.is ∙ c.if_naming.ensures ∙ ap (if_naming (packed_slots p) c.args.offset) c.linked_before.ensures.value)

pub back-preserved : goal.back-preserved
back-preserved c =
    let p = c.args.self.now in
    (naming-some p c.args.offset c.linked_before.ensures.packed c.linked_before.result c.in-Some.before (sym c.if_naming.ensures ∙ c.in-Some.is)).1

pub returns : goal.returns
returns c =
    let p = c.args.self.now in
    first-naming p c.args.offset c.linked_before.ensures.packed c.back.here c.back.invariant
    (sym (c.if_naming.ensures ∙ ap (if_naming (packed_slots p) c.args.offset) c.linked_before.ensures.value) ∙ c.in_default.is)
