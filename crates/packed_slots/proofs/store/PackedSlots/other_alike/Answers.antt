-- The slot before, or the next slot.
use Rattle.std.proofs.Common.{◌∙◌, sym, ap, subst}
use Rattle.packed_slots.specs.Packing.{packed_slots}
use Rattle.packed_slots.specs.Sharing.{IsOther, if_naming}
use Rattle.packed_slots.proofs.Naming.{beside-next, beside-some}
use Rattle.packed_slots.proofs.store.PackedSlots.other_alike.Goals as goal

pub returns-in-Some : goal.returns-in-Some
returns-in-Some c =
    let p = c.args.self.now in
    beside-some p c.args.object c.linked_before.ensures.packed c.args.slot c.in-Some.before c.requires
    (sym (c.if_naming.ensures ∙ ap (if_naming (packed_slots p) c.args.object) c.linked_before.ensures.value) ∙ c.in-Some.is)

pub returns-in-None : goal.returns-in-None
returns-in-None c =
    let p = c.args.self.now in
    subst (IsOther (packed_slots p) c.args.object c.args.slot)
    (sym (c.if_naming-in-None.ensures ∙ ap (if_naming (packed_slots p) c.args.object) c.linked_after.ensures.value))
    (beside-next p c.args.object c.linked_before.ensures.packed c.args.slot c.requires
    (sym (c.if_naming.ensures ∙ ap (if_naming (packed_slots p) c.args.object) c.linked_before.ensures.value) ∙ c.in-None.is))
