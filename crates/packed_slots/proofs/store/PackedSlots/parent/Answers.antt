-- No slot is less deep than 0.
use Rattle.std.proofs.Common.{◌∙◌, length, sym, ap}
use Rattle.packed_slots.specs.Words.{words_in}
use Rattle.packed_slots.proofs.Reading.{back_none}
use Rattle.slots.specs.preorder.Chains.{back_above}
use Rattle.packed_slots.proofs.store.PackedSlots.parent.Goals as goal

pub returns-then-own_depth-eq0 : goal.returns-then-own_depth-eq0
returns-then-own_depth-eq0 c =
    let p = c.args.self.now in
    let w = words_in p.memory in
    back_none w.previous w.depth (length p.open_slots) (w.depth c.args.slot) (w.previous c.args.slot)
    (sym c.noted_depth-own_depth.ensures.value ∙ c.if-own_depth-eq0.true)

pub returns : goal.returns
returns c =
    let p = c.args.self.now in
    let w = words_in p.memory in
    c.back_above.ensures
    ∙ ap (λ d. back_above w.previous w.depth (length p.open_slots) d c.linked_before.result) c.noted_depth-own_depth.ensures.value
    ∙ ap (back_above w.previous w.depth (length p.open_slots) (w.depth c.args.slot)) c.linked_before.ensures.value
