-- The next slot in the links, if it is deeper.
use Rattle.std.proofs.Common.{◌∙◌, sym, ap}
use Rattle.packed_slots.specs.Words.{words_in}
use Rattle.packed_slots.proofs.Below.{below, below_none}
use Rattle.slots.specs.preorder.Chains.{if_deeper}
use Rattle.packed_slots.proofs.store.PackedSlots.linked_below.Goals as goal

pub returns-then-not-is_full-clause-next : goal.returns-then-not-is_full-clause-next
returns-then-not-is_full-clause-next c =
    let p = c.args.self.now in
    sym (below_none p c.args.root c.args.last c.is_packed.ensures.packed (sym c.is_full.ensures ∙ c.if-not-is_full.true))

pub returns-clause-next : goal.returns-clause-next
returns-clause-next c =
    let p = c.args.self.now in
    let w = words_in p.memory in
    c.if_deeper.ensures
    ∙ ap (λ d. if_deeper w.depth d c.linked_after-after.result) c.noted_depth.ensures.value
    ∙ ap (if_deeper w.depth (w.depth c.args.root)) (c.linked_after-after.ensures.value ∙ ap w.next c.unwrap_or.ensures)
    ∙ sym (below p c.args.root c.args.last c.is_packed.ensures.packed (sym c.is_full.ensures ∙ c.if-not-is_full.false) c.requires)
