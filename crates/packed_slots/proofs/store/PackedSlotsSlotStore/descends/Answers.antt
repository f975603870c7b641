-- What the way back finds is the root.
use Rattle.std.proofs.Common.{◌∙◌, ◌+◌, ◌&&◌, length, sym, ap, arith}
use Rattle.std.proofs.lemmas.Bool.{lt-ltb, le-ltb}
use Rattle.packed_slots.specs.Words.{is_one, words_in}
use Rattle.packed_slots.proofs.Reading.{descent-found, some-open}
use Rattle.slots.specs.preorder.Chains.{back_above}
use Rattle.packed_slots.proofs.store.PackedSlotsSlotStore.descends.Goals as goal

pub returns-then-noted_depth-root_depth-clause-test : goal.returns-then-noted_depth-root_depth-clause-test
returns-then-noted_depth-root_depth-clause-test c =
    let p = c.args.self.now in
    let w = words_in p.memory in
    let root = c.args.root in
    let s = c.args.slot in
    sym (descent-found p root s c.noted_depth.ensures.packed (some-open p s c.requires)
    ∙ ap (λ b. b && is_one root (back_above w.previous w.depth (length p.open_slots) (w.depth root + 1) (w.previous s)))
    (le-ltb (w.depth root) (w.depth s)
    (omega (arith, c.if-noted_depth-root_depth.true, c.noted_depth.ensures.value, c.noted_depth-root_depth.ensures.value))))

pub returns-then-noted_depth-root_depth-clause-derivation : goal.returns-then-noted_depth-root_depth-clause-derivation
returns-then-noted_depth-root_depth-clause-derivation c = c.noted_depth.ensures.packed.packed.derivation

pub returns-clause-test : goal.returns-clause-test
returns-clause-test c =
    let p = c.args.self.now in
    let w = words_in p.memory in
    let root = c.args.root in
    let s = c.args.slot in
    c.is_slot.ensures
    ∙ ap (is_one root) (c.back_above.ensures
    ∙ ap (λ d. back_above w.previous w.depth (length p.open_slots) (d + 1) c.linked_before.result) c.noted_depth-root_depth.ensures.value
    ∙ ap (back_above w.previous w.depth (length p.open_slots) (w.depth root + 1)) c.linked_before.ensures.value)
    ∙ sym (descent-found p root s c.noted_depth.ensures.packed (some-open p s c.requires)
    ∙ ap (λ b. b && is_one root (back_above w.previous w.depth (length p.open_slots) (w.depth root + 1) (w.previous s)))
    (lt-ltb (w.depth root) (w.depth s)
    (omega (arith, c.if-noted_depth-root_depth.false, c.noted_depth.ensures.value, c.noted_depth-root_depth.ensures.value))))

pub returns-clause-derivation : goal.returns-clause-derivation
returns-clause-derivation c = c.noted_depth.ensures.packed.packed.derivation
