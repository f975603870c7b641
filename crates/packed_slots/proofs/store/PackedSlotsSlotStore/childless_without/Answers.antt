-- By the slot before, and by the next slot.
use Rattle.std.proofs.Common.{◌∙◌, Some, sym, ap}
use Rattle.packed_slots.specs.Sharing.{is_as_deep}
use Rattle.packed_slots.specs.Words.{Words, words_in}
use Rattle.packed_slots.proofs.Children.{beside-brother, beside-next, beside-none, first-none, one-deeper}
use Rattle.packed_slots.proofs.ChildTests.{as-deep, less-deep, no-deeper, some-deep}
use Rattle.packed_slots.proofs.store.PackedSlotsSlotStore.childless_without.Goals as goal

pub returns-in_default : goal.returns-in_default
returns-in_default c =
    let p = c.args.self.now in
    first-none p c.args.slot c.noted_depth-own_depth.ensures.packed c.requires (sym c.linked_before.ensures.value ∙ c.in_default.is)

pub returns-then-is_as_deep : goal.returns-then-is_as_deep
returns-then-is_as_deep c =
    let p = c.args.self.now in
    let w : Words = words_in p.memory in
    beside-brother p c.args.slot c.noted_depth-own_depth.ensures.packed c.requires c.in-Some.before (sym c.linked_before.ensures.value ∙ c.in-Some.is)
    (as-deep w (w.depth c.args.slot) c.in-Some.before
    (sym (c.is_as_deep.ensures ∙ ap (λ d. is_as_deep w d (Some c.in-Some.before)) c.noted_depth-own_depth.ensures.value) ∙ c.if-is_as_deep.true))

pub returns-then-is_as_deep-2 : goal.returns-then-is_as_deep-2
returns-then-is_as_deep-2 c =
    let p = c.args.self.now in
    let w : Words = words_in p.memory in
    let back = sym c.linked_before.ensures.value ∙ c.in-Some.is in
    let less = less-deep w (w.depth c.args.slot) c.in-Some.before
    (sym (c.is_as_deep.ensures ∙ ap (λ d. is_as_deep w d (Some c.in-Some.before)) c.noted_depth-own_depth.ensures.value) ∙ c.if-is_as_deep.false) in
    let found = some-deep w (w.depth c.args.slot) (w.next c.args.slot)
    (sym (c.is_as_deep-2.ensures ∙ ap (λ d. is_as_deep w d c.linked_after.result) c.noted_depth-own_depth.ensures.value
    ∙ ap (is_as_deep w (w.depth c.args.slot)) c.linked_after.ensures.value) ∙ c.if-is_as_deep-2.true) in
    beside-next p c.args.slot c.noted_depth-own_depth.ensures.packed c.requires c.in-Some.before back less found.0 found.1 found.2

pub returns : goal.returns
returns c =
    let p = c.args.self.now in
    let w : Words = words_in p.memory in
    let back = sym c.linked_before.ensures.value ∙ c.in-Some.is in
    let less = less-deep w (w.depth c.args.slot) c.in-Some.before
    (sym (c.is_as_deep.ensures ∙ ap (λ d. is_as_deep w d (Some c.in-Some.before)) c.noted_depth-own_depth.ensures.value) ∙ c.if-is_as_deep.false) in
    let none = sym (c.is_as_deep-2.ensures ∙ ap (λ d. is_as_deep w d c.linked_after.result) c.noted_depth-own_depth.ensures.value
    ∙ ap (is_as_deep w (w.depth c.args.slot)) c.linked_after.ensures.value) ∙ c.if-is_as_deep-2.false in
    beside-none p c.args.slot c.noted_depth-own_depth.ensures.packed c.requires c.in-Some.before back less
    (no-deeper w (w.depth c.args.slot) (w.depth c.in-Some.before) (w.next c.args.slot)
    (one-deeper p c.args.slot c.noted_depth-own_depth.ensures.packed c.requires c.in-Some.before back less) none)
