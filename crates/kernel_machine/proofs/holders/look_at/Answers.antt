-- What the slot holds, with the place of its parent.
use Rattle.std.proofs.Common.{◌+◌, ◌/◌, ◌∙◌, Some, option_map, sym, ap, subst}
use Rattle.kernel_machine.proofs.HeldSlots.{parent-held, slot-inside}
use Rattle.kernel_machine.proofs.holders.look_at.Goals as goal
use Rattle.kernel_machine.specs.Setups.{entry_of}
use Rattle.objects.specs.Lives.{state_in}
use Rattle.model.specs.Kernel.Soundness.{IsSound}
use Rattle.cnode_ops.proofs.Laws.{whole-of}

pub returns-in_default-clause-held : goal.returns-in_default-clause-held
returns-in_default-clause-held g c =
    let of_kernel = c.live.view_is ∙ c.kernel.view_is in
    ap (option_map entry_of) (sym c.in_default.is)
    ∙ (c.entry_behind.ensures ∙ ap (λ k. g.S.SlotMap.slots k.store (c.args.holder / 16 + c.args.index)) of_kernel)
    ∙ slot-inside c.args.kernel.now.tables (g.S.SlotMap.slots c.args.kernel.now.store) (g.S.SlotStore.memory c.args.kernel.now.store) c.args.holder c.args.index
    c.count_slots.result c.count_slots.ensures
    c.if-index-count_slots.false

pub place_of-requires-clause-held : goal.place_of-requires-clause-held
place_of-requires-clause-held g c =
    let whole = whole-of g.S.SlotMap.slots g.S.SlotStore.memory c.live.inside.objects c.live.inside.store c.kernel.invariant c.live.view_is c.live.invariant in
    let of_kernel = c.live.view_is ∙ c.kernel.view_is in
    parent-held c.args.kernel.now.tables (g.S.SlotMap.slots c.args.kernel.now.store) (g.S.SlotStore.memory c.args.kernel.now.store) _ c.in-Some-parent.slot
    (entry_of (c.in-Some.capability, c.in-Some.parent)) (subst (λ k. IsSound (state_in g.S.SlotMap.slots g.S.SlotStore.memory k)) of_kernel whole.sound)
    (sym (c.entry_behind.ensures ∙ ap (λ k. g.S.SlotMap.slots k.store (c.args.holder / 16 + c.args.index)) of_kernel) ∙ ap (option_map entry_of) c.in-Some.is)
    c.in-Some-parent.is

pub returns-in-Some-parent-clause-held : goal.returns-in-Some-parent-clause-held
returns-in-Some-parent-clause-held g c =
    let of_kernel = c.live.view_is ∙ c.kernel.view_is in
    (λ i. Some (entry_of (c.in-Some.capability, Some (c.place_of.ensures.number i))))
    ∙ ap (λ parent. Some (entry_of (c.in-Some.capability, parent))) (sym c.in-Some-parent.is)
    ∙ ap (option_map entry_of) (sym c.in-Some.is) ∙ (c.entry_behind.ensures ∙ ap (λ k. g.S.SlotMap.slots k.store (c.args.holder / 16 + c.args.index)) of_kernel)
    ∙ slot-inside c.args.kernel.now.tables (g.S.SlotMap.slots c.args.kernel.now.store) (g.S.SlotStore.memory c.args.kernel.now.store) c.args.holder c.args.index
    c.count_slots.result c.count_slots.ensures
    c.if-index-count_slots.false

pub returns-in-None-clause-held : goal.returns-in-None-clause-held
returns-in-None-clause-held g c =
    let of_kernel = c.live.view_is ∙ c.kernel.view_is in
    ap (λ parent. Some (entry_of (c.in-Some.capability, parent))) (sym c.in-None.is)
    ∙ ap (option_map entry_of) (sym c.in-Some.is) ∙ (c.entry_behind.ensures ∙ ap (λ k. g.S.SlotMap.slots k.store (c.args.holder / 16 + c.args.index)) of_kernel)
    ∙ slot-inside c.args.kernel.now.tables (g.S.SlotMap.slots c.args.kernel.now.store) (g.S.SlotStore.memory c.args.kernel.now.store) c.args.holder c.args.index
    c.count_slots.result c.count_slots.ensures
    c.if-index-count_slots.false
