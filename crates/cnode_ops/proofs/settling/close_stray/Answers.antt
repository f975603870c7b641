-- The state follows the slots.
use Rattle.std.proofs.Common.{◌≡◌, ◌∙◌, None, sym, ap, subst}
use Rattle.kernel_invariant.proofs.Laws.{agree_bytes-law, agree_closed-law, of_slots-law, slots-law}
use Rattle.kernel_invariant.specs.Wholeness.{Agreed}
use Rattle.objects.specs.Tables.{state_of}
use Rattle.model.specs.Capabilities.Slots.{Slots}
use Rattle.model.specs.Kernel.State.{State}
use Rattle.removal_laws.specs.Finishing.{stray_closed}
use Rattle.cnode_ops.proofs.ClosedSlots.{none-closed, not-open, one-closed}
use Rattle.cnode_ops.proofs.settling.close_stray.Goals as goal

pub returns-then-is_open-clause-state : goal.returns-then-is_open-clause-state
returns-then-is_open-clause-state g c = λ o agreed.
    let slots : Slots = g.S.SlotMap.slots c.args.store.now in
    let now : Slots = g.S.SlotMap.slots c.close_range.new.self in
    let s : State = state_of o slots (g.S.SlotStore.memory c.args.store.now) in
    stray_closed c.if-not-stray.false
    (slots-law o slots now _ _ agreed.1 c.close_range.ensures.bytes
    ∙ one-closed s slots now c.args.slot (of_slots-law _ _ _) c.close_range.ensures.slots)

pub returns-else-is_open-clause-state : goal.returns-else-is_open-clause-state
returns-else-is_open-clause-state g c = λ o agreed.
    let slots : Slots = g.S.SlotMap.slots c.args.store.now in
    let s : State = state_of o slots (g.S.SlotStore.memory c.args.store.now) in
    let none : slots c.args.slot ≡ None = not-open slots c.args.slot (λ opens. sym (c.is_open.ensures.1 opens) ∙ c.if-is_open.false) in
    stray_closed c.if-not-stray.false (none-closed s c.args.slot (ap (λ (n : Slots). n c.args.slot) (of_slots-law _ _ _) ∙ none))

pub returns-then-is_open-clause-agree : goal.returns-then-is_open-clause-agree
returns-then-is_open-clause-agree g c = λ o agreed.
    let slots : Slots = g.S.SlotMap.slots c.args.store.now in
    subst (λ (n : Slots). Agreed o n (g.S.SlotStore.memory c.close_range.new.self)) (sym c.close_range.ensures.slots)
    (agree_closed-law o slots _ c.args.slot (agree_bytes-law o slots _ _ agreed c.close_range.ensures.bytes)
    (c.requires.empty c.if-not-stray.false (c.is_open.ensures.0 c.if-is_open.true)))
