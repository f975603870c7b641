-- The slot of the line is full, or it is not.
use Rattle.std.proofs.Common.{ℕ, ◌≡◌, ◌∙◌, false, refl, sym, ap, subst}
use Rattle.model.specs.Capabilities.Slots.{IsFull, Slots, is_full}
use Rattle.model.specs.Kernel.Removal.{emptied}
use Rattle.model.specs.Kernel.State.{State}
use Rattle.objects.specs.Tables.{state_of}
use Rattle.removal_laws.specs.Steps.{alone, bound, unbound}
use Rattle.cnode_ops.proofs.removal.empty_binding.Goals as goal

pub returns-then-is_taken-clause-state : goal.returns-then-is_taken-clause-state
unfolding state_of
returns-then-is_taken-clause-state g c =
    let slots : Slots = g.S.SlotMap.slots c.args.store.now in
    let here = c.binding-slot.ensures slots (g.S.SlotStore.memory c.args.store.now) in
    let before : State = state_of c.args.objects.now slots (g.S.SlotStore.memory c.args.store.now) in
    bound c.if-not-taken.false (subst (IsFull slots) here (sym c.is_taken.ensures ∙ c.if-is_taken.true))
    (c.empty_slot-held.ensures.state ∙ ap (λ (n : ℕ). emptied before (alone n)) here)

pub returns-else-is_taken-clause-state : goal.returns-else-is_taken-clause-state
unfolding state_of
returns-else-is_taken-clause-state g c =
    let slots : Slots = g.S.SlotMap.slots c.args.store.now in
    let here = c.binding-slot.ensures slots (g.S.SlotStore.memory c.args.store.now) in
    unbound c.if-not-taken.false (subst (λ (n : ℕ). is_full slots n ≡ false) here (sym c.is_taken.ensures ∙ c.if-is_taken.false)) refl
