-- The watermark alone changes.
use Rattle.std.proofs.Common.{◌∙◌, refl, sym, ap, subst}
use Rattle.kernel_invariant.proofs.Laws.{agree_bytes-law, agree_unused-law, slots-law}
use Rattle.kernel_invariant.specs.Wholeness.{Agreed}
use Rattle.model.specs.Capabilities.Slots.{Slots, recapped}
use Rattle.objects.specs.Tables.{state_of}
use Rattle.removal_laws.specs.Steps.{reset, unused}
use Rattle.cnode_ops.proofs.emptying.rewind.Goals as goal

pub returns-clause-slots : goal.returns-clause-slots
returns-clause-slots g c =
    reset c.requires.childless
    (c.set_cap.ensures.slots ∙ ap (λ k. recapped (g.S.SlotMap.slots c.args.store.now) c.args.parent (unused k))
    (sym c.in-Untyped.is ∙ c.capability.ensures.value))

pub returns-clause-state : goal.returns-clause-state
returns-clause-state g c = λ o agreed. slots-law o _ (g.S.SlotMap.slots c.set_cap.new.self) _ _ agreed.1 c.set_cap.ensures.bytes

pub returns-clause-agree : goal.returns-clause-agree
returns-clause-agree g c = λ o agreed.
    let slots = g.S.SlotMap.slots c.args.store.now in
    let bytes = agree_bytes-law o slots _ _ agreed c.set_cap.ensures.bytes in
    let used = c.set_cap.ensures.slots ∙ ap (λ k. recapped slots c.args.parent (unused k)) (sym c.in-Untyped.is ∙ c.capability.ensures.value) in
    subst (λ (t : Slots). Agreed o t (g.S.SlotStore.memory c.set_cap.new.self)) (sym used) (agree_unused-law o slots _ c.args.parent bytes c.requires.full)

pub returns-in_default-clause-state : goal.returns-in_default-clause-state
unfolding state_of
returns-in_default-clause-state g c = λ o agreed. refl
