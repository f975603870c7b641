-- Step by step.
use Rattle.std.proofs.Common.{ℕ, ◌≡◌, ◌∙◌, ◌==◌, ◌+◌, Some, refl, sym, ap, subst, arith}
use Rattle.kernel_invariant.proofs.Laws.{of_slots-law}
use Rattle.objects.specs.Tables.{state_of}
use Rattle.cnode_ops.specs.Unsettled.{Covers}
use Rattle.model.specs.Capabilities.Slots.{IsOpen, Slots, empty_entry}
use Rattle.model.specs.Kernel.State.{State}
use Rattle.removal_laws.specs.Finishing.{StrayClosed, slots_from}
use Rattle.removal_laws.proofs.Laws.{IsPassed, passed-next, passed-objects, stray-empty}
use Rattle.cnode_ops.proofs.ClosedSlots.{is-zero}
use Rattle.cnode_ops.proofs.Unsettling.{lands-least, passed-covered, passed-end, passed-lands, passed-near}
use Rattle.cnode_ops.proofs.settling.close_strays.Goals as goal

pub new-requires : goal.new-requires
new-requires g c =
    let before : State = state_of c.args.objects.now (g.S.SlotMap.slots c.args.store.now) (g.S.SlotStore.memory c.args.store.now) in
    (passed-near before c.args.left.now (subst (λ (n : Slots). Covers n before c.args.left.now) (sym (of_slots-law _ _ _)) c.requires.covered)
    c.slots.at c.slots-test.true).1

pub slots-init : goal.slots-init
slots-init g c =
    let before : State = state_of c.args.objects.now (g.S.SlotMap.slots c.args.store.now) (g.S.SlotStore.memory c.args.store.now) in
    record {
      passed = passed-covered before c.args.left.now
          (subst (λ (n : Slots). Covers n before c.args.left.now) (sym (of_slots-law _ _ _)) c.requires.covered) c.requires.may;
      agree = c.requires.agree;
    }

pub close_stray-requires-clause-empty : goal.close_stray-requires-clause-empty
close_stray-requires-clause-empty g c = λ stray opens.
    let slots : Slots = g.S.SlotMap.slots c.slots.store in
    let before : State = state_of c.args.objects.now (g.S.SlotMap.slots c.args.store.now) (g.S.SlotStore.memory c.args.store.now) in
    let now : State = state_of c.args.objects.now slots (g.S.SlotStore.memory c.slots.store) in
    let passed : IsPassed before now c.slots.at = c.slots.invariant.passed in
    let has : now.slots ≡ slots = of_slots-law _ _ _ in
    let none : slots_from before c.slots.at ≡ 0 = sym (passed-objects before now c.slots.at c.slots.at passed) ∙ sym c.slots_of-own.ensures
    ∙ is-zero c.slots_of-own.result stray in
    subst (λ (n : ℕ). slots n ≡ Some empty_entry) (sym c.new.ensures)
    (sym (ap (λ (m : Slots). m c.slots.at) has)
    ∙ stray-empty before now c.slots.at passed none
    (subst (λ (m : Slots). IsOpen m c.slots.at) (sym has) (subst (λ (n : ℕ). IsOpen slots n) c.new.ensures opens)))

pub slots-preserved : goal.slots-preserved
slots-preserved g c =
    let slots : Slots = g.S.SlotMap.slots c.slots.store in
    let before : State = state_of c.args.objects.now (g.S.SlotMap.slots c.args.store.now) (g.S.SlotStore.memory c.args.store.now) in
    let now : State = state_of c.args.objects.now slots (g.S.SlotStore.memory c.slots.store) in
    let after : State = state_of c.args.objects.now (g.S.SlotMap.slots c.close_stray.new.store) (g.S.SlotStore.memory c.close_stray.new.store) in
    let passed : IsPassed before now c.slots.at = c.slots.invariant.passed in
    let own : ℕ = c.slots_of-own.result in
    let own_is : own ≡ slots_from before c.slots.at = c.slots_of-own.ensures ∙ passed-objects before now c.slots.at c.slots.at passed in
    let covers : Covers before.slots before c.args.left.now =
    subst (λ (n : Slots). Covers n before c.args.left.now) (sym (of_slots-law _ _ _)) c.requires.covered in
    let state : StrayClosed now c.slots.at (own == 0) after = subst (λ (n : ℕ). StrayClosed now n (own == 0) after) c.new.ensures
    (c.close_stray.ensures.state _ c.slots.invariant.agree) in
    record {
      passed = passed-lands before c.args.left.now covers after (c.slots.at + c.max.result) c.next_noted-at.result
          (subst (λ (n : ℕ). IsPassed before after (c.slots.at + n)) (sym c.max.ensures)
          (passed-next before now after c.slots.at own (own == 0) passed own_is refl state)) c.next_noted-at.ensures;
      agree = c.close_stray.ensures.agree _ c.slots.invariant.agree;
    }

pub returns-clause-state : goal.returns-clause-state
returns-clause-state g c =
    let before : State = state_of c.args.objects.now (g.S.SlotMap.slots c.args.store.now) (g.S.SlotStore.memory c.args.store.now) in
    passed-end before c.args.left.now (subst (λ (n : Slots). Covers n before c.args.left.now) (sym (of_slots-law _ _ _)) c.requires.covered) _
    c.slots.at c.slots.invariant.passed c.slots-test.false

pub slots-smaller : goal.slots-smaller
slots-smaller g c =
    let least = lands-least c.args.left.now.starts (c.slots.at + c.max.result) c.next_noted-at.result c.next_noted-at.ensures in
    omega (arith, least, c.max.ensures, c.slots-test.true)
