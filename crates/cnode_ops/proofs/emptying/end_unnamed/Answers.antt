-- The object ends where no slot names it.
use Rattle.std.proofs.Common.{ℕ, ◌≡◌, ◌∙◌, true, false, Some, refl, sym, subst}
use Rattle.kernel_invariant.proofs.Laws.{of_slots-law}
use Rattle.model.specs.Capabilities.CapabilityKinds.{names_object, object_of}
use Rattle.model.specs.Capabilities.Slots.{Slots, capability_at}
use Rattle.removal_laws.specs.Steps.{ends, stays}
use Rattle.cnode_ops.proofs.Unsettling.{noted-fits, notes-ended}
use Rattle.cnode_ops.proofs.emptying.end_unnamed.Goals as goal

pub returns-then-is_shared-clause-state : goal.returns-then-is_shared-clause-state
returns-then-is_shared-clause-state g c =
    let has = of_slots-law c.args.objects.now (g.S.SlotMap.slots c.args.store.now) (g.S.SlotStore.memory c.args.store.now) in
    stays
    (subst (λ (t : Slots). (offset : ℕ) → object_of c.args.removed ≡ Some offset → (slot : ℕ) × (names_object offset (capability_at t slot) ≡ true)) (sym has)
    (c.requires.shared.some c.if-is_shared.true)) refl

pub returns-clause-state : goal.returns-clause-state
returns-clause-state g c =
    let has = of_slots-law c.args.objects.now (g.S.SlotMap.slots c.args.store.now) (g.S.SlotStore.memory c.args.store.now) in
    ends c.in-Some.offset (sym c.object_of.ensures ∙ c.in-Some.is)
    (subst (λ (t : Slots). (slot : ℕ) → names_object c.in-Some.offset (capability_at t slot) ≡ false) (sym has)
    (c.requires.shared.none c.if-is_shared.false c.in-Some.offset (sym c.object_of.ensures ∙ c.in-Some.is)))
    c.end_object.ensures.state

pub is_waited_at-waited-requires : goal.is_waited_at-waited-requires
is_waited_at-waited-requires g c = c.requires.agree.1

pub note_slots-requires : goal.note_slots-requires
note_slots-requires g c = noted-fits _ c.in-Some.offset c.slots_of-own.result c.requires.lie (sym c.slots_of-own.ensures)

pub returns-clause-noted : goal.returns-clause-noted
returns-clause-noted g c =
    notes-ended _ _ c.args.removed c.in-Some.offset c.slots_of-own.result c.is_waited_at-waited.result c.args.left.now c.note_slots.new.self _
    (sym c.object_of.ensures ∙ c.in-Some.is)
    c.slots_of-own.ensures c.is_waited_at-waited.ensures.0 c.end_object.ensures.state c.note_slots.ensures.none c.note_slots.ensures.some c.note_waiting.ensures
