-- Each slot that is emptied leaves one fewer.
use Rattle.std.proofs.Common.{ℕ, ◌≡◌, ◌∙◌, ◌<◌, false, true, Option, IfSome, refl, sym, ap, subst}
use Rattle.kernel_invariant.proofs.Laws.{of_slots-law}
use Rattle.objects.specs.Tables.{state_of}
use Rattle.cnode_ops.specs.Sets.{set_of}
use Rattle.model.specs.Capabilities.Slots.{IsFull, IsOpen, Slots, capability_at}
use Rattle.model.specs.Kernel.Removal.{emptied}
use Rattle.model.specs.Kernel.State.{State}
use Rattle.removal_laws.specs.Steps.{alone, joined, unmapped_at}
use Rattle.cnode_ops.proofs.EmptiedSets.{IsLeftOf, fewer-full, full_count, left-done, left-first, left-next, set-still}
use Rattle.cnode_ops.proofs.LinesTaken.{gone-next, none-gone}
use Rattle.cnode_ops.proofs.Unsettling.{notes-same, notes-then}
use Rattle.cnode_ops.proofs.removal.empty_all.Goals as goal

pub slots-smaller : goal.slots-smaller
slots-smaller g c =
    let slots : Slots = g.S.SlotMap.slots c.slots.store in
    let before : State = state_of c.args.objects.now (g.S.SlotMap.slots c.args.store.now) (g.S.SlotStore.memory c.args.store.now) in
    let now : State = state_of c.slots.objects slots (g.S.SlotStore.memory c.slots.store) in
    let after : Slots = g.S.SlotMap.slots c.empty_slot-held.new.store in
    let has : now.slots ≡ slots = of_slots-law c.slots.objects slots (g.S.SlotStore.memory c.slots.store) in
    let full : IsFull now.slots c.in-Some-leaf_removed.slot =
    subst (λ (n : Slots). IsFull n c.in-Some-leaf_removed.slot) (sym has) c.in-Some-leaf_removed.ensures.full in
    let left : IsLeftOf before now c.args.set.now = c.slots.invariant.left in
    let same : after ≡ (emptied now (alone c.in-Some-leaf_removed.slot)).slots = sym (of_slots-law _ _ _)
    ∙ ap (λ (s : State). s.slots) c.empty_slot-held.ensures.state in
    let fewer : full_count now.memory_bits (emptied now (alone c.in-Some-leaf_removed.slot)).slots < full_count now.memory_bits now.slots =
    fewer-full now c.in-Some-leaf_removed.slot left.ready full in
    let counted : full_count before.memory_bits after < full_count before.memory_bits slots =
    subst (λ (n : Slots). full_count before.memory_bits n < full_count before.memory_bits slots) (sym same)
    (subst (λ (n : Slots). full_count before.memory_bits (emptied now (alone c.in-Some-leaf_removed.slot)).slots < full_count before.memory_bits n) has
    (subst (λ (b : ℕ). full_count b (emptied now (alone c.in-Some-leaf_removed.slot)).slots < full_count b now.slots) left.shape.bits fewer))
    in
    counted

pub slots-init : goal.slots-init
slots-init g c =
    let slots : Slots = g.S.SlotMap.slots c.args.store.now in
    let before : State = state_of c.args.objects.now slots (g.S.SlotStore.memory c.args.store.now) in
    let had : before.slots ≡ slots = of_slots-law c.args.objects.now slots (g.S.SlotStore.memory c.args.store.now) in
    record {
      left = left-first before c.args.set.now c.requires.ready
          (subst (λ (n : Slots). (slot : ℕ) → set_of n c.args.set.now slot ≡ true → IsOpen n slot) (sym had) c.requires.members);
      lines = none-gone before c.none-gone.result c.none-gone.ensures;
      noted = notes-same before before c.args.left.now refl;
      agree = c.requires.agree;
      near = λ full. subst (λ (o : Option ℕ). IfSome o (λ slot. set_of slots c.args.set.now slot ≡ true)) c.in-Some.is c.first_removed.ensures.member;
    }

pub returns-in_default-clause-lines : goal.returns-in_default-clause-lines
returns-in_default-clause-lines g c =
    none-gone (state_of c.args.objects.now (g.S.SlotMap.slots c.args.store.now) (g.S.SlotStore.memory c.args.store.now)) c.none-gone.result
    c.none-gone.ensures

pub slots-preserved : goal.slots-preserved
slots-preserved g c =
    let slots : Slots = g.S.SlotMap.slots c.slots.store in
    let before : State = state_of c.args.objects.now (g.S.SlotMap.slots c.args.store.now) (g.S.SlotStore.memory c.args.store.now) in
    let now : State = state_of c.slots.objects slots (g.S.SlotStore.memory c.slots.store) in
    let after : State = state_of c.empty_slot-held.new.objects (g.S.SlotMap.slots c.empty_slot-held.new.store)
    (g.S.SlotStore.memory c.empty_slot-held.new.store) in
    let has : now.slots ≡ slots = of_slots-law c.slots.objects slots (g.S.SlotStore.memory c.slots.store) in
    let x = c.in-Some-leaf_removed.slot in
    record {
      left = left-next before now after c.args.set.now x c.slots.invariant.left
          (subst (λ (n : Slots). IsFull n x) (sym has) c.in-Some-leaf_removed.ensures.full)
          (subst (λ (n : Slots). set_of n c.args.set.now x ≡ true) (sym has) c.in-Some-leaf_removed.ensures.member)
          c.empty_slot-held.ensures.state;
      lines = gone-next before now after c.slots.gone c.with_handled-gone.result x c.empty_slot-held.result c.slots.invariant.lines c.slots.invariant.left.ready
          (subst (λ (n : Slots). IsFull n x) (sym has) c.in-Some-leaf_removed.ensures.full) c.empty_slot-held.ensures.state
          (subst (λ (n : Slots). c.empty_slot-held.result ≡ capability_at (unmapped_at n x) x) (sym has) c.empty_slot-held.ensures.held)
          c.with_handled-gone.ensures;
      noted = notes-then before now after c.args.left.now c.slots.left c.empty_slot-held.new.left c.slots.invariant.noted c.empty_slot-held.ensures.noted;
      agree = c.empty_slot-held.ensures.agree;
      near = λ full.
          let same : g.S.SlotMap.slots c.empty_slot-held.new.store ≡ (emptied now (alone x)).slots = sym (of_slots-law _ _ _)
          ∙ ap (λ (s : State). s.slots) c.empty_slot-held.ensures.state in
          ap (λ (n : Slots). set_of n c.args.set.now c.parent_removed-near.result) same
          ∙ set-still now c.args.set.now x c.parent_removed-near.result c.slots.invariant.left.ready
          (subst (λ (n : Slots). IsFull n x) (sym has) c.in-Some-leaf_removed.ensures.full)
          (subst (λ (n : Slots). set_of n c.args.set.now x ≡ true) (sym has) c.in-Some-leaf_removed.ensures.member)
          (subst (λ (n : Slots). IsFull n c.parent_removed-near.result) same full)
          ∙ ap (λ (n : Slots). set_of n c.args.set.now c.parent_removed-near.result) has
          ∙ c.parent_removed-near.ensures;
    }

pub returns-in_default-clause-taken : goal.returns-in_default-clause-taken
returns-in_default-clause-taken g c = λ more opens.
    let slots : Slots = g.S.SlotMap.slots c.args.store.now in
    let before : State = state_of c.args.objects.now slots (g.S.SlotStore.memory c.args.store.now) in
    let had : before.slots ≡ slots = of_slots-law c.args.objects.now slots (g.S.SlotStore.memory c.args.store.now) in
    let none : (slot : ℕ) → IsFull before.slots slot → set_of before.slots c.args.set.now slot ≡ false =
    subst (λ (n : Slots). (slot : ℕ) → IsFull n slot → set_of n c.args.set.now slot ≡ false) (sym had) (c.first_removed.ensures.none c.in_default.is)
    in
    ap (λ (n : Slots). emptied before (joined (set_of n c.args.set.now) more)) (sym had)
    ∙ left-done before before c.args.set.now
    (left-first before c.args.set.now c.requires.ready
    (subst (λ (n : Slots). (slot : ℕ) → set_of n c.args.set.now slot ≡ true → IsOpen n slot) (sym had) c.requires.members))
    none more (subst (λ (n : Slots). (slot : ℕ) → more slot ≡ true → IsOpen n slot) (sym had) opens)

pub returns-clause-taken : goal.returns-clause-taken
returns-clause-taken g c = λ more opens.
    let first : Slots = g.S.SlotMap.slots c.args.store.now in
    let slots : Slots = g.S.SlotMap.slots c.slots.store in
    let before : State = state_of c.args.objects.now first (g.S.SlotStore.memory c.args.store.now) in
    let now : State = state_of c.slots.objects slots (g.S.SlotStore.memory c.slots.store) in
    let had : before.slots ≡ first = of_slots-law c.args.objects.now first (g.S.SlotStore.memory c.args.store.now) in
    let has : now.slots ≡ slots = of_slots-law c.slots.objects slots (g.S.SlotStore.memory c.slots.store) in
    let none : (slot : ℕ) → IsFull now.slots slot → set_of now.slots c.args.set.now slot ≡ false =
    subst (λ (n : Slots). (slot : ℕ) → IsFull n slot → set_of n c.args.set.now slot ≡ false) (sym has)
    (c.leaf_removed.ensures.none c.in_default-leaf_removed.is)
    in
    ap (λ (n : Slots). emptied before (joined (set_of n c.args.set.now) more)) (sym had)
    ∙ left-done before now c.args.set.now c.slots.invariant.left none more
    (subst (λ (n : Slots). (slot : ℕ) → more slot ≡ true → IsOpen n slot) (sym had) opens)
