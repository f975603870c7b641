-- Each slot that goes is asked for once: where one was found, or none at the end.
use Rattle.std.proofs.Common.{ℕ, ◌≡◌, ◌∙◌, ◌/◌, ◌&&◌, ◌+◌, ◌<◌, refl, Bool, List, false, length, true, sym, ap, arith}
use Rattle.cnode_ops.specs.Marked.{is_unmarked}
use Rattle.cnode_ops.specs.Refusals.{goes, some_own}
use Rattle.cnode_ops.specs.declared.sets.Removed.{Removed}
use Rattle.cnode_ops.specs.Sets.{listed_in}
use Rattle.cnode_ops.proofs.AskedSlots.{asked-first, asked-next, none-asked, own_passes}
use Rattle.cnode_ops.proofs.FullSlots.{fewer-behind, found-member}
use Rattle.cnode_ops.proofs.SomeSlot.{some-at, some-none}
use Rattle.cnode_ops.proofs.NearSlots.{counted-near}
use Rattle.cnode_ops.proofs.refusals.Going.any_ends_unmarked.Goals as goal
use Rattle.model.specs.Capabilities.Slots.{Slots, is_full}
use Rattle.model.proofs.Ancestors.{full-open}
use Rattle.removal_laws.proofs.Laws.{both, join}

pub slots-init : goal.slots-init
slots-init g c =
    let going = c.args.self.now in
    let slots : Slots = g.S.SlotMap.slots going.store.now in
    let size : ℕ = length (g.S.SlotStore.memory going.store.now) / 16 in
    asked-first slots size going.set (listed_in (g.S.SlotStore.order going.store.now) slots going.set) (is_unmarked slots c.args.marks.now)
    (c.none-passed.result.first, c.none-passed.result.count) c.none-passed.ensures.count

pub own_slots-own-requires : goal.own_slots-own-requires
own_slots-own-requires g c =
    let going = c.args.self.now in
    let slots : Slots = g.S.SlotMap.slots going.store.now in
    found-member (listed_in (g.S.SlotStore.order going.store.now) slots going.set) (goes slots going.set) c.next_removed.ensures.lists c.slots.at
    c.in-Some.slot (sym c.in-Some.is ∙ c.next_removed.ensures.next)

pub slots-smaller : goal.slots-smaller
slots-smaller g c =
    let going = c.args.self.now in
    let slots : Slots = g.S.SlotMap.slots going.store.now in
    fewer-behind (listed_in (g.S.SlotStore.order going.store.now) slots going.set) (goes slots going.set) c.next_removed.ensures.lists c.slots.at
    c.in-Some.slot (sym c.in-Some.is ∙ c.next_removed.ensures.next)

pub slots-preserved : goal.slots-preserved
slots-preserved g c =
    let going = c.args.self.now in
    let slots : Slots = g.S.SlotMap.slots going.store.now in
    let size : ℕ = length (g.S.SlotStore.memory going.store.now) / 16 in
    asked-next slots size going.set (listed_in (g.S.SlotStore.order going.store.now) slots going.set) (is_unmarked slots c.args.marks.now)
    (c.slots.passed.first, c.slots.passed.count) (c.own_slots-own.result.first, c.own_slots-own.result.count) c.slots.at c.in-Some.slot
    c.next_removed.ensures.lists c.slots.invariant (sym c.in-Some.is ∙ c.next_removed.ensures.next) c.own_slots-own.ensures
    (sym c.any_unmarked_yet.ensures ∙ c.if-any_unmarked_yet.false)

-- what does not go has none
none-passes-by : (slots : Slots) (size : ℕ) (set : Removed) (test : ℕ → Bool) →
    ((slot : ℕ) → goes slots set slot ≡ true → own_passes slots size set test slot ≡ false) → (slot : ℕ)
    → (goes slots set slot && own_passes slots size set test slot) ≡ false
none-passes-by slots size set test none slot = elim (goes slots set slot)
    as (λ b. goes slots set slot ≡ b → (b && own_passes slots size set test slot) ≡ false) [
      | true ↦ λ is. none slot is
      | false ↦ λ is. refl
    ] refl

pub returns-in_default : goal.returns-in_default
returns-in_default g c =
    let going = c.args.self.now in
    let slots : Slots = g.S.SlotMap.slots going.store.now in
    let size : ℕ = length (g.S.SlotStore.memory going.store.now) / 16 in
    let test : ℕ → Bool = is_unmarked slots c.args.marks.now in
    sym (some-none 0 size (λ slot. goes slots going.set slot && own_passes slots size going.set test slot) (λ i less.
    none-passes-by slots size going.set test
    (none-asked slots size going.set (listed_in (g.S.SlotStore.order going.store.now) slots going.set) test (c.slots.passed.first, c.slots.passed.count)
    c.slots.at c.next_removed.ensures.lists c.slots.invariant (sym c.in_default.is ∙ c.next_removed.ensures.next)) (0 + i)))

pub returns-then-any_unmarked_yet : goal.returns-then-any_unmarked_yet
returns-then-any_unmarked_yet g c =
    let going = c.args.self.now in
    let slots : Slots = g.S.SlotMap.slots going.store.now in
    let size : ℕ = length (g.S.SlotStore.memory going.store.now) / 16 in
    let test : ℕ → Bool = is_unmarked slots c.args.marks.now in
    let list : List ℕ = listed_in (g.S.SlotStore.order going.store.now) slots going.set in
    let member = found-member list (goes slots going.set) c.next_removed.ensures.lists c.slots.at c.in-Some.slot
    (sym c.in-Some.is ∙ c.next_removed.ensures.next) in
    let full : is_full slots c.in-Some.slot ≡ true = (both (is_full slots c.in-Some.slot) _ member).0 in
    let near : c.in-Some.slot < 0 + size =
    omega (
      arith,
      counted-near slots _ c.count-count.result c.count-count.ensures.value c.count-count.ensures.near c.in-Some.slot
          (full-open slots c.in-Some.slot full),
    ) in
    let passes : own_passes slots size going.set test c.in-Some.slot ≡ true =
    ap (λ (own : ℕ × ℕ). some_own own test) (sym c.own_slots-own.ensures) ∙ sym c.any_unmarked_yet.ensures ∙ c.if-any_unmarked_yet.true in
    sym (some-at 0 size c.in-Some.slot (λ slot. goes slots going.set slot && own_passes slots size going.set test slot) (omega arith) near
    (join (goes slots going.set c.in-Some.slot) _ member passes))
