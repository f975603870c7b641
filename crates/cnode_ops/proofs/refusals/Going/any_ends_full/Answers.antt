-- Each slot that goes is asked for once.
use Rattle.std.proofs.Common.{ℕ, ◌∙◌, ◌/◌, length, sym}
use Rattle.cnode_ops.specs.Refusals.{goes}
use Rattle.cnode_ops.specs.Sets.{listed_in}
use Rattle.cnode_ops.proofs.AskedSlots.{asked-first, asked-next, none-asked}
use Rattle.cnode_ops.proofs.FullSlots.{fewer-behind, found-member}
use Rattle.cnode_ops.proofs.refusals.Going.any_ends_full.Goals as goal
use Rattle.model.specs.Capabilities.Slots.{Slots, is_full}

pub slots-init : goal.slots-init
slots-init g c =
    let going = c.args.self.now in
    let slots : Slots = g.S.SlotMap.slots going.store.now in
    let size : ℕ = length (g.S.SlotStore.memory going.store.now) / 16 in
    asked-first slots size going.set (listed_in (g.S.SlotStore.order going.store.now) slots going.set) (is_full slots)
    (c.none-passed.result.first, c.none-passed.result.count) c.none-passed.ensures.count

pub own_slots-own-requires : goal.own_slots-own-requires
own_slots-own-requires g c =
    let going = c.args.self.now in
    let slots : Slots = g.S.SlotMap.slots going.store.now in
    found-member (listed_in (g.S.SlotStore.order going.store.now) slots going.set) (goes slots going.set) c.next_removed.ensures.lists c.slots.at
    c.in-Some.slot (sym c.in-Some.is ∙ c.next_removed.ensures.next)

pub slots-smaller : goal.slots-smaller
slots-smaller g c =
    let going = c.args.self.now in
    let slots : Slots = g.S.SlotMap.slots going.store.now in
    fewer-behind (listed_in (g.S.SlotStore.order going.store.now) slots going.set) (goes slots going.set) c.next_removed.ensures.lists c.slots.at
    c.in-Some.slot (sym c.in-Some.is ∙ c.next_removed.ensures.next)

pub slots-preserved : goal.slots-preserved
slots-preserved g c =
    let going = c.args.self.now in
    let slots : Slots = g.S.SlotMap.slots going.store.now in
    let size : ℕ = length (g.S.SlotStore.memory going.store.now) / 16 in
    asked-next slots size going.set (listed_in (g.S.SlotStore.order going.store.now) slots going.set) (is_full slots)
    (c.slots.passed.first, c.slots.passed.count) (c.own_slots-own.result.first, c.own_slots-own.result.count) c.slots.at c.in-Some.slot
    c.next_removed.ensures.lists c.slots.invariant (sym c.in-Some.is ∙ c.next_removed.ensures.next) c.own_slots-own.ensures
    (sym c.any_full.ensures ∙ c.if-any_full.false)

pub returns-in_default : goal.returns-in_default
returns-in_default g c =
    let going = c.args.self.now in
    let slots : Slots = g.S.SlotMap.slots going.store.now in
    let size : ℕ = length (g.S.SlotStore.memory going.store.now) / 16 in
    λ _. none-asked slots size going.set (listed_in (g.S.SlotStore.order going.store.now) slots going.set) (is_full slots)
    (c.slots.passed.first, c.slots.passed.count) c.slots.at c.next_removed.ensures.lists c.slots.invariant (sym c.in_default.is ∙ c.next_removed.ensures.next)
