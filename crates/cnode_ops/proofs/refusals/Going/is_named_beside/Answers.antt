-- By the neighbours of the slot, or by those of all that go.
use Rattle.std.proofs.Common.{ℕ, ◌/◌, length}
use Rattle.cnode_ops.proofs.NamedBeside.{below-beside, one-beside, only-full}
use Rattle.cnode_ops.proofs.NearSlots.{counted-near}
use Rattle.cnode_ops.proofs.refusals.Going.is_named_beside.Goals as goal
use Rattle.model.specs.Capabilities.Slots.{Slots}

pub is_shared-requires : goal.is_shared-requires
is_shared-requires g c =
    only-full (g.S.SlotMap.slots c.args.self.now.store.now) (length (g.S.SlotStore.memory c.args.self.now.store.now) / 16)
    (counted-near _ _ c.count-count.result c.count-count.ensures.value c.count-count.ensures.near) c.args.self.now.set c.in-One.only
    c.args.slot c.in-One.is c.requires

pub returns-in-One : goal.returns-in-One
returns-in-One g c = λ offset names.
    let going = c.args.self.now in
    let slots : Slots = g.S.SlotMap.slots going.store.now in
    let size : ℕ = length (g.S.SlotStore.memory going.store.now) / 16 in
    one-beside slots size (counted-near _ _ c.count-count.result c.count-count.ensures.value c.count-count.ensures.near) going.set c.in-One.only
    c.args.slot offset _ c.in-One.is c.requires names c.is_shared.ensures.shared
    c.is_shared.ensures.alone

pub returns-in-Below : goal.returns-in-Below
returns-in-Below g c = λ offset names.
    let going = c.args.self.now in
    let slots : Slots = g.S.SlotMap.slots going.store.now in
    let size : ℕ = length (g.S.SlotStore.memory going.store.now) / 16 in
    below-beside slots size (counted-near _ _ c.count-count.result c.count-count.ensures.value c.count-count.ensures.near) going.set c.in-Below.root
    c.args.slot offset _ c.in-Below.is names c.is_shared_beside.ensures.shared
    c.is_shared_beside.ensures.alone
