-- What each call leaves is what its definition says, and whole.
use Rattle.std.proofs.Common.{Ok, ◌∙◌, ap, refl}
use Rattle.cnode_ops.proofs.Laws.{consistent-of}
use Rattle.kernel_invariant.proofs.Laws.{own-tables}
use Rattle.kernel_machine.proofs.perform_calls.Lent.{given, lent}
use Rattle.kernel_machine.proofs.perform_calls.MappedTables.{table-mapped, table-unmapped}
use Rattle.kernel_machine.proofs.perform_calls.Roots.{held-at, may-call}
use Rattle.kernel_machine.proofs.perform_calls.table_calls.on_table.Goals as goal
use Rattle.kernel_machine.specs.perform_calls.Calls.{call_of}
use Rattle.model.specs.Capabilities.Slots.{capability_at}
use Rattle.model.specs.Kernel.MappingCalls.{on_table}
use Rattle.model.specs.Kernel.State.{State}
use Rattle.model.specs.declared.capabilities.Cap.TheVariants.{PageTable}

pub map_table-requires-clause-valid : goal.map_table-requires-clause-valid
map_table-requires-clause-valid g c =
    let l = lent g.S.SlotMap.slots g.S.SlotStore.memory (call_of c.args.call) c.kernel.invariant c.live.view_is c.live.invariant
    c.kernel.view_is c.requires.call in
    (may-call l).root

pub map_table-requires-clause-agree : goal.map_table-requires-clause-agree
map_table-requires-clause-agree g c =
    let l = lent g.S.SlotMap.slots g.S.SlotStore.memory (call_of c.args.call) c.kernel.invariant c.live.view_is c.live.invariant
    c.kernel.view_is c.requires.call in
    own-tables _ _ _ (l.whole.agrees, l.whole.stands)

pub map_table-requires-clause-held : goal.map_table-requires-clause-held
map_table-requires-clause-held g c =
    let l = lent g.S.SlotMap.slots g.S.SlotStore.memory (call_of c.args.call) c.kernel.invariant c.live.view_is c.live.invariant
    c.kernel.view_is c.requires.call in
    let f = c.table_of-table.result in
    let e = c.table_of-table.ensures in
    ap (capability_at (g.S.SlotMap.slots c.live.inside.store)) e.slot
    ∙ held-at c.live.inside.objects (g.S.SlotMap.slots c.live.inside.store) (g.S.SlotStore.memory c.live.inside.store) (call_of c.args.call)
    (PageTable f.offset f.mapping) l.is_call e.capability refl

pub returns-in-MapTable-clause-outcome : goal.returns-in-MapTable-clause-outcome
returns-in-MapTable-clause-outcome g c =
    let l = lent g.S.SlotMap.slots g.S.SlotStore.memory (call_of c.args.call) c.kernel.invariant c.live.view_is c.live.invariant
    c.kernel.view_is c.requires.call in
    let k = c.in-MapTable in
    let f = c.table_of-table.result in
    let e = c.table_of-table.ensures in
    given g.S.SlotMap.slots g.S.SlotStore.memory (λ s a. on_table s (call_of c.args.call) a) c.map_table.result _ c.live.view_is
    c.kernel.view_is k.is
    (table-mapped l c.map_table.new.store f.slot f.offset f.mapping k.root k.address c.map_table.result e.slot
    e.capability c.map_table.ensures.bytes c.map_table.ensures.agree c.map_table.ensures.unchanged c.map_table.ensures.outcome).0

pub invariant_of-live : goal.invariant_of-live
invariant_of-live g c =
    let l = lent g.S.SlotMap.slots g.S.SlotStore.memory (call_of c.args.call) c.kernel.invariant c.live.view_is c.live.invariant
    c.kernel.view_is c.requires.call in
    let k = c.in-MapTable in
    let f = c.table_of-table.result in
    let e = c.table_of-table.ensures in
    (table-mapped l c.map_table.new.store f.slot f.offset f.mapping k.root k.address c.map_table.result e.slot
    e.capability c.map_table.ensures.bytes c.map_table.ensures.agree c.map_table.ensures.unchanged c.map_table.ensures.outcome).1.stands

pub invariant_of-kernel : goal.invariant_of-kernel
invariant_of-kernel g c =
    let l = lent g.S.SlotMap.slots g.S.SlotStore.memory (call_of c.args.call) c.kernel.invariant c.live.view_is c.live.invariant
    c.kernel.view_is c.requires.call in
    let k = c.in-MapTable in
    let f = c.table_of-table.result in
    let e = c.table_of-table.ensures in
    consistent-of (table-mapped l c.map_table.new.store f.slot f.offset f.mapping k.root k.address c.map_table.result e.slot
    e.capability c.map_table.ensures.bytes c.map_table.ensures.agree c.map_table.ensures.unchanged c.map_table.ensures.outcome).1

pub unmap_cap-requires : goal.unmap_cap-requires
unmap_cap-requires g c =
    let l = lent g.S.SlotMap.slots g.S.SlotStore.memory (call_of c.args.call) c.kernel.invariant c.live-in-UnmapTable.view_is c.live-in-UnmapTable.invariant
    c.kernel.view_is c.requires.call in
    record { agree = own-tables _ _ _ (l.whole.agrees, l.whole.stands) }

pub returns-in-UnmapTable-clause-outcome : goal.returns-in-UnmapTable-clause-outcome
returns-in-UnmapTable-clause-outcome g c =
    let l = lent g.S.SlotMap.slots g.S.SlotStore.memory (call_of c.args.call) c.kernel.invariant c.live-in-UnmapTable.view_is c.live-in-UnmapTable.invariant
    c.kernel.view_is c.requires.call in
    let k = c.in-UnmapTable in
    let a = c.requires.applies in
    let done = (table-unmapped l c.unmap_cap.new.store a.0 a.1 a.2
    c.unmap_cap.ensures.removed c.unmap_cap.ensures.bytes c.unmap_cap.ensures.agree).0 in
    given {A = Unit {0}} g.S.SlotMap.slots g.S.SlotStore.memory (λ s a. on_table s (call_of c.args.call) a) (Ok tt) _
    c.live-in-UnmapTable.view_is c.kernel.view_is k.is
    (ap (λ (x : State). Ok x) done)

pub invariant_of-live-in-UnmapTable : goal.invariant_of-live-in-UnmapTable
invariant_of-live-in-UnmapTable g c =
    let l = lent g.S.SlotMap.slots g.S.SlotStore.memory (call_of c.args.call) c.kernel.invariant c.live-in-UnmapTable.view_is c.live-in-UnmapTable.invariant
    c.kernel.view_is c.requires.call in
    let a = c.requires.applies in
    (table-unmapped l c.unmap_cap.new.store a.0 a.1 a.2
    c.unmap_cap.ensures.removed c.unmap_cap.ensures.bytes c.unmap_cap.ensures.agree).1.stands

pub invariant_of-kernel-in-UnmapTable : goal.invariant_of-kernel-in-UnmapTable
invariant_of-kernel-in-UnmapTable g c =
    let l = lent g.S.SlotMap.slots g.S.SlotStore.memory (call_of c.args.call) c.kernel.invariant c.live-in-UnmapTable.view_is c.live-in-UnmapTable.invariant
    c.kernel.view_is c.requires.call in
    let a = c.requires.applies in
    consistent-of (table-unmapped l c.unmap_cap.new.store a.0 a.1 a.2
    c.unmap_cap.ensures.removed c.unmap_cap.ensures.bytes c.unmap_cap.ensures.agree).1
