-- The frames that go along are unmapped, and then the page table.
use Rattle.std.proofs.Common.{◌≡◌, ◌∙◌, true, Some, sym, ap, subst}
use Rattle.model.specs.Capabilities.Slots.{capability_at}
use Rattle.model.specs.declared.capabilities.Cap.TheVariants.{PageTable}
use Rattle.vspace.specs.Endings.{is_ending}
use Rattle.vspace.specs.Regions.{IsPartlyCleared, goes_along}
use Rattle.vspace.specs.declared.extents.Extent.{Extent}
use Rattle.vspace.proofs.BytesBeside.{beside-then, fewer-less}
use Rattle.vspace.proofs.EndingSteps.{table-ended, table-ending}
use Rattle.vspace.proofs.Sweeps.{partly-less}
use Rattle.vspace.proofs.endings.end_table.Goals as goal

pub returns-clause-bytes : goal.returns-clause-bytes
returns-clause-bytes g c =
    let old = g.S.SlotMap.slots c.args.store.now in
    let now = g.S.SlotMap.slots c.clear_region.new.store in
    let less = partly-less c.extent_of.result c.in-Some.mapping old now c.clear_region.ensures.slots in
    beside-then old now (g.S.SlotStore.memory c.args.store.now) (g.S.SlotStore.memory c.clear_region.new.store)
    (g.S.SlotStore.memory c.drop_table.new.store) (fewer-less old now less) c.clear_region.ensures.bytes c.drop_table.ensures.bytes

pub returns-clause-ended : goal.returns-clause-ended
returns-clause-ended g c =
    table-ended (g.S.SlotMap.slots c.clear_region.new.store) (g.S.SlotMap.slots c.drop_table.new.store) c.args.slot c.args.offset
    c.in-PageTable.table c.drop_table.ensures.slots

pub returns-clause-slots : goal.returns-clause-slots
returns-clause-slots g c =
    let old = g.S.SlotMap.slots c.args.store.now in
    let now = g.S.SlotMap.slots c.clear_region.new.store in
    let m = c.in-Some.mapping in
    let is : c.capability-held.result ≡ PageTable c.in-PageTable.table (Some m) =
    c.in-PageTable.is ∙ ap (PageTable c.in-PageTable.table) (c.in-Some.is) in
    let held : capability_at old c.args.slot ≡ PageTable c.in-PageTable.table (Some m) = sym c.capability-held.ensures.value ∙ is in
    let goes : is_ending c.args.offset (PageTable c.in-PageTable.table (Some m)) ≡ true =
    sym (c.is_ending.ensures ∙ ap (is_ending c.args.offset) is) ∙ c.if-not-is_ending.false in
    table-ending old now (g.S.SlotMap.slots c.drop_table.new.store) c.args.slot c.args.offset c.in-PageTable.table m held goes
    (subst (λ (extent : Extent). IsPartlyCleared (goes_along extent m) old now) c.extent_of.ensures c.clear_region.ensures.slots)
    c.drop_table.ensures.slots
