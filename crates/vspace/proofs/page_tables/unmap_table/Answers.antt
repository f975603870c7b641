-- The region has no frames any more, and then the page table is unmapped.
use Rattle.std.proofs.Common.{ℕ, ◌≡◌, ◌∙◌, false, Option, None, Some, ap}
use Rattle.model.specs.Capabilities.Slots.{Slots, capability_at, recapped}
use Rattle.model.specs.Kernel.MappingCalls.{lies_in_region, without_region}
use Rattle.model.specs.declared.capabilities.Cap.TheVariants.{PageTable}
use Rattle.model.specs.declared.capabilities.TableMapping.{TableMapping}
use Rattle.vspace.specs.Regions.{IsPartlyCleared, goes_along}
use Rattle.vspace.specs.declared.extents.Extent.TheVariants as extents
use Rattle.vspace.proofs.BytesBeside.{beside-then, fewer-less}
use Rattle.vspace.proofs.Sweeps.{partly-all, partly-less, partly-table, partly-untouched}
use Rattle.vspace.proofs.TableUnmaps.{unmapped-all, unmapped-call, unmapped-slots}
use Rattle.vspace.proofs.page_tables.unmap_table.Goals as goal

pub drop_table-requires : goal.drop_table-requires
drop_table-requires g c =
    let m = c.in-Some.mapping in
    let was = c.requires.held ∙ ap (λ (o : Option TableMapping). PageTable c.args.table.offset o) c.in-Some.is in
    record {
      agree = c.clear_region.ensures.agree;
      held = partly-table extents.Region m (g.S.SlotMap.slots c.args.store.now) (g.S.SlotMap.slots c.clear_region.new.store) c.clear_region.ensures.slots
          c.args.table.slot c.args.table.offset (Some m) was;
      none = c.clear_region.ensures.none;
    }

-- the frames first, and then the page table
gone : (old now after : Slots) (x t : ℕ) (o : Option TableMapping) (m : TableMapping) → capability_at old x ≡ PageTable t o → o ≡ Some m →
    IsPartlyCleared (goes_along extents.Region m) old now → ((y : ℕ) → lies_in_region m (capability_at now y) ≡ false)
    → after ≡ recapped now x (PageTable t None) → after ≡ without_region (recapped old x (PageTable t None)) m
gone old now after x t o m held is partly none changed =
    changed ∙ unmapped-slots old now x t m (partly-all m old now partly none) (partly-untouched extents.Region m old now partly x t o held)

pub returns-clause-slots : goal.returns-clause-slots
returns-clause-slots g c =
    let old = g.S.SlotMap.slots c.args.store.now in
    let after = g.S.SlotMap.slots c.drop_table.new.store in
    let m = c.in-Some.mapping in
    unmapped-all old after c.args.table.slot c.args.table.offset c.args.table.mapping m c.in-Some.is
    (gone old (g.S.SlotMap.slots c.clear_region.new.store) after c.args.table.slot c.args.table.offset c.args.table.mapping m c.requires.held c.in-Some.is
    c.clear_region.ensures.slots c.clear_region.ensures.none c.drop_table.ensures.slots)

pub returns-clause-outcome : goal.returns-clause-outcome
returns-clause-outcome g c = λ s call at held.
    let old = g.S.SlotMap.slots c.args.store.now in
    let after = g.S.SlotMap.slots c.drop_table.new.store in
    let m = c.in-Some.mapping in
    unmapped-call old after c.args.table.slot c.args.table.offset c.args.table.mapping m c.in-Some.is
    (gone old (g.S.SlotMap.slots c.clear_region.new.store) after c.args.table.slot c.args.table.offset c.args.table.mapping m c.requires.held c.in-Some.is
    c.clear_region.ensures.slots c.clear_region.ensures.none c.drop_table.ensures.slots) s call at held

pub returns-clause-bytes : goal.returns-clause-bytes
returns-clause-bytes g c =
    let old = g.S.SlotMap.slots c.args.store.now in
    let now = g.S.SlotMap.slots c.clear_region.new.store in
    beside-then old now (g.S.SlotStore.memory c.args.store.now) (g.S.SlotStore.memory c.clear_region.new.store)
    (g.S.SlotStore.memory c.drop_table.new.store) (fewer-less old now (partly-less extents.Region c.in-Some.mapping old now c.clear_region.ensures.slots))
    c.clear_region.ensures.bytes c.drop_table.ensures.bytes
