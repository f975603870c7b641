-- The pointer is zero, and the capability says that it is not mapped.
use Rattle.std.proofs.Common.{◌+◌, ◌*◌, None, refl}
use Rattle.model.specs.declared.capabilities.Cap.TheVariants.{PageTable}
use Rattle.vspace.proofs.FrameSteps.{region_small}
use Rattle.vspace.proofs.Names.{names-mapped_root}
use Rattle.vspace.proofs.TableUnmaps.{unmap_table-done}
use Rattle.vspace.proofs.Writes.{word-beside}
use Rattle.vspace.proofs.page_tables.drop_table.Goals as goal

pub returns-clause-agree : goal.returns-clause-agree
returns-clause-agree g c =
    unmap_table-done (g.S.SlotMap.slots c.args.store.now) (g.S.SlotMap.slots c.write32.new.self) (g.S.SlotMap.slots c.set_cap.new.self)
    (g.S.SlotStore.memory c.args.store.now) (g.S.SlotStore.memory c.write32.new.self) (g.S.SlotStore.memory c.set_cap.new.self) c.args.slot c.args.offset
    c.args.mapping c.requires (record {
      kept = c.write32.ensures.slots;
      wrote = c.write32.ensures.bytes;
      changed = c.set_cap.ensures.slots;
      same = c.set_cap.ensures.bytes;
    })

pub returns-clause-bytes : goal.returns-clause-bytes
returns-clause-bytes g c =
    let m = c.args.mapping in
    let old = g.S.SlotMap.slots c.args.store.now in
    let memory = g.S.SlotStore.memory c.args.store.now in
    let agree = c.requires.agree in
    let held = c.requires.held in
    word-beside old (g.S.SlotMap.slots c.write32.new.self) (g.S.SlotMap.slots c.set_cap.new.self) memory (g.S.SlotStore.memory c.write32.new.self)
    (g.S.SlotStore.memory c.set_cap.new.self) c.args.slot (m.root + 4 * m.region) 0 (PageTable c.args.offset None) m.root m.region (record {
      kept = c.write32.ensures.slots;
      wrote = c.write32.ensures.bytes;
      changed = c.set_cap.ensures.slots;
      same = c.set_cap.ensures.bytes;
    }) (names-mapped_root old c.args.slot c.args.offset m held) (agree.mapped_roots c.args.slot c.args.offset m held)
    (region_small old memory agree c.args.slot c.args.offset m held) refl
