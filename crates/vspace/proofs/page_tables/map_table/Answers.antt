-- The pointer is written, and the capability says so.
use Rattle.std.proofs.Common.{Some}
use Rattle.model.specs.declared.capabilities.Cap.TheVariants.{PageTable}
use Rattle.vspace.proofs.TableOutcomes.{pointer-beside, table-done}
use Rattle.vspace.proofs.page_tables.map_table.Goals as goal

pub returns-clause-bytes : goal.returns-clause-bytes
returns-clause-bytes g c =
    let found = c.in-Ok.found in
    let answer = c.in-Ok.ensures.answer in
    pointer-beside (g.S.SlotMap.slots c.args.store.now) (g.S.SlotMap.slots c.write32.new.self) (g.S.SlotMap.slots c.set_cap.new.self)
    (g.S.SlotStore.memory c.args.store.now) (g.S.SlotStore.memory c.write32.new.self) (g.S.SlotStore.memory c.set_cap.new.self) c.args.table.slot found.0
    c.pointer_word.result (PageTable c.args.table.offset (Some found.1)) found.1 c.requires.agree answer.2 answer.1 (record {
      kept = c.write32.ensures.slots;
      wrote = c.write32.ensures.bytes;
      changed = c.set_cap.ensures.slots;
      same = c.set_cap.ensures.bytes;
    })

pub returns-clause-agree : goal.returns-clause-agree
returns-clause-agree g c =
    let found = c.in-Ok.found in
    let answer = c.in-Ok.ensures.answer in
    table-done (g.S.SlotMap.slots c.args.store.now) (g.S.SlotMap.slots c.write32.new.self) (g.S.SlotMap.slots c.set_cap.new.self)
    (g.S.SlotStore.memory c.args.store.now) (g.S.SlotStore.memory c.write32.new.self) (g.S.SlotStore.memory c.set_cap.new.self) c.args.table.slot
    c.args.table.offset found.0 c.pointer_word.result c.args.table.mapping found.1 c.requires.agree answer.0 c.requires.held answer.2 answer.1
    c.pointer_word.ensures (record {
      kept = c.write32.ensures.slots;
      wrote = c.write32.ensures.bytes;
      changed = c.set_cap.ensures.slots;
      same = c.set_cap.ensures.bytes;
    })
