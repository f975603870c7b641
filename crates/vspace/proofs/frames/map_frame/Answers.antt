-- The leaf is written, and the capability says so.
use Rattle.std.proofs.Common.{◌∙◌, ◌%◌, ◌^◌, Ok, Some, sym, ap}
use Rattle.model.specs.Kernel.State.{with_slots}
use Rattle.model.specs.Capabilities.Slots.{Slots, recapped}
use Rattle.model.specs.declared.capabilities.Cap.TheVariants.{Frame}
use Rattle.vspace.proofs.FrameSteps.{index_small}
use Rattle.vspace.proofs.Names.{names-table}
use Rattle.vspace.proofs.Writes.{entry-outside, map-done, table-of_page, word-beside}
use Rattle.vspace.proofs.frames.map_frame.Goals as goal

pub returns-clause-outcome : goal.returns-clause-outcome
returns-clause-outcome g c = λ s caller near.
    let found = c.in-Ok.found in
    let f = c.args.frame.offset in
    let r = c.args.frame.rights in
    c.in-Ok.ensures.answer.3 s caller near
    ∙ ap (λ (t : Slots). Ok (with_slots s (recapped t c.args.frame.slot (Frame f r (Some found.1))))) (sym c.write32.ensures.slots)
    ∙ ap (λ (t : Slots). Ok (with_slots s t)) (sym c.set_cap.ensures.slots)

pub returns-clause-bytes : goal.returns-clause-bytes
returns-clause-bytes g c =
    let found = c.in-Ok.found in
    let entry = c.in-Ok.ensures.answer.1 in
    word-beside (g.S.SlotMap.slots c.args.store.now) (g.S.SlotMap.slots c.write32.new.self) (g.S.SlotMap.slots c.set_cap.new.self)
    (g.S.SlotStore.memory c.args.store.now) (g.S.SlotStore.memory c.write32.new.self) (g.S.SlotStore.memory c.set_cap.new.self) c.args.frame.slot found.0
    c.leaf_word.result (Frame c.args.frame.offset c.args.frame.rights (Some found.1)) entry.table (found.1.page % 2 ^ 10) (record {
      kept = c.write32.ensures.slots;
      wrote = c.write32.ensures.bytes;
      changed = c.set_cap.ensures.slots;
      same = c.set_cap.ensures.bytes;
    }) (names-table (g.S.SlotMap.slots c.args.store.now) entry.maps.slot entry.table _ entry.maps.held)
    (table-of_page _ (g.S.SlotStore.memory c.args.store.now) found.1.root found.1.page found.0 c.requires.agree entry) (index_small found.1.page) entry.here

pub returns-clause-agree : goal.returns-clause-agree
returns-clause-agree g c =
    let found = c.in-Ok.found in
    let answer = c.in-Ok.ensures.answer in
    map-done (g.S.SlotMap.slots c.args.store.now) (g.S.SlotMap.slots c.write32.new.self) (g.S.SlotMap.slots c.set_cap.new.self)
    (g.S.SlotStore.memory c.args.store.now) (g.S.SlotStore.memory c.write32.new.self) (g.S.SlotStore.memory c.set_cap.new.self) c.args.frame.slot
    c.args.frame.offset found.0 c.leaf_word.result c.args.frame.rights c.args.frame.mapping found.1 c.requires.agree answer.0 c.requires.held answer.2
    c.requires.within answer.1 c.leaf_word.ensures (record {
      kept = c.write32.ensures.slots;
      wrote = c.write32.ensures.bytes;
      changed = c.set_cap.ensures.slots;
      same = c.set_cap.ensures.bytes;
    })

pub write32-requires-clause-outside : goal.write32-requires-clause-outside
write32-requires-clause-outside g c =
    let found = c.in-Ok.found in
    let entry = c.in-Ok.ensures.answer.1 in
    let memory = g.S.SlotStore.memory c.args.store.now in
    entry-outside (g.S.SlotMap.slots c.args.store.now) memory entry.table (found.1.page % 2 ^ 10) found.0
    (table-of_page _ memory found.1.root found.1.page found.0 c.requires.agree entry) (index_small found.1.page) entry.here
