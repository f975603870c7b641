-- The leaf is zero, and the capability says that it is not mapped.
use Rattle.std.proofs.Common.{◌≡◌, ◌∙◌, ℕ, ◌%◌, ◌^◌, Option, None, sym, ap}
use Rattle.model.specs.Capabilities.CapabilityKinds.{unmapped}
use Rattle.model.specs.Kernel.Arguments.{Call}
use Rattle.model.specs.Kernel.MappingCalls.{unmap_frame}
use Rattle.model.specs.Kernel.State.{with_slots}
use Rattle.model.specs.Capabilities.Slots.{Slots, recapped}
use Rattle.model.specs.Kernel.State.{State}
use Rattle.model.specs.declared.capabilities.Cap.{Cap}
use Rattle.model.specs.declared.capabilities.Cap.TheVariants.{Frame}
use Rattle.model.specs.declared.capabilities.FrameMapping.{FrameMapping}
use Rattle.model.specs.declared.rights.Rights.{Rights}
use Rattle.vspace.proofs.FrameSteps.{index_small}
use Rattle.vspace.proofs.Places.{table-stands}
use Rattle.vspace.proofs.Names.{names-table}
use Rattle.vspace.proofs.Writes.{leaf-absent, leaf-present, recapped-own, unmap-done, word-beside}
use Rattle.vspace.proofs.frames.unmap_frame.Goals as goal

-- the definition at this capability
defined : (s : State) (slots : Slots) (call : Call) (x f : ℕ) (r : Rights) (o : Option FrameMapping) → call.slot ≡ x → call.capability ≡ Frame f r o →
    unmap_frame (with_slots s slots) call ≡ with_slots s (recapped slots x (Frame f r None))
defined s slots call x f r o at held =
    ap (λ (y : ℕ). with_slots s (recapped slots y (unmapped call.capability))) at
    ∙ ap (λ (c : Cap). with_slots s (recapped slots x (unmapped c))) held

pub returns-in_default-clause-outcome : goal.returns-in_default-clause-outcome
returns-in_default-clause-outcome g c = λ s call at held.
    let absent = leaf-absent (g.S.SlotMap.slots c.args.store.now) c.args.frame.mapping c.in_default.ensures.place in
    defined s (g.S.SlotMap.slots c.args.store.now) call c.args.frame.slot c.args.frame.offset c.args.frame.rights c.args.frame.mapping at held
    ∙ ap (λ (t : Slots). with_slots s t) (recapped-own (g.S.SlotMap.slots c.args.store.now) c.args.frame.slot c.args.frame.offset c.args.frame.rights
    c.args.frame.mapping c.requires.held absent)

pub returns-clause-outcome : goal.returns-clause-outcome
returns-clause-outcome g c = λ s call at held.
    defined s (g.S.SlotMap.slots c.args.store.now) call c.args.frame.slot c.args.frame.offset c.args.frame.rights c.args.frame.mapping at held
    ∙ ap (λ (t : Slots). with_slots s (recapped t c.args.frame.slot (Frame c.args.frame.offset c.args.frame.rights None))) (sym c.write32.ensures.slots)
    ∙ ap (λ (t : Slots). with_slots s t) (sym c.set_cap.ensures.slots)

pub returns-clause-bytes : goal.returns-clause-bytes
returns-clause-bytes g c =
    let leaf = leaf-present (g.S.SlotMap.slots c.args.store.now) c.args.frame.mapping c.in-Some.place c.in-Some.ensures.place in
    let m = leaf.0 in
    let there = leaf.2 in
    word-beside (g.S.SlotMap.slots c.args.store.now) (g.S.SlotMap.slots c.write32.new.self) (g.S.SlotMap.slots c.set_cap.new.self)
    (g.S.SlotStore.memory c.args.store.now) (g.S.SlotStore.memory c.write32.new.self) (g.S.SlotStore.memory c.set_cap.new.self) c.args.frame.slot
    c.in-Some.place 0 (Frame c.args.frame.offset c.args.frame.rights None) there.0 (m.page % 2 ^ 10) (record {
      kept = c.write32.ensures.slots;
      wrote = c.write32.ensures.bytes;
      changed = c.set_cap.ensures.slots;
      same = c.set_cap.ensures.bytes;
    }) (names-table (g.S.SlotMap.slots c.args.store.now) there.1.slot there.0 _ there.1.held)
    (table-stands (g.S.SlotMap.slots c.args.store.now) (g.S.SlotStore.memory c.args.store.now) m.root _ there.0 c.requires.agree there.1)
    (index_small m.page) there.2

pub returns-clause-agree : goal.returns-clause-agree
returns-clause-agree g c =
    let leaf = leaf-present (g.S.SlotMap.slots c.args.store.now) c.args.frame.mapping c.in-Some.place c.in-Some.ensures.place in
    let m = leaf.0 in
    let there = leaf.2 in
    let held = c.requires.held ∙ ap (λ (o : Option FrameMapping). Frame c.args.frame.offset c.args.frame.rights o) leaf.1 in
    unmap-done (g.S.SlotMap.slots c.args.store.now) (g.S.SlotMap.slots c.write32.new.self) (g.S.SlotMap.slots c.set_cap.new.self)
    (g.S.SlotStore.memory c.args.store.now) (g.S.SlotStore.memory c.write32.new.self) (g.S.SlotStore.memory c.set_cap.new.self) c.args.frame.slot
    c.args.frame.offset c.in-Some.place there.0 c.args.frame.rights m c.requires.agree held there.1 there.2 (record {
      kept = c.write32.ensures.slots;
      wrote = c.write32.ensures.bytes;
      changed = c.set_cap.ensures.slots;
      same = c.set_cap.ensures.bytes;
    })

pub returns-in_default-clause-slots : goal.returns-in_default-clause-slots
returns-in_default-clause-slots g c =
    let absent = leaf-absent (g.S.SlotMap.slots c.args.store.now) c.args.frame.mapping c.in_default.ensures.place in
    sym (recapped-own (g.S.SlotMap.slots c.args.store.now) c.args.frame.slot c.args.frame.offset c.args.frame.rights c.args.frame.mapping c.requires.held
    absent)
