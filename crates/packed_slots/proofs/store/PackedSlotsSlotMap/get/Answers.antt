-- The words are those of the capability, and the parent is the first one back that is less deep.
use Rattle.std.proofs.Common.{ℕ, ◌∙◌, Option, Some, sym, ap}
use Rattle.model.specs.declared.capabilities.Cap.{Cap}
use Rattle.packed_slots.specs.Packing.{packed_rows}
use Rattle.packed_slots.specs.Words.{words_in}
use Rattle.packed_slots.proofs.PackedFacts.{as-open}
use Rattle.packed_slots.proofs.Reading.{capability-open, parent-found, some-open}
use Rattle.slots.specs.preorder.Preorder.{parents_of}
use Rattle.packed_slots.proofs.store.PackedSlotsSlotMap.get.Goals as goal

pub returns-clause-held : goal.returns-clause-held
returns-clause-held c =
    let p = c.args.self.now in
    let w = words_in p.memory in
    let s = c.args.slot in
    let there = some-open p s c.requires in
    as-open w p.open_slots (packed_rows p) s there
    ∙ ap (λ (a : Cap). Some (record { capability = a; parent = parents_of (packed_rows p) s })) (sym (c.held.ensures.value ∙ capability-open p s there))
    ∙ ap (λ (o : Option ℕ). Some (record { capability = c.held.result; parent = o })) (parent-found p s c.held.ensures.packed there ∙ sym c.parent.ensures)
