-- The word of a slot has its depth.
use Rattle.std.proofs.Common.{◌∙◌, sym}
use Rattle.packed_slots.proofs.Changing.{depth-open}
use Rattle.packed_slots.proofs.Reading.{some-open}
use Rattle.packed_slots.proofs.store.PackedSlotsSlotStore.depth.Goals as goal

pub returns-clause-value : goal.returns-clause-value
returns-clause-value c =
    let p = c.args.self.now in
    let packed = c.noted_depth.ensures.packed in
    c.noted_depth.ensures.value ∙ sym (depth-open p c.args.slot packed (some-open p c.args.slot c.requires))

pub returns-clause-derivation : goal.returns-clause-derivation
returns-clause-derivation c = c.noted_depth.ensures.packed.packed.derivation
