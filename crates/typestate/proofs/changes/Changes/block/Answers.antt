-- The first ones of those from the block on are all of the block.
use Rattle.std.proofs.Common.{ℕ, ◌∙◌, List, map, ap}
use Rattle.model.specs.Acceptance.NotedStates.{NotedSlot}
use Rattle.typestate.specs.Families.{in_block}
use Rattle.typestate.specs.PackedChanges.{begin_in, unpacked_entry}
use Rattle.typestate.specs.declared.packed_change.PackedChange.{PackedChange}
use Rattle.typestate.proofs.NumberedChanges.{begin-block, block-changes}
use Rattle.typestate.proofs.changes.Changes.block.Goals as goal

pub returns : goal.returns
returns c =
    let slots = c.self.inside.names.slots.entries in
    let es = c.self.inside.packed.entries in
    let block = c.args.block in
    ap (λ (l : List (ℕ × PackedChange)). map (unpacked_entry slots) (begin_in block l)) (c.range.ensures.between tt)
    ∙ ap (map (unpacked_entry slots)) (begin-block block es c.range.ensures.ordered)
    ∙ block-changes slots block es ∙ ap (λ (l : List NotedSlot). in_block l block) c.self.view_is
