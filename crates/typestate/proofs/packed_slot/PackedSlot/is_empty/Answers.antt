-- By the first word.
use Rattle.std.proofs.Common.{◌∙◌, ap}
use Rattle.model.specs.Acceptance.NotedStates.{NotedSlot}
use Rattle.model.specs.Capabilities.Slots.{is_empty}
use Rattle.typestate.proofs.PackedWords.{empty-told, spelled-again}
use Rattle.typestate.proofs.packed_slot.PackedSlot.is_empty.Goals as goal

pub returns : goal.returns
returns c =
    let slot = c.self.inside in
    empty-told slot.head slot.word (spelled-again slot.head slot.word c.self.invariant) ∙ ap (λ (s : NotedSlot). is_empty s.capability) c.self.view_is
