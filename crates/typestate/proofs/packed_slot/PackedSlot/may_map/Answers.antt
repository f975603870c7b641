-- By the first word.
use Rattle.std.proofs.Common.{◌∙◌, sym, ap}
use Rattle.model.specs.Acceptance.NotedStates.{NotedSlot}
use Rattle.model.specs.Capabilities.CapabilityKinds.{frame_mapping}
use Rattle.typestate.proofs.PackedWords.{no-page}
use Rattle.typestate.proofs.packed_slot.PackedSlot.may_map.Goals as goal

pub returns : goal.returns
returns c = λ other.
    let slot = c.self.inside in
    sym (ap (λ (s : NotedSlot). frame_mapping s.capability) c.self.view_is) ∙ no-page slot.head slot.word c.self.invariant other
