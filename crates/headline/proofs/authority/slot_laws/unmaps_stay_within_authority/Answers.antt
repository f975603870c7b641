-- The frame's own slot changes.
use Rattle.std.proofs.Common.{◌∙◌, ap}
use Rattle.model.specs.Capabilities.CapabilityKinds.{frame_mapping}
use Rattle.headline.proofs.authority.SlotCalls.{unmap-within}
use Rattle.headline.proofs.authority.slot_laws.unmaps_stay_within_authority.Goals as goal

pub returns : goal.returns
returns c = λ image t s own call offset allowed mapping is held holds mine roots.
    unmap-within image t s own is call offset allowed mapping held holds mine (λ m is_it. roots.0 m (ap frame_mapping held ∙ is_it))
