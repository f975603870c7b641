-- Slots as an image lists them: without parents, and not mapped.
use Rattle.std.specs.Prelude.{◌≡◌, ◌||◌, Bool, false, List, is_some}
use Rattle.std.specs.List.{list_any}
use Rattle.model.specs.Acceptance.NotedStates.{NotedSlot}
use Rattle.model.specs.Capabilities.CapabilityKinds.{frame_mapping}

-- whether a slot was derived from another of the thread's, or is mapped as a page
abbrev pub is_linked : NotedSlot → Bool
is_linked s = is_some s.parent || is_some (frame_mapping s.capability)

abbrev pub AreUnlinked : List NotedSlot → Type 0
AreUnlinked slots = list_any is_linked slots ≡ false
