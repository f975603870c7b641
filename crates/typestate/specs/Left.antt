-- What a change leaves in its slot.
use Rattle.std.specs.Prelude.{Option, Some, None, option_and_then, if◌then◌else◌}
use Rattle.model.specs.Acceptance.NotedStates.{NotedSlot, SlotKey}
use Rattle.model.specs.Capabilities.Slots.{is_empty}

abbrev pub left_by : NotedSlot → Option NotedSlot
left_by change = if is_empty change.capability then None else Some change

-- what the slot was derived from that a change leaves
abbrev pub parent_left : NotedSlot → Option SlotKey
parent_left change = option_and_then (λ s. s.parent) (left_by change)
