-- What taking out all that descends from a slot leaves.
-- seL4 Reference Manual, "Deletion, Revocation, and Recycling".
use Rattle.std.specs.Prelude.{ℕ, Some, if◌then◌else◌}
use Rattle.model.specs.Capabilities.Slots.{Slots, empty_entry, is_descendant}

-- the slots with each descendant of a root emptied
abbrev pub without_descendants : Slots → ℕ → Slots
without_descendants slots root s = if is_descendant slots root s then Some empty_entry else slots s
