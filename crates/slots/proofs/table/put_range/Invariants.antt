-- The slots that were passed hold the record, and the others what they held.
use Rattle.std.proofs.Common.{ℕ, ◌≡◌, ◌-◌, if◌then◌else◌}
use Rattle.model.specs.Capabilities.Slots.{is_within}
use Rattle.slots.specs.Table.{table_slots}
use Rattle.slots.proofs.table.put_range.Given as goal

abbrev pub invariant-range : goal.invariant-range
invariant-range l = (s : ℕ) → table_slots l.records s ≡ (if is_within l.first (l.slot - l.first) s then l.held else table_slots l.initial.records s)
