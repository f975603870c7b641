-- No slot that was passed is full.
use Rattle.std.proofs.Common.{◌≡◌, ◌-◌, length}
use Rattle.model.specs.Capabilities.Orders.{first_of}
use Rattle.slots.specs.Table.{full_from, table_slots}
use Rattle.slots.proofs.table.first_full.Given as goal

abbrev pub invariant-slots : goal.invariant-slots
invariant-slots l =
    first_of (full_from (table_slots l.records) l.slot (length l.records - l.slot))
    ≡ first_of (full_from (table_slots l.records) l.first (length l.records - l.first))
