-- What was counted, and the depth that is left, is the whole depth.
use Rattle.std.proofs.Common.{◌≡◌, ◌+◌, ◌-◌}
use Rattle.model.specs.Capabilities.Slots.{depth_of, depth_within, parent_at}
use Rattle.slots.specs.Table.{table_slots}
use Rattle.slots.proofs.table.depth_at.Given as goal

abbrev pub invariant-up : goal.invariant-up
invariant-up l =
    l.depth + depth_within (256 - l.depth) (parent_at (table_slots l.records)) l.here ≡ depth_of (table_slots l.records) l.fn.slot
