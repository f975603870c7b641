-- The entries that were passed are adopted.
use Rattle.std.proofs.Common.{ℕ, ◌≡◌, nat_lt, if◌then◌else◌}
use Rattle.std.specs.Option.{option_map}
use Rattle.model.specs.Capabilities.Slots.{adopted}
use Rattle.slots.specs.Table.{table_slots}
use Rattle.slots.proofs.table.adopt_children.Given as goal

abbrev pub invariant-children : goal.invariant-children
invariant-children l = (s : ℕ) → table_slots l.records s ≡ (if nat_lt s l.slot then option_map (adopted l.gone l.parent) (table_slots l.initial.records s) else
    table_slots l.initial.records s)
