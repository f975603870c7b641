-- One slot more that is not full.
use Rattle.std.proofs.Common.{◌∙◌, ◌+◌, ◌-◌, length, sym, ap, arith}
use Rattle.model.specs.Capabilities.Orders.{first_of}
use Rattle.slots.specs.Table.{table_slots}
use Rattle.slots.proofs.Listing.{full_from-skip}
use Rattle.slots.proofs.table.first_full.Goals as goal

pub slots-preserved : goal.slots-preserved
slots-preserved c =
    let n = length c.args.records.now in
    let skip = full_from-skip (table_slots c.args.records.now) c.slots.slot (n - c.slots.slot) (n - (c.slots.slot + 1)) (omega arith)
    (sym c.is_full.ensures ∙ c.if-is_full.false) in
    sym (ap first_of skip) ∙ c.slots.invariant
