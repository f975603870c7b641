-- After a full slot come the full ones that follow it.
use Rattle.std.proofs.Common.{◌≡◌, ◌∙◌, true, length, sym, ap, arith}
use Rattle.model.specs.Capabilities.Slots.{is_full}
use Rattle.model.specs.Capabilities.Orders.{next_in, next_after}
use Rattle.slots.specs.Table.{full_from, table_slots}
use Rattle.slots.proofs.Listing.{full-inside, next_after-full_from}
use Rattle.slots.proofs.table.next_full.Goals as goal

pub returns-in-Some : goal.returns-in-Some
returns-in-Some c =
    let records = c.args.records.now in
    let at = c.number.result in
    let full : is_full (table_slots records) at ≡ true = ap (is_full (table_slots records)) c.number.ensures.value
    ∙ c.requires.full c.in-Some.slot c.in-Some.is in
    let order = full_from (table_slots records) 0 (length records) in
    let step = next_after-full_from (length records) (table_slots records) 0 at (length records) (omega arith) (omega arith) (full-inside records at full)
    full in
    c.first_full.ensures ∙ sym step ∙ ap (next_after order) c.number.ensures.value ∙ sym (ap (next_in order) c.in-Some.is)
