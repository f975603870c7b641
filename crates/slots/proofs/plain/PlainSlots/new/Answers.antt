-- As many records as sixteenths of the memory, none of them open.
use Rattle.std.proofs.Common.{◌≡◌, ◌∙◌, ◌/◌, ◌^◌, ◌≤◌, length, ap, arith}
use Rattle.std.proofs.lemmas.List.{length-replicate}
use Rattle.slots.proofs.Tables.{table-new}
use Rattle.slots.proofs.plain.PlainSlots.new.Goals as goal

pub invariant_of-result : goal.invariant_of-result
invariant_of-result c =
    let size : length c.in_ok-memory.memory ≡ 2 ^ c.args.bits = ap length c.in_ok-memory.ensures ∙ length-replicate (2 ^ c.args.bits) 0 in
    let bytes = c.len-count.ensures.value in
    let most : length c.in_ok-memory.memory ≤ 2 ^ 24 = omega (arith, bytes, c.len-count.ensures.most) in
    table-new c.in_ok-memory.memory c.in_ok-records.records.items c.args.bits (c.len-count.result / 16) (omega arith) size most (ap (λ n. n / 16) bytes)
    c.in_ok-records.ensures
