-- As many bits as sixteenths of the memory, none of them set.
use Rattle.std.proofs.Common.{◌≡◌, ◌∙◌, ◌/◌, ◌^◌, ◌≤◌, None, length, ap, arith}
use Rattle.std.proofs.lemmas.List.{length-replicate}
use Rattle.packed_slots.specs.Packing.{packing}
use Rattle.packed_slots.proofs.Changing.{whole}
use Rattle.packed_slots.proofs.Reading.{packed-new}
use Rattle.packed_slots.proofs.store.PackedSlots.new.Goals as goal

pub invariant_of-memory : goal.invariant_of-memory
invariant_of-memory c =
    let size : length c.in_ok-bytes.bytes ≡ 2 ^ c.args.bits = ap length c.in_ok-bytes.ensures ∙ length-replicate (2 ^ c.args.bits) 0 in
    let bytes = c.len-count.ensures.value in
    let most : length c.in_ok-bytes.bytes ≤ 2 ^ 24 = omega (arith, bytes, c.len-count.ensures.most) in
    whole (packing c.in_ok-bytes.bytes c.in_ok-open_slots.open_slots None)
    (packed-new c.in_ok-bytes.bytes c.in_ok-open_slots.open_slots c.args.bits _ (omega (arith, c.requires.least)) size most (ap (λ n. n / 16) bytes)
    c.in_ok-open_slots.ensures)

pub invariant_of-result : goal.invariant_of-result
invariant_of-result c =
    let size : length c.in_ok-bytes.bytes ≡ 2 ^ c.args.bits = ap length c.in_ok-bytes.ensures ∙ length-replicate (2 ^ c.args.bits) 0 in
    let bytes = c.len-count.ensures.value in
    let most : length c.in_ok-bytes.bytes ≤ 2 ^ 24 = omega (arith, bytes, c.len-count.ensures.most) in
    packed-new c.in_ok-bytes.bytes c.in_ok-open_slots.open_slots c.args.bits _ (omega (arith, c.requires.least)) size most (ap (λ n. n / 16) bytes)
    c.in_ok-open_slots.ensures
