-- One bit is set, and none is cleared.
use Rattle.std.proofs.Common.{◌%◌, ◌*◌, ◌^◌, w64, arith}
use Rattle.std.proofs.lemmas.Nat.Bits.{bit_at-lt, bit_at_or, bit_at_set_same}
use Rattle.parts.proofs.object_sets.with_bit.Goals as goal

pub returns-clause-own : goal.returns-clause-own
returns-clause-own c = bit_at_set_same w64 c.args.word (c.args.bit % 64) (omega arith)

pub returns-clause-kept : goal.returns-clause-kept
returns-clause-kept c = λ i is.
    let mask = 1 * 2 ^ (c.args.bit % 64) % 2 ^ 64 in
    omega (arith, is, bit_at_or c.args.word mask i, bit_at-lt mask i)
