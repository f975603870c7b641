-- One bit is set.
use Rattle.std.proofs.Common.{◌%◌, w64, arith}
use Rattle.std.proofs.lemmas.Nat.Bits.{bit_at_set_other, bit_at_set_same}
use Rattle.cnode_ops.proofs.bits.with_bit.Goals as goal

pub returns-clause-own : goal.returns-clause-own
returns-clause-own c = bit_at_set_same w64 c.args.word (c.args.bit % 64) (omega arith)

pub returns-clause-others : goal.returns-clause-others
returns-clause-others c = λ i low apart. bit_at_set_other w64 c.args.word (c.args.bit % 64) (omega arith) i apart
