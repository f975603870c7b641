-- One bit is set or cleared.
use Rattle.std.proofs.Common.{◌∙◌, ◌==◌, ◌%◌, w64, sym, ap, arith}
use Rattle.std.proofs.lemmas.Nat.Bits.{bit_at_clear_other, bit_at_clear_same, bit_at_set_other, bit_at_set_same}
use Rattle.packed_slots.proofs.open_slots.with_bit.Goals as goal

pub returns-then-value-clause-own : goal.returns-then-value-clause-own
returns-then-value-clause-own c = ap (λ b. b == 1) (bit_at_set_same w64 c.args.word (c.args.bit % 64) (omega arith)) ∙ sym c.if-value.true

pub returns-then-value-clause-others : goal.returns-then-value-clause-others
returns-then-value-clause-others c = λ i low apart. bit_at_set_other w64 c.args.word (c.args.bit % 64) (omega arith) i apart

pub returns-else-value-clause-own : goal.returns-else-value-clause-own
returns-else-value-clause-own c = ap (λ b. b == 1) (bit_at_clear_same w64 c.args.word (c.args.bit % 64) (omega arith)) ∙ sym c.if-value.false

pub returns-else-value-clause-others : goal.returns-else-value-clause-others
returns-else-value-clause-others c = bit_at_clear_other w64 c.args.word (c.args.bit % 64) (omega arith)
