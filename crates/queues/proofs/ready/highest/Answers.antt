-- No word is left, and none of them has a mark.
use Rattle.std.proofs.Common.{None, arith}
use Rattle.queues.proofs.ready.highest.Goals as goal

pub returns : goal.returns
returns c = c.words.invariant.left None (λ other below. absurd (omega (arith, below, c.words-test.false)))
