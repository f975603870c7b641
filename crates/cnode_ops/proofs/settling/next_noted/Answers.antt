-- The start of the block, or the slot itself.
use Rattle.std.proofs.Common.{arith}
use Rattle.cnode_ops.specs.Unsettled.{stays}
use Rattle.cnode_ops.proofs.Unsettling.{lands-next}
use Rattle.cnode_ops.proofs.settling.next_noted.Goals as goal

pub returns-then-start-block : goal.returns-then-start-block
returns-then-start-block c =
    lands-next c.args.starts.now c.args.at c.later.block c.max.result (omega (arith, c.later-test.true)) (omega (arith, c.if-start-block.true)) c.max.ensures
    c.later.invariant

pub returns : goal.returns
returns c = stays
