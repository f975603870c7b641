-- All words are zero.
use Rattle.std.proofs.Common.{◌^◌}
use Rattle.cnode_ops.proofs.MarkedSlots.{none-marked}
use Rattle.cnode_ops.proofs.marks.Marks.none.Goals as goal

pub returns : goal.returns
returns c = none-marked (2 ^ 14) _ c.zeros.ensures
