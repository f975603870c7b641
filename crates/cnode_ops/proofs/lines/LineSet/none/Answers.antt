-- No bit is set.
use Rattle.std.proofs.Common.{refl}
use Rattle.cnode_ops.proofs.LineSets.{no-line}
use Rattle.cnode_ops.proofs.lines.LineSet.none.Goals as goal

pub returns : goal.returns
returns c = no-line _ refl
