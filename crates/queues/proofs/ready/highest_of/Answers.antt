-- The bits of one more word.
use Rattle.std.proofs.Common.{refl}
use Rattle.queues.proofs.Marks.{highest-bit}
use Rattle.queues.proofs.ready.highest_of.Goals as goal

pub returns-else-word-eq0-clause-found : goal.returns-else-word-eq0-clause-found
returns-else-word-eq0-clause-found c =
    highest-bit c.args.marks.now c.args.number _ c.ilog2.result refl c.ilog2.ensures.bound c.ilog2.ensures.power_le c.ilog2.ensures.next_power_gt
