-- There are as many ranges as registers.
use Rattle.std.proofs.Common.{◌∙◌, Some, List, ap}
use Rattle.model.specs.declared.ranges.Range.{Range}
use Rattle.settled_threads.specs.Answering.{are_known}
use Rattle.answering.proofs.Within.{known-is}
use Rattle.answering.proofs.known.AllRanges.hold.Goals as goal

pub returns : goal.returns
returns c =
    known-is c.self.inside.bounds c.args.bounds.now c.is_within.result c.self.invariant c.is_within.ensures
    ∙ ap (λ (l : List Range). are_known (Some l) c.args.bounds.now) c.self.view_is
