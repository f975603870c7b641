-- One level more.
use Rattle.std.proofs.Common.{◌∙◌, ◌+◌}
use Rattle.typestate.proofs.Descents.{numbered-below}
use Rattle.typestate.proofs.points.NotedSlots.all_touched.Goals as goal

pub returns : goal.returns
returns c = λ k so.
    c.in_ok-touched.ensures.listed
    ∙ numbered-below c.args.self.now c.args.root (k + 1) c.next_level.new.numbers.keys c.in_ok-next_level.field-0.items c.in_ok-touched.ensures.ordered
    (c.in_ok-next_level.ensures k so)
