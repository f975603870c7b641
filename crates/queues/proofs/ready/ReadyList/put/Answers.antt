-- A priority has the ends, and its mark says whether it has a first one.
use Rattle.std.proofs.Common.{◌∙◌}
use Rattle.queues.proofs.Marks.{marked-put}
use Rattle.queues.proofs.ready.ReadyList.put.Goals as goal

pub invariant_of-self : goal.invariant_of-self
invariant_of-self c =
    marked-put c.self.inside.ends c.self.inside.marks c.mark.new.marks c.args.priority c.args.ends c.self.invariant c.requires
    (c.mark.ensures.own ∙ c.is_some.ensures) c.mark.ensures.others
