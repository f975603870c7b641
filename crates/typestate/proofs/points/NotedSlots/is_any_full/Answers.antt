-- By what the image lists, where no change is to one of them.
use Rattle.std.proofs.Common.{◌∙◌}
use Rattle.typestate.proofs.VacantSlots.{none-changed}
use Rattle.typestate.proofs.points.NotedSlots.is_any_full.Goals as goal

pub returns-then-has_none_of : goal.returns-then-has_none_of
returns-then-has_none_of c =
    let noted = c.args.self.now in
    c.lists_any.ensures
    ∙ none-changed noted.image.now noted.changes.now c.args.run.now.first c.args.run.now.count noted.ordered (c.has_none_of.ensures c.if-has_none_of.true)
