-- By the changes alone.
use Rattle.std.proofs.Common.{◌∙◌, sym}
use Rattle.typestate.proofs.ChangedParents.{parent-changed}
use Rattle.typestate.proofs.points.NotedSlots.parent.Goals as goal

pub returns : goal.returns
returns c =
    let noted = c.args.self.now in
    c.parent_left.ensures ∙ sym (parent-changed noted.image.now noted.changes.now c.args.key noted.ordered noted.unlinked)
