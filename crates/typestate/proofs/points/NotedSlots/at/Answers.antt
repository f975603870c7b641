-- Among the changes first, and then among the image's slots.
use Rattle.std.proofs.Common.{◌∙◌, Option, sym, ap}
use Rattle.model.specs.Acceptance.NotedStates.{NotedSlot, slot_at}
use Rattle.typestate.proofs.OrderedChanges.{changed-at, found_or}
use Rattle.typestate.proofs.Rising.{from-first}
use Rattle.typestate.proofs.points.NotedSlots.at.Goals as goal

pub returns-in-Some : goal.returns-in-Some
returns-in-Some c =
    let noted = c.args.self.now in
    c.left.ensures ∙ ap (λ (found : Option NotedSlot). found_or found (slot_at noted.image.now c.args.key)) (c.in-Some.ensures)
    ∙ sym (changed-at noted.changes.now noted.image.now 0 c.args.key (from-first noted.changes.now noted.ordered))

pub returns-in-None : goal.returns-in-None
returns-in-None c =
    let noted = c.args.self.now in
    c.listed.ensures ∙ ap (λ (found : Option NotedSlot). found_or found (slot_at noted.image.now c.args.key)) (c.in-None.ensures)
    ∙ sym (changed-at noted.changes.now noted.image.now 0 c.args.key (from-first noted.changes.now noted.ordered))
