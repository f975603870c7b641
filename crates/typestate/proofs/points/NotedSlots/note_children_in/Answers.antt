-- Change by change.
use Rattle.std.proofs.Common.{◌∙◌, ◌++◌, List, ap}
use Rattle.std.specs.List.{filter}
use Rattle.model.specs.Acceptance.NotedStates.{NotedSlot}
use Rattle.typestate.specs.Families.{children_in, has_parent}
use Rattle.typestate.specs.Left.{left_by}
use Rattle.typestate.proofs.Appended.{one-more-kept}
use Rattle.typestate.proofs.points.NotedSlots.note_children_in.Goals as goal

pub loop-change-init : goal.loop-change-init
loop-change-init c =
    ap (λ (l : List NotedSlot). c.args.found.now.items ++ filter (λ s. has_parent c.args.parent (left_by s)) l)
    (c.into_iter-change-iterator.ensures.into_iter_gives ∙ c.block-change-items.ensures)

pub loop-change-preserved : goal.loop-change-preserved
loop-change-preserved c =
    one-more-kept (λ s. has_parent c.args.parent (left_by s)) c.in-Some.change c.loop-change.change-iterator c.next.new.self c.loop-change.found.items
    c.note_child.new.list.items (c.args.found.now.items ++ children_in c.args.self.now.changes.now c.args.parent c.args.block) c.in-Some.ensures.steps
    c.loop-change.invariant c.in_ok-note_child.ensures
