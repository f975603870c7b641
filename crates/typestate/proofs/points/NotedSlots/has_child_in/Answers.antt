-- Change by change, none of which leaves a child.
use Rattle.std.proofs.Common.{◌≡◌, ◌∙◌, true, false, List, sym, ap}
use Rattle.std.specs.List.{filter}
use Rattle.model.specs.Acceptance.NotedStates.{NotedSlot}
use Rattle.typestate.specs.Families.{children_in, has_parent}
use Rattle.typestate.specs.Left.{left_by}
use Rattle.typestate.proofs.Appended.{one-left-out}
use Rattle.typestate.proofs.points.NotedSlots.has_child_in.Goals as goal

pub loop-change-init : goal.loop-change-init
loop-change-init c =
    ap (λ (l : List NotedSlot). filter (λ s. has_parent c.args.parent (left_by s)) l)
    (c.into_iter-change-iterator.ensures.into_iter_gives ∙ c.block-change-items.ensures)

pub loop-change-preserved : goal.loop-change-preserved
loop-change-preserved c =
    one-left-out (λ s. has_parent c.args.parent (left_by s)) c.in-Some.change c.loop-change.change-iterator c.next.new.self
    (children_in c.args.self.now.changes.now c.args.parent c.args.block) c.in-Some.ensures.steps c.loop-change.invariant
    (sym c.leaves_child.ensures ∙ c.if-leaves_child.false)

pub returns-then-leaves_child : goal.returns-then-leaves_child
returns-then-leaves_child c = λ clash. absurd (let no : true ≡ false = clash in cc)

pub returns : goal.returns
returns c = λ _.
    sym c.loop-change.invariant ∙ ap (λ (l : List NotedSlot). filter (λ s. has_parent c.args.parent (left_by s)) l) c.in-None.ensures.steps.0
