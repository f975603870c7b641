-- Block by block.
use Rattle.std.proofs.Common.{ℕ, ◌∙◌, ◌++◌, List, sym, ap}
use Rattle.std.specs.List.{flat_map}
use Rattle.model.specs.Acceptance.NotedStates.{NotedSlot}
use Rattle.typestate.specs.Families.{children_in, children_of}
use Rattle.typestate.proofs.Appended.{one-more-listed}
use Rattle.typestate.proofs.Linked.{append-none}
use Rattle.typestate.proofs.points.NotedSlots.note_children_of.Goals as goal

pub returns-then-is_childless : goal.returns-then-is_childless
returns-then-is_childless c =
    sym (append-none c.args.found.now.items)
    ∙ ap (λ (l : List NotedSlot). c.args.found.now.items ++ l) (sym (c.is_childless.ensures c.args.self.now.ordered c.if-is_childless.true))

pub loop-link-init : goal.loop-link-init
loop-link-init c =
    let changes = c.args.self.now.changes.now in
    ap (λ (l : List (ℕ × ℕ)). c.args.found.now.items ++ flat_map (λ (q : ℕ × ℕ). children_in changes c.args.parent q.1) l)
    c.into_iter-link-iterator.ensures.into_iter_gives
    ∙ ap (λ (l : List NotedSlot). c.args.found.now.items ++ l) c.links-link-items.ensures

pub loop-link-preserved : goal.loop-link-preserved
loop-link-preserved c =
    let changes = c.args.self.now.changes.now in
    one-more-listed (ℕ × ℕ) (λ (q : ℕ × ℕ). children_in changes c.args.parent q.1) c.in-Some.link.now c.loop-link.link-iterator c.next.new.self
    c.loop-link.found.items c.note_children_in.new.found.items (c.args.found.now.items ++ children_of changes c.args.parent)
    c.in-Some.ensures.steps c.loop-link.invariant c.in_ok-note_children_in.ensures
