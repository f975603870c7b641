-- Link by link, none of which leads to a child.
use Rattle.std.proofs.Common.{ℕ, ◌≡◌, ◌∙◌, true, false, List, [], sym, ap}
use Rattle.std.specs.List.{flat_map}
use Rattle.typestate.specs.Families.{children_in, children_of}
use Rattle.typestate.proofs.Appended.{one-more-listed}
use Rattle.typestate.proofs.points.NotedSlots.has_child.Goals as goal

pub returns-then-is_childless : goal.returns-then-is_childless
returns-then-is_childless c = λ _. c.is_childless.ensures c.args.self.now.ordered c.if-is_childless.true

pub returns-then-has_child_in : goal.returns-then-has_child_in
returns-then-has_child_in c = λ clash. absurd (let no : true ≡ false = clash in cc)

pub loop-link-init : goal.loop-link-init
loop-link-init c =
    let changes = c.args.self.now.changes.now in
    ap (λ (l : List (ℕ × ℕ)). flat_map (λ (q : ℕ × ℕ). children_in changes c.args.parent q.1) l) c.into_iter-link-iterator.ensures.into_iter_gives
    ∙ c.links-link-items.ensures

pub loop-link-preserved : goal.loop-link-preserved
loop-link-preserved c =
    let changes = c.args.self.now.changes.now in
    one-more-listed (ℕ × ℕ) (λ (q : ℕ × ℕ). children_in changes c.args.parent q.1) c.in-Some.link.now c.loop-link.link-iterator c.next.new.self [] []
    (children_of changes c.args.parent) c.in-Some.ensures.steps c.loop-link.invariant (sym (c.has_child_in.ensures c.if-has_child_in.false))
