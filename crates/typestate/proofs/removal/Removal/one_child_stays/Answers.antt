-- Block by block.
use Rattle.std.proofs.Common.{ℕ, ◌∙◌, Bool, false, List, sym, ap}
use Rattle.std.specs.List.{flat_map, list_any}
use Rattle.std.specs.Option.{option_map_or}
use Rattle.model.specs.Acceptance.NotedStates.{NotedSlot}
use Rattle.typestate.specs.ChangeLists.{kept_child}
use Rattle.typestate.specs.Differences.{left_by, slots_of}
use Rattle.typestate.specs.Families.{children_in, children_of}
use Rattle.typestate.specs.declared.points.NotedSlots.{NotedSlots}
use Rattle.typestate.proofs.Appended.{first-passes, later-passes}
use Rattle.typestate.proofs.removal.Removal.one_child_stays.Goals as goal

pub loop-link-init : goal.loop-link-init
loop-link-init c =
    let n : NotedSlots = c.args.self.now.slots in
    let test : NotedSlot → Bool = λ s. option_map_or (kept_child (slots_of n) c.args.self.now.which c.args.key) (left_by s) false in
    ap (λ (l : List (ℕ × ℕ)). list_any test (flat_map (λ (q : ℕ × ℕ). children_in n.changes.now c.args.key q.1) l))
    c.into_iter-link-iterator.ensures.into_iter_gives
    ∙ ap (list_any test) c.links-link-items.ensures

pub loop-link-preserved : goal.loop-link-preserved
loop-link-preserved c =
    let n : NotedSlots = c.args.self.now.slots in
    let test : NotedSlot → Bool = λ s. option_map_or (kept_child (slots_of n) c.args.self.now.which c.args.key) (left_by s) false in
    later-passes (ℕ × ℕ) (λ (q : ℕ × ℕ). children_in n.changes.now c.args.key q.1) test c.in-Some.link.now c.loop-link.link-iterator c.next.new.self
    (list_any test (children_of n.changes.now c.args.key)) c.in-Some.ensures.steps c.loop-link.invariant
    (sym c.child_in_stays.ensures ∙ c.if-child_in_stays.false)

pub returns-then-child_in_stays : goal.returns-then-child_in_stays
returns-then-child_in_stays c =
    let n : NotedSlots = c.args.self.now.slots in
    let test : NotedSlot → Bool = λ s. option_map_or (kept_child (slots_of n) c.args.self.now.which c.args.key) (left_by s) false in
    sym (first-passes (ℕ × ℕ) (λ (q : ℕ × ℕ). children_in n.changes.now c.args.key q.1) test c.in-Some.link.now c.loop-link.link-iterator c.next.new.self
    (list_any test (children_of n.changes.now c.args.key)) c.in-Some.ensures.steps c.loop-link.invariant
    (sym c.child_in_stays.ensures ∙ c.if-child_in_stays.true))
