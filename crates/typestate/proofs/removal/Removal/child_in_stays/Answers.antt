-- Change by change.
use Rattle.std.proofs.Common.{◌∙◌, Bool, false, List, sym, ap}
use Rattle.std.specs.List.{filter, list_any}
use Rattle.std.specs.Option.{option_map_or}
use Rattle.model.specs.Acceptance.NotedStates.{NotedSlot}
use Rattle.typestate.specs.ChangeLists.{kept_child}
use Rattle.typestate.specs.Differences.{left_by, slots_of}
use Rattle.typestate.specs.Families.{children_in, has_parent}
use Rattle.typestate.specs.declared.points.NotedSlots.{NotedSlots}
use Rattle.typestate.proofs.Appended.{first-passes-both, later-passes-both}
use Rattle.typestate.proofs.removal.Removal.child_in_stays.Goals as goal

pub loop-change-init : goal.loop-change-init
loop-change-init c =
    let n : NotedSlots = c.args.self.now.slots in
    let stays : NotedSlot → Bool = λ s. option_map_or (kept_child (slots_of n) c.args.self.now.which c.args.key) (left_by s) false in
    ap (λ (l : List NotedSlot). list_any stays (filter (λ s. has_parent c.args.key (left_by s)) l))
    (c.into_iter-change-iterator.ensures.into_iter_gives ∙ c.block-change-items.ensures)

pub loop-change-preserved : goal.loop-change-preserved
loop-change-preserved c =
    let n : NotedSlots = c.args.self.now.slots in
    let stays : NotedSlot → Bool = λ s. option_map_or (kept_child (slots_of n) c.args.self.now.which c.args.key) (left_by s) false in
    later-passes-both (λ s. has_parent c.args.key (left_by s)) stays c.in-Some.change c.loop-change.change-iterator c.next.new.self
    (list_any stays (children_in n.changes.now c.args.key c.args.block)) c.in-Some.ensures.steps c.loop-change.invariant
    (sym c.child_stays.ensures ∙ c.if-child_stays.false)

pub returns-then-child_stays : goal.returns-then-child_stays
returns-then-child_stays c =
    let n : NotedSlots = c.args.self.now.slots in
    let stays : NotedSlot → Bool = λ s. option_map_or (kept_child (slots_of n) c.args.self.now.which c.args.key) (left_by s) false in
    sym (first-passes-both (λ s. has_parent c.args.key (left_by s)) stays c.in-Some.change c.loop-change.change-iterator c.next.new.self
    (list_any stays (children_in n.changes.now c.args.key c.args.block)) c.in-Some.ensures.steps c.loop-change.invariant
    (sym c.child_stays.ensures ∙ c.if-child_stays.true))

pub returns : goal.returns
returns c =
    let n : NotedSlots = c.args.self.now.slots in
    let stays : NotedSlot → Bool = λ s. option_map_or (kept_child (slots_of n) c.args.self.now.which c.args.key) (left_by s) false in
    sym (sym c.loop-change.invariant ∙ ap (λ (l : List NotedSlot). list_any stays (filter (λ s. has_parent c.args.key (left_by s)) l))
    c.in-None.ensures.steps.0)
