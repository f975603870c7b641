-- The children of the slot that is named are what goes.
use Rattle.std.proofs.Common.{◌≡◌, ◌∙◌, ◌++◌, List, sym, ap, subst}
use Rattle.std.specs.List.{flat_map}
use Rattle.model.specs.Acceptance.NotedStates.{NotedSlot}
use Rattle.typestate.specs.Families.{children_of}
use Rattle.typestate.specs.Levels.{all_below, touched_by}
use Rattle.typestate.specs.Orders.{Rise}
use Rattle.typestate.specs.declared.slot_changes.Removed.{Removed}
use Rattle.typestate.proofs.SingleLevel.{children-rise, single-below, single-touched}
use Rattle.typestate.proofs.points.NotedSlots.single_level.Goals as goal

pub returns-then-are_childless-clause-listed : goal.returns-then-are_childless-clause-listed
returns-then-are_childless-clause-listed c =
    let n = c.args.self.now in
    let root = c.in-Below.root in
    let is : c.note_children_of.new.found.items ≡ children_of n.changes.now root = c.in_ok-note_children_of.ensures
    ∙ ap (λ (l : List NotedSlot). l ++ children_of n.changes.now root) c.new-children.ensures.items in
    is ∙ single-below n root (ap (λ (l : List NotedSlot). flat_map (λ (s : NotedSlot). children_of n.changes.now s.key) l) (sym is ∙ sym c.deref.ensures.value)
    ∙ c.are_childless.ensures c.if-are_childless.true)
    ∙ ap (λ (w : Removed). all_below n w) (sym c.in-Below.is)

pub returns-then-are_childless-clause-told : goal.returns-then-are_childless-clause-told
returns-then-are_childless-clause-told c =
    let n = c.args.self.now in
    let root = c.in-Below.root in
    let is : c.note_children_of.new.found.items ≡ children_of n.changes.now root = c.in_ok-note_children_of.ensures
    ∙ ap (λ (l : List NotedSlot). l ++ children_of n.changes.now root) c.new-children.ensures.items in
    is ∙ single-touched n root (ap (λ (l : List NotedSlot). flat_map (λ (s : NotedSlot). children_of n.changes.now s.key) l)
    (sym is ∙ sym c.deref.ensures.value)
    ∙ c.are_childless.ensures c.if-are_childless.true)
    ∙ ap (λ (w : Removed). touched_by n w) (sym c.in-Below.is)

pub returns-then-are_childless-clause-rising : goal.returns-then-are_childless-clause-rising
returns-then-are_childless-clause-rising c =
    let n = c.args.self.now in
    let root = c.in-Below.root in
    let is : c.note_children_of.new.found.items ≡ children_of n.changes.now root = c.in_ok-note_children_of.ensures
    ∙ ap (λ (l : List NotedSlot). l ++ children_of n.changes.now root) c.new-children.ensures.items in
    subst Rise (sym is) (children-rise n root)
