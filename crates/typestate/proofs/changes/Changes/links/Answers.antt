-- By the name of the slot's family.
use Rattle.std.proofs.Common.{ℕ, ◌∙◌, ◌≡◌, ◌==◌, ◌*◌, ◌/◌, true, false, List, ap, subst}
use Rattle.std.specs.List.{filter, flat_map}
use Rattle.std.specs.Option.{option_map_or}
use Rattle.model.specs.Acceptance.NotedStates.{NotedSlot, number_of}
use Rattle.typestate.specs.Families.{children_in, found, has_link, has_parent}
use Rattle.typestate.specs.Left.{left_by}
use Rattle.typestate.specs.Names.{renamed}
use Rattle.typestate.proofs.Linked.{linked-children}
use Rattle.typestate.proofs.NumberedChanges.{child-linked}
use Rattle.typestate.proofs.changes.Changes.links.Goals as goal

pub returns : goal.returns
returns c =
    let names = c.self.inside.names in
    let es = c.self.inside.packed.entries in
    let links = c.self.inside.families.links.keys in
    let parent = c.args.parent in
    let is = c.name.ensures ∙ ap (renamed names.names.entries) c.number.ensures in
    ap (λ (l : List (ℕ × ℕ)). flat_map (λ (q : ℕ × ℕ). children_in c.args.self.now parent q.1) l)
    (c.named.ensures.links ∙ ap (λ (m : ℕ). filter (λ (q : ℕ × ℕ). q.0 == m) links) is)
    ∙ linked-children c.args.self.now parent (renamed names.names.entries (number_of parent)) links c.requires
    (subst (λ (l : List NotedSlot). (slot : ℕ) → option_map_or (λ s. has_parent parent (left_by s)) (found l slot) false ≡ true →
    has_link links (renamed names.names.entries (number_of parent)) (slot / 16 * 16) ≡ true) c.self.view_is
    (child-linked names.slots.entries names.names.entries es links parent c.self.invariant.0 c.self.invariant.1))
    c.named.ensures.ordered
