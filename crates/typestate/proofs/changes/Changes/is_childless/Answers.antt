-- Each child has the link to its block from the name of the slot's family.
use Rattle.std.proofs.Common.{ℕ, ◌≡◌, ◌∙◌, ◌==◌, ◌*◌, ◌/◌, true, false, List, sym, ap, subst}
use Rattle.std.specs.List.{filter}
use Rattle.std.specs.Option.{option_map_or}
use Rattle.model.specs.Acceptance.NotedStates.{NotedSlot, number_of}
use Rattle.typestate.specs.Families.{found, has_link, has_parent}
use Rattle.typestate.specs.Left.{left_by}
use Rattle.typestate.specs.Names.{renamed}
use Rattle.typestate.proofs.LastLinks.{none-passes}
use Rattle.typestate.proofs.NumberedChanges.{child-linked}
use Rattle.typestate.proofs.changes.Changes.is_childless.Goals as goal

pub returns : goal.returns
returns c = λ rises none.
    let names = c.self.inside.names in
    let es = c.self.inside.packed.entries in
    let links = c.self.inside.families.links.keys in
    let parent = c.args.parent in
    let name = renamed names.names.entries (number_of parent) in
    let is = c.name.ensures ∙ ap (renamed names.names.entries) c.number.ensures in
    none-passes name (λ s. has_parent parent (left_by s)) links c.args.self.now rises
    (ap (λ (m : ℕ). filter (λ (q : ℕ × ℕ). q.0 == m) links) (sym is) ∙ c.has_none.ensures none)
    (subst (λ (l : List NotedSlot). (slot : ℕ) → option_map_or (λ s. has_parent parent (left_by s)) (found l slot) false ≡ true →
    has_link links name (slot / 16 * 16) ≡ true) c.self.view_is
    (child-linked names.slots.entries names.names.entries es links parent c.self.invariant.0 c.self.invariant.1))
