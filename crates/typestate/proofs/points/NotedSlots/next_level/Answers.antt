-- What is noted are the children of the newest.
use Rattle.std.proofs.Common.{ℕ, suc, ◌≡◌, ◌∙◌, ◌==◌, ◌+◌, ◌||◌, List, ap, subst, arith}
use Rattle.std.specs.List.{flat_map, list_any}
use Rattle.model.specs.Acceptance.NotedStates.{NotedSlot, number_of}
use Rattle.typestate.specs.Descents.{AreBelow, if_other, is_found}
use Rattle.typestate.proofs.Descents.{more-below}
use Rattle.typestate.proofs.points.NotedSlots.next_level.Goals as goal

pub returns : goal.returns
returns c = λ k so.
    let n = c.args.self.now in
    let root = c.args.root in
    let old = c.args.numbers.now.keys in
    let new = c.note_numbers.new.numbers.keys in
    let next = c.in_ok-next.next.items in
    let one : suc k ≡ k + 1 = omega arith in
    subst (λ (j : ℕ). AreBelow j n root new next) one
    (more-below n root k old new c.args.newest.now c.in_ok-children.children.items next c.in_ok-children.ensures
    (λ m. c.in_ok-note_numbers.ensures m ∙ ap (λ (l : List NotedSlot). is_found old m || list_any (λ c. number_of c.key == m) l) c.deref.ensures.value)
    (c.in_ok-next.ensures ∙ ap (λ (l : List NotedSlot). flat_map (if_other root) l) c.deref-2.ensures.value) so)
