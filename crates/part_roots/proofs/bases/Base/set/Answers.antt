use Rattle.std.proofs.Common.{ℕ, ◌+◌, ◌*◌, ◌≡◌, ◌∙◌, option_map, ap, refl, subst, sym}
use Rattle.model.specs.Acceptance.NotedStates.{number_of, with_noted}
use Rattle.part_roots.specs.Held.{held_with, names_in}
use Rattle.part_roots.specs.Looks.{look_of, put_in, said_by, slot_named}
use Rattle.part_roots.proofs.RootedParts.{says_same}
use Rattle.part_roots.proofs.SetSays.{set_says, two_puts}
use Rattle.part_roots.proofs.bases.Base.set.Goals as goal
use Rattle.typestate.specs.Differences.{left_by, slots_of}

pub returns : goal.returns
returns c = λ _ slots says.
    let base = c.args.self.now in
    let states = base.states.now in
    let held = held_with states base.root.slots c.args.draft.now.slots in
    let names = names_in base c.args.draft.now in
    let parents = held_with states base.root.parents c.args.draft.now.parents in
    let more = held_with states base.root.parents c.note_parent.new.puts in
    let image = slots_of c.args.image.now in
    let n = c.in-Some.slot.number in
    let words = c.in-Some-leaves.leaves.words in
    let parent = c.in-Some-leaves.leaves.parent in
    let place : number_of c.args.change.key ≡ n = sym (c.in-Some.ensures.some ∙ ap number_of c.key.ensures) in
    let says_leaves = subst (λ (k : ℕ). said_by (slot_named names) image k words parent ≡ option_map look_of (left_by c.args.change)) place
    (c.in-Some-leaves.ensures.says (λ x. (says.names_back x).0)) in
    says_same (put_in (put_in held (2 * n) words) (2 * n + 1) parent) names more (held_with states base.root.slots c.put-2.new.puts) names more image
    (with_noted slots c.args.change)
    (two_puts held (held_with states base.root.slots c.put.new.puts) (held_with states base.root.slots c.put-2.new.puts) n c.first_place.result
    c.second_place.result words parent c.first_place.ensures.is c.second_place.ensures.is
    (c.in_ok-put.ensures c.first_place.ensures.small states base.root.slots) (c.in_ok-put-2.ensures c.second_place.ensures.small states base.root.slots))
    (λ x. refl) (λ x. refl)
    (set_says held names parents more image slots c.args.change n words parent place says_leaves
    (λ name is. c.in_ok-note_parent.ensures.noted states base.root.parents name is (c.in-Some-leaves.ensures.small name is))
    (c.in_ok-note_parent.ensures.kept states base.root.parents) says)
