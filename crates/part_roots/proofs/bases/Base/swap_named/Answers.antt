use Rattle.std.proofs.Common.{◌+◌, ◌*◌, map, refl}
use Rattle.part_roots.specs.Held.{held_with, names_in}
use Rattle.part_roots.specs.Looks.{put_in}
use Rattle.part_roots.proofs.RootedParts.{says_same}
use Rattle.part_roots.proofs.SwapSays.{four_puts, swap_says}
use Rattle.part_roots.proofs.bases.Base.swap_named.Goals as goal
use Rattle.typestate.specs.Replays.{exchanged}

pub returns : goal.returns
returns c = λ image slots from to unlinked is_one is_other is_first is_second says.
    let base = c.args.self.now in
    let states = base.states.now in
    let root = base.root.names in
    let held = held_with states base.root.slots c.args.draft.now.slots in
    let parents = held_with states base.root.parents c.args.draft.now.parents in
    let names = names_in base c.args.draft.now in
    let one = c.args.one.number in
    let other = c.args.other.number in
    let first = c.args.first.number in
    let second = c.args.second.number in
    let v1 = c.unless_same.result in
    let v2 = c.unless_same-2.result in
    let v3 = c.unless_same-3.result in
    let v4 = c.unless_same-4.result in
    says_same held (put_in (put_in (put_in (put_in names (2 * first) v1) (2 * second) v2) (2 * one + 1) v3) (2 * other + 1) v4) parents
    held (held_with states root c.put-4.new.puts) parents image (map (exchanged from to) slots) (λ x. refl)
    (four_puts names (held_with states root c.put.new.puts) (held_with states root c.put-2.new.puts) (held_with states root c.put-3.new.puts)
    (held_with states root c.put-4.new.puts)
    (2 * first) (2 * second) (2 * one + 1) (2 * other + 1) c.first_place.result c.first_place-2.result c.second_place.result c.second_place-2.result
    v1 v2 v3 v4 c.first_place.ensures.is c.first_place-2.ensures.is c.second_place.ensures.is c.second_place-2.ensures.is
    (c.in_ok-put.ensures c.first_place.ensures.small states root) (c.in_ok-put-2.ensures c.first_place-2.ensures.small states root)
    (c.in_ok-put-3.ensures c.second_place.ensures.small states root) (c.in_ok-put-4.ensures c.second_place-2.ensures.small states root))
    (λ x. refl)
    (swap_says held names parents image slots from to unlinked one other first second v1 v2 v3 v4 is_one is_other is_first is_second
    c.unless_same.ensures c.unless_same-2.ensures c.unless_same-3.ensures c.unless_same-4.ensures says)
