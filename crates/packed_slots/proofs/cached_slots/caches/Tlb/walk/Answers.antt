-- The leaf of a page gives what the walk gives.
use Rattle.std.proofs.Common.{◌≡◌, ◌∙◌, ◌/◌, ◌^◌, Some, sym, ap}
use Rattle.std.specs.Option.{ok_or}
use Rattle.model.specs.Machine.Sv32.{page_fault}
use Rattle.packed_slots.specs.cached_slots.KeptLeaves.{leaf_of, place_for}
use Rattle.packed_slots.proofs.cached_slots.LeafWalks.{walk_leaf}
use Rattle.packed_slots.proofs.cached_slots.caches.Tlb.walk.Goals as goal

pub returns-in-Some : goal.returns-in-Some
returns-in-Some c =
    let kept = c.in-Some.kept in
    let is = c.in-Some.is in
    let page = c.args.address / 2 ^ 12 in
    let found : leaf_of c.args.memory.now c.args.root page ≡ Some kept.leaf =
    ap (λ r. leaf_of c.args.memory.now r page) (sym (c.find.ensures.root kept is))
    ∙ ap (λ p. leaf_of c.args.memory.now kept.root p) (sym (c.find.ensures.page kept is))
    ∙ c.requires.each (place_for c.args.root page) kept (c.find.ensures.kept kept is) in
    c.ok_or.ensures.value
    ∙ ap (λ o. ok_or o page_fault) (c.place_in.ensures ∙ sym (walk_leaf c.args.memory.now c.args.root c.args.address kept.leaf c.args.access found))
