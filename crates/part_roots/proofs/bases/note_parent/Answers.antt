use Rattle.std.proofs.Common.{◌≡◌, ◌∙◌, ◌*◌, ap, sym}
use Rattle.std.proofs.lemmas.Option.{same_Some}
use Rattle.part_roots.specs.Held.{held_with}
use Rattle.part_roots.proofs.HeldPuts.{parent_kept, parent_noted}
use Rattle.part_roots.proofs.bases.note_parent.Goals as goal

pub returns-clause-noted : goal.returns-clause-noted
returns-clause-noted c = λ entries root n is small.
    let same : c.in-Some-new.name.number ≡ n = c.in-Some-new.ensures.some ∙ same_Some c.in-Some.number n (sym c.in-Some.is ∙ is) in
    parent_noted (held_with entries root c.args.puts.now) (held_with entries root c.put.new.puts) c.first_place.result n
    (c.in_ok-put.ensures c.first_place.ensures.small entries root) (c.first_place.ensures.is ∙ ap (λ k. 2 * k) same)

pub returns-clause-kept : goal.returns-clause-kept
returns-clause-kept c = λ entries root n.
    parent_kept (held_with entries root c.args.puts.now) (held_with entries root c.put.new.puts) c.first_place.result n
    (c.in_ok-put.ensures c.first_place.ensures.small entries root)
