-- The call is put behind those that are kept.
use Rattle.std.proofs.Common.{rules, ◌≡◌, ◌∙◌, length, sym, subst}
use Rattle.std.specs.Vec.{vec_len}
use Rattle.program_rules.proofs.Placed.{all-kept, longer-pushed, longer-same, next-called}
use Rattle.program_rules.proofs.kept_points.KeptPoints.keep_call.Goals as goal
use Rattle.program_rules.specs.Kept.{IsNextAt, Kept}
use Rattle.program_rules.specs.declared.at_points.AtPoint.TheVariants as kept
use Rattle.program_rules.specs.declared.places.Place.TheVariants as place

pub returns-clause-others : goal.returns-clause-others
returns-clause-others c =
    let old = c.args.self.now in
    all-kept old (record old { called = c.push.new.self }) (longer-same old.whole.items) (longer-same old.recorded.items)
    (longer-pushed old.called.items c.push.new.self.items c.in-Some.called c.in_ok-push.ensures.items)

pub returns-clause-at : goal.returns-clause-at
returns-clause-at c = λ point some.
    let old = c.args.self.now in
    let new = record old { called = c.push.new.self } in
    let own = c.args.program.now.given.space.thread.now in
    let count : vec_len old.called ≡ length old.called.items = search rules in
    subst (λ (last : Kept). IsNextAt own new last point (kept.Known c.args.known.now) (place.Called c.in_ok-at.at)) (sym c.in-Known.is)
    (next-called own new c.in-Known.before c.args.known.now old.called.items c.in-Some.called point c.in_ok-at.at some c.in_ok-push.ensures.items
    (c.in_ok-at.ensures ∙ c.len.ensures ∙ count) c.in-Some.ensures)
