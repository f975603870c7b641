-- The point is put behind the others.
use Rattle.std.proofs.Common.{◌∙◌, ◌++◌, ◌∷◌, [], ap}
use Rattle.program_rules.proofs.Placed.{all-kept, each-pushed, longer-same}
use Rattle.program_rules.proofs.kept_points.KeptPoints.push.Goals as goal

pub returns-clause-kept : goal.returns-clause-kept
returns-clause-kept c = λ image t slots log same count lasts is old.
    let kept = c.keep.new.self in
    let new = record kept { places = c.push.new.self; steps = c.if-is_step.self } in
    let more = all-kept kept new (longer-same kept.whole.items) (longer-same kept.recorded.items) (longer-same kept.called.items) in
    each-pushed image t slots log c.args.self.now new c.args.self.now.places.items c.in_ok-place.place c.args.visit.now.point
    (c.in_ok-push.ensures.items ∙ ap (λ v. v.items ++ c.in_ok-place.place ∷ []) c.in_ok-place.ensures.same) count old.each
    (λ i u s l n p at. more i u s l n p (c.in_ok-place.ensures.others i u s l n p at))
    (more image t slots log c.args.visit.now.point c.in_ok-place.place (c.in_ok-place.ensures.at image t slots log same lasts is))
