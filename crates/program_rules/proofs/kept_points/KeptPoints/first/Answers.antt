-- By the place of the point.
use Rattle.std.proofs.Common.{◌∙◌, Some, sym, ap, arith}
use Rattle.program_rules.proofs.Placed.{some-place}
use Rattle.program_rules.proofs.kept_points.KeptPoints.first.Goals as goal
use Rattle.program_rules.specs.declared.places.Place.{Place}

pub returns-then-len-point : goal.returns-then-len-point
returns-then-len-point c = λ image t slots log are less first.
    let short = c.if-len-point.true in
    let count = c.len.ensures in
    absurd (omega (arith, short, count, less))

pub returns : goal.returns
returns c = λ image t slots log are less first.
    let place = c.index.result.now in
    let got = some-place c.args.self.now.places.items c.args.point place less ∙ ap (λ (p : Place). Some p) (sym c.index.ensures) in
    c.at_place.ensures image t slots log c.args.point (are.each c.args.point place got) (first place got)
