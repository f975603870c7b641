-- The place of the point says it.
use Rattle.std.proofs.Common.{◌∙◌, ◌<◌, Some, length, sym, ap, arith}
use Rattle.program_rules.proofs.Placed.{known-at, some-place}
use Rattle.program_rules.proofs.kept_points.KeptPoints.has_state.Goals as goal
use Rattle.program_rules.specs.declared.places.Place.{Place}

pub returns : goal.returns
returns c = λ yes image t slots log are.
    let places = c.args.self.now.places.items in
    let long = c.if-len-point.false in
    let count = c.len.ensures in
    let less : c.args.point < length places = omega (arith, long, count) in
    let place = c.index.result.now in
    let got = some-place places c.args.point place less ∙ ap (λ (p : Place). Some p) (sym c.index.ensures) in
    known-at image t slots log c.args.self.now c.args.point place (are.each c.args.point place got) (sym c.has_state.ensures ∙ yes)
